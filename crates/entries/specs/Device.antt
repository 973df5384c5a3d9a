-- An entry of the device table (§6.2).
use Rattle.std.specs.Prelude.{ℕ, ◌+◌, ◌-◌, ◌*◌, ◌/◌, ◌%◌, ◌^◌, ◌≤◌, ◌<◌, ◌≡◌, Bool, eqb}
use Rattle.fields.specs.Field.{get_field, put_field}
use Rattle.entries.specs.declared.DeviceEntry.{DeviceEntry}

-- Inner: what the entry has room for: 14 bits of next, bits [51:8] of the ITT's address, 5 bits of the bit count less one
pub record DeviceFits (e : DeviceEntry) : Type 0 where
  pub next : e.next < 2 ^ 14
  pub itt : e.itt < 2 ^ 52
  pub page : e.itt % 256 ≡ 0
  pub low : 1 ≤ e.bits
  pub high : e.bits ≤ 32

-- §6.2, §6.5: valid where V, bit 63, is 1; else blank
unfoldable pub is_device : ℕ → Bool
is_device w = eqb (get_field w 63 1) 1

-- §6.2: next from [62:49], bits [51:8] of the ITT's address from [48:5] (so 256 divides it), bits − 1 from [4:0]
unfoldable pub device_of : ℕ → DeviceEntry
device_of w = record { next = get_field w 49 14; itt = get_field w 5 44 * 256; bits = get_field w 0 5 + 1 }

-- §6.2: the entry as written: the same places, and V set
unfoldable pub device_word : DeviceEntry → ℕ
device_word e = put_field (put_field (put_field (put_field 0 0 5 (e.bits - 1)) 5 44 (e.itt / 256)) 49 14 e.next) 63 1 1
