-- An entry of an ITT (§6.4).
use Rattle.std.specs.Prelude.{ℕ, ◌^◌, ◌<◌, Bool, not, eqb}
use Rattle.fields.specs.Field.{get_field, put_field}
use Rattle.entries.specs.declared.EventEntry.{EventEntry}

-- Inner: what the entry has room for: 16 bits of next, 32 bits of LPI, 16 bits of ICID
pub record EventFits (e : EventEntry) : Type 0 where
  pub next : e.next < 2 ^ 16
  pub lpi : e.lpi < 2 ^ 32
  pub icid : e.icid < 2 ^ 16

-- §6.4, §6.5: blank where the LPI, all 32 bits, is 0; else valid
unfoldable pub is_event : ℕ → Bool
is_event w = not (eqb (get_field w 16 32) 0)

-- §6.4: next from [63:48], LPI from [47:16], all 32 bits, and ICID from [15:0]
unfoldable pub event_of : ℕ → EventEntry
event_of w = record { next = get_field w 48 16; lpi = get_field w 16 32; icid = get_field w 0 16 }

-- §6.4: the entry as written: the same places
unfoldable pub event_word : EventEntry → ℕ
event_word e = put_field (put_field (put_field 0 0 16 e.icid) 16 32 e.lpi) 48 16 e.next
