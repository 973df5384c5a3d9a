-- Inner: a device table or an ITT as chained entries: true for a device table.
use Rattle.std.specs.Prelude.{ℕ, ◌/◌, Bool, true, false, List, length}
use Rattle.entries.specs.Device.{is_device, device_of}
use Rattle.entries.specs.Event.{is_event, event_of}
use Rattle.chains.specs.Slots.{Cap, uncapped, Slots}
use Rattle.tables.specs.Bytes.{entry_at, device_cap}

unfoldable pub valid_of : Bool → ℕ → Bool
valid_of true w = is_device w
valid_of false w = is_event w

unfoldable pub next_of : Bool → ℕ → ℕ
next_of true w = (device_of w).next
next_of false w = (event_of w).next

unfoldable pub cap_of : Bool → Cap
cap_of true = device_cap
cap_of false = uncapped

-- Inner: computes to device_slots and to event_slots
unfoldable pub slots_of : Bool → List ℕ → Slots
slots_of device t = record {
  size = length t / 8;
  cap = cap_of device;
  valid = λ i. valid_of device (entry_at t i);
  next = λ i. next_of device (entry_at t i);
}
