-- The rows of a sound mapping: their words fit 8 bytes, are valid and read back, and their IDs are inside their tables.
use Prim.Native.Nat.{ℕ, ◌^◌, ◌<◌}
use native.Mathlib.Omega.{arith}
use mathlib.Core.Path.{◌≡◌, ap, ◌∙◌}
use mathlib.Core.Bool.{true}
use mathlib.Core.List.{List}
use lib.Pow.{pow_pos}
use borrow.Author.Tests.{eqb-true}
use Rattle.lists.proofs.All.{All}
use Rattle.entries.specs.declared.DeviceEntry.{DeviceEntry}
use Rattle.entries.specs.declared.EventEntry.{EventEntry}
use Rattle.entries.specs.Device.{DeviceFits, is_device, device_of}
use Rattle.entries.specs.Collection.{CollectionFits}
use Rattle.entries.specs.Event.{EventFits, is_event, event_of}
use Rattle.entries.proofs.Laws.{device_of_word, device_word_lt, device_word_valid, event_of_word, event_word_lt, event_word_valid}
use Rattle.guest.specs.Machine.{Machine}
use Rattle.rules.specs.Rules.{rules}
use Rattle.rules.proofs.Facts.{sound_memory, sound_limit, sound_vcpus}
use Rattle.mapping.specs.declared.Device.{Device}
use Rattle.mapping.specs.declared.Collection.{Collection}
use Rattle.mapping.specs.declared.Event.{Event}
use Rattle.mapping.specs.Mapped.{Mapped, device_key, collection_key, event_key, rising, itt_area, no_collection}
use Rattle.chains.specs.Slots.{uncapped}
use Rattle.tables.specs.Bytes.{device_cap}
use Rattle.tables.specs.Saved.{device_entry, event_entry, event_id, events_of, is_of}
use Rattle.described.specs.Described.{DeviceFields, EventFields}
use Rattle.lists.proofs.Member.{In, all_in, all_weaker}
use Rattle.mapping.proofs.Edits.{all_kept, kept_pass}
use Rattle.savedlaws.proofs.Member.{all_both}
use Rattle.mapping.proofs.Rise.{found_key, rising_kept}
use Rattle.savedlaws.proofs.Rise.{rising_once, rising_by}
use Rattle.savedlaws.proofs.Parts.{CollectionParts, DeviceParts, Fit, Ok}
use Rattle.savedlaws.proofs.Places.{within}
use Rattle.savedlaws.proofs.Chains.{Written, Good}

-- what is read of a device's and of an event's word
abbrev pub next_device : ℕ → ℕ
next_device w = (device_of w).next

abbrev pub next_event : ℕ → ℕ
next_event w = (event_of w).next

-- how many nexts the word of a device and of an event tells apart
abbrev pub device_room : ℕ
device_room = 2 ^ 14

abbrev pub event_room : ℕ
event_room = 2 ^ 16

-- devices
module _ (m : Machine) (sound : rules m ≡ true) (d : Device) (p : DeviceParts m d) where
  device_fits : (n : ℕ) → n < device_room → DeviceFits (record { next = n; itt = d.itt; bits = d.bits })
  device_fits n h =
      let i = within m (itt_area d) p.within in
      record {
        next = omega arith;
        itt = omega (arith, (sound_memory m sound).end, sound_limit m sound, pow_pos d.bits);
        page = p.page;
        low = p.some;
        high = omega arith;
      }

  pub device_good : Good device_key device_entry device_cap device_room is_device next_device d
  device_good = record {
    small = λ n h. device_word_lt _ (device_fits n h);
    valid = λ n h. device_word_valid _;
    next = λ n h. ap (λ (e : DeviceEntry). e.next) (device_of_word _ (device_fits n h));
  }

  pub device_fields : (t : List ℕ) → Written device_key device_entry device_cap device_room t d → DeviceFields t d
  device_fields t w =
      let e = ap device_of w.2 ∙ device_of_word _ (device_fits w.0 w.1) in
      record { itt = ap (λ (x : DeviceEntry). x.itt) e; bits = ap (λ (x : DeviceEntry). x.bits) e }

-- collections
pub collection_fits : (m : Machine) → rules m ≡ true → (c : Collection) → CollectionParts m c → CollectionFits (record { pe = c.pe; icid = c.icid })
collection_fits m sound c p = record { pe = omega (arith, p.pe, (sound_vcpus m sound).few); icid = p.icid }

-- events
module _ (m : Machine) (cs : List Collection) (all : All (CollectionParts m) cs) (e : Event) (p : Fit cs e) where
  event_fits : (n : ℕ) → n < event_room → EventFits (record { next = n; lpi = e.lpi; icid = e.icid })
  event_fits n h =
      let f = found_key collection_key e.icid cs no_collection p.icid in
      let c = (all_in cs all f.0).icid in
      record { next = omega arith; lpi = omega (arith, p.high); icid = omega (arith, f.1) }

  pub event_good : Good event_id event_entry uncapped event_room is_event next_event e
  event_good = record {
    small = λ n h. event_word_lt _ (event_fits n h);
    valid = λ n h. event_word_valid _ (event_fits n h) (omega (arith, p.low));
    next = λ n h. ap (λ (x : EventEntry). x.next) (event_of_word _ (event_fits n h));
  }

  pub event_fields : (t : List ℕ) → Written event_id event_entry uncapped event_room t e → EventFields t e
  event_fields t w =
      let q = ap event_of w.2 ∙ event_of_word _ (event_fits w.0 w.1) in
      record { lpi = ap (λ (x : EventEntry). x.lpi) q; icid = ap (λ (x : EventEntry). x.icid) q }

-- the events of a device
module _ (m : Machine) (k : Mapped) (o : Ok m k) (d : Device) (listed : In d k.devices) where
  abbrev events : List Event
  events = events_of d.id k.events

  pub events_fit : All (Fit k.collections) events
  events_fit = all_kept (is_of d.id) k.events o.fit

  of_device : All (λ e. e.device ≡ d.id) events
  of_device = all_weaker (λ e q. eqb-true e.device d.id q) events (kept_pass (is_of d.id) k.events)

  pub events_inside : All (λ e. e.event < 2 ^ d.bits) events
  events_inside =
      all_both (λ e w q.
      let s = rising_once device_key k.devices o.devices_rise w.listed listed (w.id ∙ q) in
      rw s at w.small)
      events (all_kept (is_of d.id) k.events o.owned) of_device

  pub events_rise : rising event_id events ≡ true
  events_rise =
      rising_by event_key event_id (λ x y p q h. omega arith) events of_device
      (rising_kept event_key (is_of d.id) k.events o.events_rise)
