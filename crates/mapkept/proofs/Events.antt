-- Mapping an event, discarding it and moving it keep the rules.
use Prim.Native.Nat.{ℕ, ◌+◌, ◌*◌, ◌^◌, ◌<◌}
use native.Mathlib.Omega.{arith}
use mathlib.Core.Path.{◌≡◌, refl, sym, ap, ◌∙◌}
use mathlib.Core.Bool.{true, false, ◌&&◌}
use lib.ListN.{length, get_or, set, length-set}
use lib.Dec.{ltb, leb, eqb}
use lib.Pow.{pow_mono}
use borrow.Author.Tests.{ltb-true, leb-true, leb-false, eqb-true, eq-eqb}
use Rattle.lists.proofs.All.{all_at}
use Rattle.areas.proofs.Tests.{same, and_left, and_right}
use Rattle.guest.specs.Machine.{Machine}
use Rattle.kept.proofs.Choice.{choose_by, and_both}
use Rattle.mapping.specs.declared.Event.{Event}
use Rattle.mapping.specs.Mapped.{Mapped, event_key, find_key, place_of, inserted_at, removed_at, is_event, no_device, no_event}
use Rattle.mapping.specs.Commands.{
  index_of_device,
  has_device,
  device_of,
  has_collection,
  index_of_event,
  has_event,
  with_events,
  event_fault,
  map_event,
  discard,
  moved_to,
  move,
}
use Rattle.mapkept.proofs.Edits.{all_weaker, all_inserted, all_removed, all_set, length_inserted, length_removed, find_same}
use Rattle.mapkept.proofs.Rising.{rising_inserted, rising_removed, rising_set}
use Rattle.mapkept.proofs.Sound.{EventParts, Sound, with_events_lem, Stays, Keeps, keeps}

-- a key tells the device and the event, where event IDs are below 65,536
same_key : (device event : ℕ) (y : Event) → event < 65536 → y.event < 65536 → is_event device event y ≡ eqb (event_key y) (device * 65536 + event)
same_key device event y h g =
    same (is_event device event y) (eqb (event_key y) (device * 65536 + event))
    (λ e.
    let a = eqb-true y.device device (and_left (eqb y.device device) (eqb y.event event) e) in
    let b = eqb-true y.event event (and_right (eqb y.device device) (eqb y.event event) e) in
    eq-eqb (event_key y) (device * 65536 + event) (omega arith))
    (λ e.
    let a = eqb-true (event_key y) (device * 65536 + event) e in
    and_both (eq-eqb y.device device (omega arith)) (eq-eqb y.event event (omega arith)))

module _ (m : Machine) (k : Mapped) (s : Sound m k) where
  -- event IDs are below 65,536
  pub small_event : (e : Event) → EventParts k e → e.event < 65536
  small_event e p =
      let i = index_of_device e.device k in
      let d = all_at k.devices i no_device s.devices (ltb-true i (length k.devices) p.device) in
      omega (arith, pow_mono d.most, p.event)

  -- the search for an event is one for its key
  pub find_event_lem : (device event : ℕ) → event < 65536 → index_of_event device event k ≡ find_key event_key (device * 65536 + event) k.events
  find_event_lem device event h =
      find_same (is_event device event) (λ y. eqb (event_key y) (device * 65536 + event)) k.events
      (all_weaker (λ y p. same_key device event y h (small_event y p)) k.events s.events)

-- an event that may be mapped
record Fits (x : Event) (k : Mapped) : Type 0 where
  parts : EventParts k x
  fresh : has_event x.device x.event k ≡ false
  few : length k.events < 1024

event_fits : (x : Event) (k : Mapped) → event_fault x.device x.event x.lpi x.icid k ≡ 0 → Fits x k
unfolding event_fault
event_fits x k =
    choose_by P (has_device x.device k) (λ d.
    choose_by P (ltb x.event (2 ^ (device_of x.device k).bits)) (λ v.
    choose_by P (leb 8192 x.lpi && leb x.lpi 65535) (λ r.
    choose_by P (has_collection x.icid k) (λ c.
    choose_by P (has_event x.device x.event k) (λ _ z. absurd (omega arith)) (λ n.
    choose_by P (leb 1024 (length k.events)) (λ _ z. absurd (omega arith)) (λ f _.
    record {
      parts = record {
        device = d;
        event = ltb-true x.event (2 ^ (device_of x.device k).bits) v;
        low = leb-true 8192 x.lpi (and_left (leb 8192 x.lpi) (leb x.lpi 65535) r);
        high = leb-true x.lpi 65535 (and_right (leb 8192 x.lpi) (leb x.lpi 65535) r);
        collection = c;
      };
      fresh = n;
      few = leb-false 1024 (length k.events) f;
    })))
    (λ _ z. absurd (omega arith)))
    (λ _ z. absurd (omega arith)))
    (λ _ z. absurd (omega arith)))
    (λ _ z. absurd (omega arith))
  where
    P : ℕ → Type 0
    P e = e ≡ 0 → Fits x k

module _ (m : Machine) (k : Mapped) (s : Sound m k) where
  new_event : (x : Event) → Fits x k → Sound m (with_events (inserted_at (place_of event_key (event_key x) k.events) x k.events) k)
  new_event x f =
      let es = k.events in
      let i = place_of event_key (event_key x) es in
      let n = ap (λ (j : ℕ). ltb j (length es)) (sym (find_event_lem m k s x.device x.event (small_event m k s x f.parts))) ∙ f.fresh in
      with_events_lem s (inserted_at i x es) (rw length_inserted f.few) (rising_inserted event_key x es n s.rising_events)
      (all_inserted i x es f.parts s.events)

  less_event : (device event : ℕ) → has_event device event k ≡ true → Sound m (with_events (removed_at (index_of_event device event k) k.events) k)
  less_event device event h =
      let es = k.events in
      let i = index_of_event device event k in
      with_events_lem s (removed_at i es) (omega (arith, length_removed i es (ltb-true i (length es) h), s.few_events))
      (rising_removed event_key i es s.rising_events) (all_removed i es s.events)

  moved_event : (device event icid : ℕ) → has_event device event k ≡ true → has_collection icid k ≡ true → Sound m (with_events (set k.events (index_of_event device event k) (moved_to icid (get_or k.events (index_of_event device event k) no_event))) k)
  moved_event device event icid h c =
      let es = k.events in
      let i = index_of_event device event k in
      let x = get_or es i no_event in
      let p = all_at es i no_event s.events (ltb-true i (length es) h) in
      with_events_lem s (set es i (moved_to icid x)) (rw length-set s.few_events) (rising_set event_key es i (moved_to icid x) no_event refl ∙ s.rising_events)
      (all_set es i (moved_to icid x) (record { device = p.device; event = p.event; low = p.low; high = p.high; collection = c }) s.events)

pub map_event-keeps : (device event lpi icid : ℕ) (m : Machine) → Keeps m (map_event device event lpi icid)
unfolding map_event
map_event-keeps device event lpi icid m =
    let x : Event = record { device = device; event = event; lpi = lpi; icid = icid } in
    keeps m (map_event device event lpi icid) (λ k s.
    choose_by (Stays m) (eqb (event_fault device event lpi icid k) 0)
    (λ z. new_event m k s x (event_fits x k (eqb-true (event_fault device event lpi icid k) 0 z)))
    (λ _. s))

pub discard_keeps : (device event : ℕ) (m : Machine) → Keeps m (discard device event)
unfolding discard
discard_keeps device event m =
    keeps m (discard device event) (λ k s.
    choose_by (Stays m) (has_event device event k) (λ h. less_event m k s device event h) (λ _. s))

pub move_keeps : (device event icid : ℕ) (m : Machine) → Keeps m (move device event icid)
unfolding move
move_keeps device event icid m =
    keeps m (move device event icid) (λ k s.
    choose_by (Stays m) (has_event device event k && has_collection icid k)
    (λ b. moved_event m k s device event icid (and_left (has_event device event k) (has_collection icid k) b) (and_right (has_event device event k) (has_collection icid k) b))
    (λ _. s))
