-- The visit of an event, by the tests of the code on what was read of its entry. Assumes nothing.
use Prim.Native.Nat.{ℕ, ◌≤◌, ◌<◌}
use native.Mathlib.Omega.{arith}
use mathlib.Core.Path.{◌≡◌, ap, ◌∙◌}
use mathlib.Core.Bool.{Bool, true, false, ◌||◌}
use mathlib.Core.List.{List, [], ◌∷◌, ◌++◌}
use lib.ListN.{length}
use lib.Dec.{ltb}
use Rattle.std.specs.Prelude.{Result, Ok, Err, ⊤}
use borrow.Author.Tests.{lt-ltb, le-ltb, le-leb, lt-leb}
use Rattle.chains.specs.Slots.{Slots}
use Rattle.entries.specs.declared.EventEntry.{EventEntry}
use Rattle.entries.specs.Event.{event_of}
use Rattle.entries.proofs.Laws.{event_of_fits}
use Rattle.mapping.specs.Mapped.{Mapped}
use Rattle.mapping.specs.Commands.{index_of_collection, has_collection, with_events}
use Rattle.maplayout.specs.MapLayout.{decode_map}
use Rattle.maplayout.specs.Added.{event_added}
use Rattle.tables.specs.Bytes.{entry_at}
use Rattle.codes.specs.declared.Kind as kinds
use Rattle.codes.specs.declared.Kind.TheVariants.{Lpi, Next, Icid, Event1025th}
use Rattle.tables.specs.Fault.{at_event, fault_next, fault_lpi, fault_icid, fault1025th, at as faultAt}
use Rattle.tables.specs.Restored.{fault, found, walk, visit_event, read_events}
use Rattle.restore.specs.Begun.{Over, ByKind, Steps}
use Rattle.restore.specs.Both.{slots_of}
use Rattle.restore.proofs.Both.{event_slots_lem}
use Rattle.restore.proofs.Over.{same_rows, over_event}
use Rattle.restore.proofs.Answers.{gives_kind, gives_found}
use Rattle.restore.proofs.Searches.{stands, lacks}

pub events_walk : (t : List ℕ) (id : ℕ) (k : Mapped) → walk (slots_of false t) (visit_event t id) k ≡ read_events t id k
unfolding read_events
events_walk t id k = ap (λ (T : Slots). walk T (visit_event t id) k) (event_slots_lem t)

pub icid_small : (w : ℕ) (c : EventEntry) → c ≡ event_of w → c.icid < 65536
icid_small w c q = rw q (event_of_fits w).icid

-- whether an LPI is out of range
low_out : (n : ℕ) → n < 8192 → ltb n 8192 || ltb 65535 n ≡ true
low_out n h = rw (lt-ltb n 8192 h)

high_out : (n : ℕ) → 65535 < n → ltb n 8192 || ltb 65535 n ≡ true
high_out n h = rw (le-ltb n 8192 (omega arith), lt-ltb 65535 n h)

in_range : (n : ℕ) → 8192 ≤ n → n ≤ 65535 → ltb n 8192 || ltb 65535 n ≡ false
in_range n l h = rw (le-ltb n 8192 l, le-ltb 65535 n h)

module _ (t : List ℕ) (id i : ℕ) (good : Bool) (k : Mapped) (c : EventEntry) (p : c ≡ event_of (entry_at t i)) where
  out : ltb c.lpi 8192 || ltb 65535 c.lpi ≡ true → fault (faultAt (at_event id i) fault_lpi) ≡ visit_event t id good i k
  unfolding visit_event
  out h = rw (← p, h)

  module _ (l : ltb c.lpi 8192 || ltb 65535 c.lpi ≡ false) where
    lost : good ≡ false → fault (faultAt (at_event id i) fault_next) ≡ visit_event t id good i k
    unfolding visit_event
    lost g = rw (← p, l, g)

    module _ (g : good ≡ true) where
      astray : has_collection c.icid k ≡ false → fault (faultAt (at_event id i) fault_icid) ≡ visit_event t id good i k
      unfolding visit_event
      astray s = rw (← p, l, g, s)

      module _ (s : has_collection c.icid k ≡ true) where
        full : 1024 ≤ length k.events → fault (faultAt (at_event id i) fault1025th) ≡ visit_event t id good i k
        unfolding visit_event
        full n = rw (← p, l, g, s, le-leb 1024 (length k.events) n)

        new : length k.events < 1024
            → found (with_events (k.events ++ (record { device = id; event = i; lpi = c.lpi; icid = c.icid } ∷ [])) k) ≡ visit_event t id good i k
        unfolding visit_event
        new n = rw (← p, l, g, s, lt-leb 1024 (length k.events) n)

-- the same, on the bytes that hold the mapping so far
module _ (t : List ℕ) (id i : ℕ) (good : Bool) (s : List ℕ) (w : ℕ) (c : EventEntry) (p : w ≡ entry_at t i) (q : c ≡ event_of w) where
  row_read : c ≡ event_of (entry_at t i)
  row_read = q ∙ ap event_of p

  abbrev Visit : Result ⊤ kinds.Kind → List ℕ → Type 0
  Visit r u = Steps (ByKind (at_event id i)) (λ m. visit_event t id good i) s r u

  pub event_low : c.lpi < 8192 → Visit (Err Lpi) s
  event_low h z k o = gives_kind (at_event id i) Lpi (out t id i good k c row_read (low_out c.lpi h))

  module _ (l : 8192 ≤ c.lpi) where
    pub event_high : 65535 < c.lpi → Visit (Err Lpi) s
    event_high h z k o = gives_kind (at_event id i) Lpi (out t id i good k c row_read (high_out c.lpi h))

    module _ (h : c.lpi ≤ 65535) where
      pub event_lost : good ≡ false → Visit (Err Next) s
      event_lost g z k o = gives_kind (at_event id i) Next (lost t id i good k c row_read (in_range c.lpi l h) g)

      module _ (y : good ≡ true) (at count : ℕ) (e : at ≡ index_of_collection c.icid (decode_map s)) (f : count ≡ length (decode_map s).collections) where
        pub event_astray : count ≤ at → Visit (Err Icid) s
        event_astray g z k o =
            gives_kind (at_event id i) Icid (astray t id i good k c row_read (in_range c.lpi l h) y (lacks o c.icid at count e f g))

        module _ (g : at < count) (n : ℕ) (d : n ≡ length (decode_map s).events) where
          events : {z : List ℕ} {k : Mapped} → Over z k s → n ≡ length k.events
          events o = d ∙ ap (λ (x : Mapped). length x.events) (same_rows o)

          pub event_full : 1024 ≤ n → Visit (Err Event1025th) s
          event_full b z k o =
              let x = events o in
              gives_kind (at_event id i) Event1025th
              (full t id i good k c row_read (in_range c.lpi l h) y (stands o c.icid at count e f g) (omega arith))

          pub event_new : n < 1024 → id < 65536 → i < 65536
              → (u : List ℕ) → u ≡ event_added (record { device = id; event = i; lpi = c.lpi; icid = c.icid }) s → Visit (Ok tt) u
          event_new b j r u a z k o =
              let x = events o in
              let icid = icid_small w c q in
              gives_found _
              (over_event o (record { device = id; event = i; lpi = c.lpi; icid = c.icid })
              (record { device = omega arith; event = omega arith; lpi = omega arith; icid = omega arith }) (omega arith) u a)
              (new t id i good k c row_read (in_range c.lpi l h) y (stands o c.icid at count e f g) (omega arith))
