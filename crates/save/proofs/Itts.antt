-- The ITTs, written device by device: what is left to write comes to the whole. Assumes nothing.
use Prim.Native.Nat.{ℕ, suc, ◌+◌, ◌-◌, ◌*◌, ◌^◌, ◌≤◌, ◌<◌}
use native.Mathlib.Omega.{arith}
use mathlib.Core.Path.{◌≡◌, refl, sym, ap, ◌∙◌, subst}
use mathlib.Core.List.{List, [], ◌∷◌}
use lib.ListN.{length, get_or, drop, drop_of_length-le}
use lib.Dec.{leb}
use Rattle.lists.proofs.All.{All, none, more}
use Rattle.words.specs.Words.{put_at}
use Rattle.guest.specs.declared.Tables.{Tables}
use Rattle.guest.specs.Machine.{Machine}
use Rattle.mapping.specs.declared.Device.{Device}
use Rattle.mapping.specs.declared.Event.{Event}
use Rattle.mapping.specs.Mapped.{Mapped, device_key, no_device, no_event}
use Rattle.tables.specs.Saved.{event_id, events_of, saved_device, saved_collection, saved_event, table_of, saved_itts, saved_memory}
use Rattle.save.specs.Saving.{Ready, Sorted, AnyEvent, ChainReady, IttReady, event_device, run_of, first_event, saved_itt}
use Rattle.save.proofs.Rows.{row_left, all_weaker, find_most}
use Rattle.save.proofs.Chain.{ready_weaken, ready_drop}
use Rattle.save.proofs.Runs.{place_mono, run}

ready_above : {A : Type 0} (key : A → ℕ) (n i : ℕ) (l : List A) → Ready key n i l → All (λ x. i ≤ key x) l
ready_above key n i [] r = none
ready_above key n i (x ∷ l) r = more r.0 (ready_above key n i l (ready_weaken key n i (suc (key x)) l (omega (arith, r.0)) r.2))

head : {A : Type 0} {P : A → Type 0} {x : A} {l : List A} → All P (x ∷ l) → P x
head (more p r) = p

any_events : (l : List Event) → All AnyEvent l
any_events [] = none
any_events (e ∷ l) = more tt (any_events l)

-- one ITT: its events are the run that two searches find
module _ (es : List Event) (d : Device) (from to n : ℕ) (sorted : Sorted event_device es) (first : from ≡ first_event d.id es)
    (last : to ≡ first_event (d.id + 1) es) (size : n ≡ 2 ^ d.bits) where
  same_run : events_of d.id es ≡ run_of es from to
  same_run = run event_device d.id es sorted ∙ rw (first, last)

  pub events_ready : (start len : ℕ) → IttReady start len es d → ChainReady event_id AnyEvent len (d.itt - start) n es from to
  events_ready start len r = record {
    room = rw size r.room;
    most = rw last (find_most (λ x. leb (d.id + 1) (event_device x)) no_event es);
    ready = rw (size, ← same_run) r.ready;
    good = any_events es;
  }

  pub itt_saved : (start : ℕ) (s t : List ℕ) → t ≡ put_at s (d.itt - start) (table_of (saved_event (run_of es from to)) n) → t ≡ saved_itt start es d s
  itt_saved start s t q = q ∙ rw (size, ← same_run)

pub first_before : (from id : ℕ) (es : List Event) → from ≡ first_event id es → from ≤ first_event (id + 1) es
first_before from id es e = rw e (place_mono event_device id (id + 1) es (omega arith))

-- a loop that writes the ITTs of the devices ds: those before i are written, and their events are passed at index j
pub record Tabling (start : ℕ) (ds : List Device) (es : List Event) (s₀ s : List ℕ) (i j : ℕ) : Type 0 where
  pub same : length s ≡ length s₀
  pub passed : All (λ d. j ≤ first_event d.id es) (drop i ds)
  pub left : saved_itts start (drop i ds) es s ≡ saved_itts start ds es s₀

module _ (start : ℕ) (ds : List Device) (es : List Event) (s₀ : List ℕ) where
  pub table_start : Tabling start ds es s₀ s₀ 0 0
  table_start = record { same = refl; passed = every ds; left = refl }
    where
      every : (l : List Device) → All (λ d. 0 ≤ first_event d.id es) l
      every [] = none
      every (d ∷ l) = let h : 0 ≤ first_event d.id es = omega arith in more h (every l)

  module _ (s : List ℕ) (i j : ℕ) (v : Tabling start ds es s₀ s i j) where
    -- the events of the devices before the one at i, x, are passed
    pub passed_at : (x : Device) → i < length ds → x ≡ get_or ds i no_device → j ≤ first_event x.id es
    passed_at x h e = head (subst (All (λ d. j ≤ first_event d.id es)) (row_left no_device ds i x h e) v.passed)

    pub table_turn : (bound : ℕ) (x : Device) → Ready device_key bound 0 ds → i < length ds → x ≡ get_or ds i no_device → (t : List ℕ) (k : ℕ) → length t ≡ length s
        → t ≡ saved_itt start es x s → k ≡ first_event (x.id + 1) es → Tabling start ds es s₀ t (i + 1) k
    unfolding saved_itts
    table_turn bound x r h f t k l q e =
        let rest = drop (i + 1) ds in
        let o : drop i ds ≡ x ∷ rest = row_left no_device ds i x h f in
        let g : Ready device_key bound 0 (x ∷ rest) = subst (Ready device_key bound 0) o (ready_drop device_key bound 0 i ds r) in
        record {
          same = l ∙ v.same;
          passed = all_weaker (λ d w. rw e (place_mono event_device (x.id + 1) d.id es (omega arith))) rest (ready_above device_key bound (suc x.id) rest g.2);
          left = ap (saved_itts start rest es) q ∙ sym (ap (λ (z : List Device). saved_itts start z es s) o) ∙ v.left;
        }

    pub table_end : length ds ≤ i → s ≡ saved_itts start ds es s₀
    unfolding saved_itts
    table_end h = sym (ap (λ (z : List Device). saved_itts start z es s) (drop_of_length-le ds {i = i} h)) ∙ v.left

-- the device table, the collection table and the ITTs, one after the other
pub saved_whole : (m : Machine) (k : Mapped) (start : ℕ) (tables : Tables) (s t u v : List ℕ) → start ≡ m.memory.start → tables ≡ m.tables
    → t ≡ put_at s (tables.devices.start - start) (table_of (saved_device k.devices) (512 * tables.devices.pages))
    → u ≡ put_at t (tables.collections.start - start) (table_of (saved_collection k.collections) (512 * tables.collections.pages))
    → v ≡ saved_itts start k.devices k.events u → v ≡ saved_memory m k s
unfolding saved_memory
saved_whole m k start tables s t u v e f p q r = r ∙ rw (q, p, e, f)
