-- VGIC INIT keeps the rules: the single run grows to its whole size, which strikes none of the others.
use Prim.Native.Nat.{ℕ, ◌≤◌, ◌%◌}
use native.Mathlib.Omega.{arith}
use mathlib.Core.Path.{◌≡◌, refl, sym, ◌∙◌}
use mathlib.Core.Bool.{Bool, true, false, ◌||◌}
use mathlib.Core.List.{List, [], ◌∷◌, ◌++◌, map, append_assoc}
use lib.ListN.{length}
use lib.Dec.{leb, eqb, lit≤}
use borrow.Author.Tests.{eqb-false}
use Rattle.lists.specs.Rows.{choose}
use Rattle.areas.specs.declared.Area.{Area}
use Rattle.areas.specs.Area.{ends_by, strikes, apart}
use Rattle.guest.specs.declared.Frame.{Frame}
use Rattle.guest.specs.Machine.{Machine, initialised, is_set, with_control}
use Rattle.rules.specs.Standing.{standing, others, placed, run_size, whole_run, region_area, total, distributor_size, its_size}
use Rattle.rules.specs.Rules.{limit_of, frame_ok, untouched}
use Rattle.frames.specs.Vcpus.{with_init}
use Rattle.frames.specs.Init.{run_area, has_places, vgic_init}
use Rattle.kept.specs.Good.{Good, Stays, Keeps}
use Rattle.kept.proofs.Choice.{choose_by, never, and_left, and_both}
use Rattle.kept.proofs.Areas.{apart_with, apart_without}
use Rattle.kept.proofs.Parts.{parts, places, placed_well, made_ready}
use Rattle.kept.proofs.Vcpus.{step_good}

-- one of a list of areas apart, if it is there, gets a new size that strikes none of the others
resized : (b : Bool) (l r : List Area) (a new : Area) → apart (l ++ (choose b (a ∷ []) [] ++ r)) ≡ true → (b ≡ true → strikes (l ++ r) new ≡ false) → apart (l ++ (choose b (new ∷ []) [] ++ r)) ≡ true
resized true l r a new c n = apart_with l new r (apart_without l a r c) (n refl)
resized false l r a new c n = c

-- a frame with a new size, by which it ends below the limit if it is set
frame_resized : (limit size new : ℕ) (f : Frame) → frame_ok limit size f ≡ true → (is_set f ≡ true → ends_by limit (record { start = f.base; size = new }) ≡ true) → frame_ok limit new f ≡ true
unfolding frame_ok
frame_resized limit size new f e n =
    choose_by (λ (b : Bool). b ≡ true) (is_set f)
    (λ s. and_both (and_left (eqb (f.base % 65536) 0) _ (rw s at e)) (n s))
    (λ s. rw s at e)

-- what the test of the places tells
record Room (m : Machine) : Type 0 where
  run_ends : is_set m.frames.single ≡ true → ends_by (limit_of m) (run_area m) ≡ true
  run_clear : is_set m.frames.single ≡ true → strikes (others m) (run_area m) ≡ false
  room : (is_set m.frames.single || leb (length m.vcpus) (total m.regions)) ≡ true

has_room : (m : Machine) → has_places m ≡ true → Room m
unfolding has_places
has_room m =
    choose_by P (is_set m.frames.single)
    (λ s. choose_by P (ends_by (limit_of m) (run_area m))
    (λ e. choose_by P (strikes (others m) (run_area m)) (λ _ z. never z) (λ n _. record { run_ends = λ _. e; run_clear = λ _. n; room = rw s }))
    (λ _ z. never z))
    (λ s l. record { run_ends = λ t. never (sym s ∙ t); run_clear = λ t. never (sym s ∙ t); room = rw s l })
  where
    P : Bool → Type 0
    P b = b ≡ true → Room m

module _ (m : Machine) where
  abbrev started : Machine
  started = with_control (with_init m.control) m

  started_apart : Room m → apart (standing m) ≡ true → apart (standing started) ≡ true
  unfolding standing others
  started_apart g c =
      let d = placed m.frames.distributor distributor_size in
      let r = map region_area m.regions ++ placed m.frames.its its_size in
      let a : Area = record { start = m.frames.single.base; size = run_size m } in
      let e = resized (is_set m.frames.single) d r a (run_area m) (simp append_assoc at c) (λ s. simp append_assoc at (g.run_clear s)) in
      simp append_assoc e

  -- after INIT nothing is asked of what was written before
  started_good : Good m → 1 ≤ length m.vcpus → is_set m.frames.distributor ≡ true → Room m → Good started
  unfolding untouched
  started_good h n d g =
      let p = parts m h in
      let k = p.control in
      let q = places m p.frames in
      step_good h (record {
        marks = record {
          init = lit≤ tt;
          running = omega (arith, k.running, k.init);
          itsinit = omega (arith, k.itsinit, k.init);
          irqsset = k.irqsset;
          irqs = k.irqs;
          status = k.status;
          unset = k.unset;
        };
        frames =
            placed_well (record {
              distributor = q.distributor;
              single = frame_resized (limit_of m) (run_size m) (whole_run m) m.frames.single q.single g.run_ends;
              its = q.its;
              few = q.few;
              regions = q.regions;
              one = q.one;
              apart = started_apart g q.apart;
            });
        init = made_ready started (λ _. record { vcpu = n; distributor = d; room = g.room });
        banks = h.words.shared;
        count = p.shared;
        last = p.last;
        untouched = refl;
        later = omega arith;
        based = p.its;
      })

pub vgic_init-keeps : Keeps vgic_init
unfolding vgic_init
vgic_init-keeps m h =
    choose_by Stays (initialised m) (λ _. h) (λ _.
    choose_by Stays (eqb (length m.vcpus) 0) (λ _. h) (λ n.
    choose_by Stays (is_set m.frames.distributor) (λ d.
    choose_by Stays (has_places m) (λ g.
    let v = eqb-false (length m.vcpus) 0 n in
    started_good m h (omega arith) d (has_room m g))
    (λ _. h))
    (λ _. h)))
