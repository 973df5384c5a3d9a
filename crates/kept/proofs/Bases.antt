-- Setting bases and regions keeps the rules: each is one more area that strikes none of those that stand.
use Prim.Native.Nat.{ℕ, ◌≤◌, ◌<◌, ◌^◌, ◌%◌}
use native.Mathlib.Nat.{mul-mod_left, le_trans}
use native.Mathlib.Omega.{arith}
use mathlib.Core.Path.{◌≡◌, refl, sym, ◌∙◌}
use mathlib.Core.Bool.{true, false}
use mathlib.Core.List.{List, [], ◌∷◌, ◌++◌, map, map-append, append_assoc}
use lib.ListN.{length, length-append}
use lib.Dec.{leb, eqb, lit<}
use borrow.Author.Tests.{leb-true, leb-false, le-leb, lt-ltb, eqb-true, eqb-false, eq-eqb}
use Rattle.lists.proofs.All.{none, more, all_append, from_all, to_all}
use Rattle.fields.specs.Field.{get_field}
use Rattle.fields.proofs.Laws.{get_lt}
use Rattle.areas.specs.declared.Area.{Area}
use Rattle.areas.specs.Area.{ends_by, strikes, apart}
use Rattle.guest.specs.declared.Frame.{Frame}
use Rattle.guest.specs.declared.Frames.{Frames}
use Rattle.guest.specs.declared.Region.{Region}
use Rattle.guest.specs.Machine.{Machine, initialised, is_set, with_frames, with_regions}
use Rattle.rules.specs.Standing.{standing, placed, run_size, region_area, total, distributor_size, its_size}
use Rattle.rules.specs.Rules.{limit_of, frame_ok, region_ok, untouched, tables_ok}
use Rattle.frames.specs.Bases.{set_to, area_fault, frame_fault, finish, set_distributor, single_fault, set_single, set_its_base, word_region, word_flags, word_index, region_fault, add_region, set_group0, set_its_group0}
use Rattle.guest.specs.Words.{FrameWords, FramesWords, RegionWords}
use Rattle.kept.specs.Good.{Good, Stays, Keeps}
use Rattle.kept.proofs.Choice.{chosen, choose_by, never, and_both}
use Rattle.kept.proofs.Areas.{apart_with}
use Rattle.kept.proofs.Parts.{parts, good, Places, places, placed_well, Ready, ready, made_ready}

-- an area that may stand
record Fits (a : Area) (m : Machine) : Type 0 where
  ends : ends_by (limit_of m) a ≡ true
  strikes : strikes (standing m) a ≡ false

area_fits : (a : Area) (m : Machine) → area_fault a m ≡ 0 → Fits a m
unfolding area_fault
area_fits a m =
    choose_by (λ (e : ℕ). e ≡ 0 → Fits a m) (ends_by (limit_of m) a)
    (λ b. choose_by (λ (e : ℕ). e ≡ 0 → Fits a m) (strikes (standing m) a) (λ _ z. absurd (omega arith)) (λ n _. record { ends = b; strikes = n }))
    (λ _ z. absurd (omega arith))

-- a base that may be set
record Free (f : Frame) (size base : ℕ) (m : Machine) : Type 0 where
  unset : is_set f ≡ false
  even : eqb (base % 65536) 0 ≡ true
  fits : Fits (record { start = base; size = size }) m

frame_free : (f : Frame) (size base : ℕ) (m : Machine) → frame_fault f size base m ≡ 0 → Free f size base m
unfolding frame_fault
frame_free f size base m =
    choose_by (λ (e : ℕ). e ≡ 0 → Free f size base m) (is_set f) (λ _ z. absurd (omega arith))
    (λ u. choose_by (λ (e : ℕ). e ≡ 0 → Free f size base m) (eqb (base % 65536) 0)
    (λ v z. record { unset = u; even = v; fits = area_fits _ m z })
    (λ _ z. absurd (omega arith)))

free_ok : {f : Frame} {size base : ℕ} {m : Machine} → Free f size base m → frame_ok (limit_of m) size (set_to base) ≡ true
unfolding frame_ok
free_ok r = and_both r.even r.fits.ends

-- a step that ends in a fault keeps, and one that does not keeps if its machine is good
finish_keeps : (e : ℕ) (m next : Machine) → Good m → (e ≡ 0 → Good next) → Stays (finish e m next)
finish_keeps e m next h g = choose_by Stays (eqb e 0) (λ q. g (eqb-true e 0 q)) (λ _. h)

-- the frames with one base set
module _ (base : ℕ) (m : Machine) where
  abbrev with_distributor : Frames
  with_distributor = record { distributor = set_to base; single = m.frames.single; its = m.frames.its }

  abbrev with_single : Frames
  with_single = record { distributor = m.frames.distributor; single = set_to base; its = m.frames.its }

  abbrev with_its : Frames
  with_its = record { distributor = m.frames.distributor; single = m.frames.single; its = set_to base }

-- one more area in a list of areas apart, put where the list is parted
joined : {before after : List Area} (l : List Area) (a : Area) (r : List Area) → before ≡ l ++ r → after ≡ l ++ (a ∷ r) → apart before ≡ true → strikes before a ≡ false → apart after ≡ true
joined l a r p q c n = rw q (apart_with l a r (rw p at c) (rw p at n))

-- what stands, in its four parts
module _ (m : Machine) where
  abbrev at_distributor : List Area
  at_distributor = placed m.frames.distributor distributor_size

  abbrev at_single : List Area
  at_single = placed m.frames.single (run_size m)

  abbrev at_regions : List Area
  at_regions = map region_area m.regions

  abbrev at_its : List Area
  at_its = placed m.frames.its its_size

module _ (m : Machine) (c : apart (standing m) ≡ true) where
  stand_distributor : (base : ℕ) → Free m.frames.distributor distributor_size base m → apart (standing (with_frames (with_distributor base m) m)) ≡ true
  unfolding standing
  stand_distributor base f = joined [] _ (at_single m ++ at_regions m ++ at_its m) (rw f.unset) refl c f.fits.strikes

  stand_single : (base : ℕ) → Free m.frames.single (run_size m) base m → apart (standing (with_frames (with_single base m) m)) ≡ true
  unfolding standing
  stand_single base f = joined (at_distributor m) _ (at_regions m ++ at_its m) (rw f.unset (simp append_assoc)) (simp append_assoc) c f.fits.strikes

  stand_its : (base : ℕ) → Free m.frames.its its_size base m → apart (standing (with_frames (with_its base m) m)) ≡ true
  unfolding standing
  stand_its base f = joined (at_distributor m ++ at_single m ++ at_regions m) _ [] (rw f.unset) refl c f.fits.strikes

  stand_region : (r : Region) → Fits (region_area r) m → apart (standing (with_regions (m.regions ++ (r ∷ [])) m)) ≡ true
  unfolding standing
  stand_region r f = joined (at_distributor m ++ at_single m ++ at_regions m) _ (at_its m) refl (simp (map-append, append_assoc)) c f.strikes

frames_good : {f : Frames} {m : Machine} → Good m → FramesWords f → Places (with_frames f m) → (initialised m ≡ true → Ready (with_frames f m)) → m.control.itsinit ≤ f.its.set → Good (with_frames f m)
unfolding untouched tables_ok
frames_good {f} {m} h k q r l =
    let p = parts m h in
    let w = h.words in
    good
    (record {
      memory = w.memory;
      control = w.control;
      frames = k;
      regions = w.regions;
      vcpus = w.vcpus;
      shared = w.shared;
      tables = w.tables;
    })
    (record {
      memory = p.memory;
      control = p.control;
      frames = placed_well q;
      init = made_ready (with_frames f m) r;
      vcpus = p.vcpus;
      shared = p.shared;
      last = p.last;
      untouched = p.untouched;
      its = l;
      tables = p.tables;
    })

module _ (base : ℕ) (small : base < 2 ^ 64) (m : Machine) (h : Good m) where
  new : FrameWords (set_to base)
  new = record { set = lit< tt; base = small }

  set_distributor-keeps : Stays (set_distributor base m)
  unfolding set_distributor
  set_distributor-keeps =
      finish_keeps (frame_fault m.frames.distributor distributor_size base m) m _ h
      (λ z.
      let r = frame_free _ _ base m z in
      let p = parts m h in
      let q = places m p.frames in
      let w = h.words.frames in
      frames_good h (record { distributor = new; single = w.single; its = w.its })
      (record {
        distributor = free_ok r;
        single = q.single;
        its = q.its;
        few = q.few;
        regions = q.regions;
        one = q.one;
        apart = stand_distributor m q.apart base r;
      })
      (λ i. let g = ready m p.init i in record { vcpu = g.vcpu; distributor = refl; room = g.room })
      p.its)

  set_single-keeps : Stays (set_single base m)
  unfolding set_single single_fault
  set_single-keeps =
      finish_keeps (single_fault base m) m _ h
      (choose_by (λ (e : ℕ). e ≡ 0 → Good (with_frames (with_single base m) m)) (eqb (length m.regions) 0)
      (λ t z.
      let r = frame_free _ _ base m z in
      let p = parts m h in
      let q = places m p.frames in
      let w = h.words.frames in
      frames_good h (record { distributor = w.distributor; single = new; its = w.its })
      (record {
        distributor = q.distributor;
        single = free_ok r;
        its = q.its;
        few = q.few;
        regions = q.regions;
        one = λ _. eqb-true _ _ t;
        apart = stand_single m q.apart base r;
      })
      (λ i. let g = ready m p.init i in record { vcpu = g.vcpu; distributor = g.distributor; room = refl })
      p.its)
      (λ _ z. absurd (omega arith)))

  set_its_base-keeps : Stays (set_its_base base m)
  unfolding set_its_base
  set_its_base-keeps =
      finish_keeps (frame_fault m.frames.its its_size base m) m _ h
      (λ z.
      let r = frame_free _ _ base m z in
      let p = parts m h in
      let q = places m p.frames in
      let w = h.words.frames in
      let k = p.control in
      frames_good h (record { distributor = w.distributor; single = w.single; its = new })
      (record {
        distributor = q.distributor;
        single = q.single;
        its = free_ok r;
        few = q.few;
        regions = q.regions;
        one = q.one;
        apart = stand_its m q.apart base r;
      })
      (λ i. let g = ready m p.init i in record { vcpu = g.vcpu; distributor = g.distributor; room = g.room })
      (omega (arith, k.itsinit, k.init)))

-- a region that may be added
record Room (w : ℕ) (m : Machine) : Type 0 where
  single : is_set m.frames.single ≡ false
  some : eqb (word_region w).count 0 ≡ false
  few : length m.regions < 32
  fits : Fits (region_area (word_region w)) m

region_room : (w : ℕ) (m : Machine) → region_fault w m ≡ 0 → Room w m
unfolding region_fault
region_room w m =
    choose_by P (is_set m.frames.single) (λ _ z. absurd (omega arith)) (λ s.
    choose_by P (eqb (word_flags w) 0) (λ _.
    choose_by P (eqb (word_region w).count 0) (λ _ z. absurd (omega arith)) (λ n.
    choose_by P (eqb (word_index w) (length m.regions)) (λ _.
    choose_by P (leb 32 (length m.regions)) (λ _ z. absurd (omega arith)) (λ l z.
    record { single = s; some = n; few = leb-false 32 (length m.regions) l; fits = area_fits _ m z }))
    (λ _ z. absurd (omega arith))))
    (λ _ z. absurd (omega arith)))
  where
    P : ℕ → Type 0
    P e = e ≡ 0 → Room w m

total_more : (rs : List Region) (r : Region) → total rs ≤ total (rs ++ (r ∷ []))
unfolding total
total_more [] r = omega arith
total_more (x ∷ rs) r = omega (arith, total_more rs r)

module _ (w : ℕ) (m : Machine) where
  region_ok_lem : Room w m → region_ok (limit_of m) (word_region w) ≡ true
  unfolding region_ok word_region
  region_ok_lem r =
      let n = eqb-false (get_field w 52 12) 0 r.some in
      and_both (eq-eqb _ _ (mul-mod_left (get_field w 16 36) 65536))
      (and_both (le-leb 1 (get_field w 52 12) (omega arith)) (and_both (lt-ltb (get_field w 52 12) 4096 (get_lt w 52 12)) r.fits.ends))

  region_words_lem : RegionWords (word_region w)
  unfolding word_region
  region_words_lem =
      let b : get_field w 16 36 < 2 ^ 36 = get_lt w 16 36 in
      let c : get_field w 52 12 < 2 ^ 12 = get_lt w 52 12 in
      record { base = omega arith; count = omega arith }

  add_region-keeps : Good m → Stays (add_region w m)
  unfolding add_region untouched tables_ok
  add_region-keeps h =
      finish_keeps (region_fault w m) m _ h
      (λ z.
      let a = region_room w m z in
      let p = parts m h in
      let q = places m p.frames in
      let k = h.words in
      let rs = m.regions in
      let new = with_regions (rs ++ (word_region w ∷ [])) m in
      good
      (record {
        memory = k.memory;
        control = k.control;
        frames = k.frames;
        regions = all_append rs k.regions (more region_words_lem none);
        vcpus = k.vcpus;
        shared = k.shared;
        tables = k.tables;
      })
      (record {
        memory = p.memory;
        control = p.control;
        frames =
            placed_well (record {
              distributor = q.distributor;
              single = q.single;
              its = q.its;
              few = rw length-append (omega (arith, a.few));
              regions = to_all (region_ok (limit_of m)) _ (all_append rs (from_all (region_ok (limit_of m)) rs q.regions) (more (region_ok_lem a) none));
              one = λ s. never (sym a.single ∙ s);
              apart = stand_region m q.apart (word_region w) a.fits;
            });
        init =
            made_ready new (λ i.
            let g = ready m p.init i in
            let l = leb-true (length m.vcpus) (total rs) (rw a.single at g.room) in
            record { vcpu = g.vcpu; distributor = g.distributor; room = rw a.single (le-leb _ _ (le_trans l (total_more rs (word_region w)))) });
        vcpus = p.vcpus;
        shared = p.shared;
        last = p.last;
        untouched = p.untouched;
        its = p.its;
        tables = p.tables;
      }))

pub set_group0-keeps : (attribute width value : ℕ) → value < 2 ^ 64 → Keeps (set_group0 attribute width value)
unfolding set_group0
set_group0-keeps attribute width value small m h =
    chosen Stays (eqb attribute 2) (chosen Stays (eqb width 8) (set_distributor-keeps value small m h) h)
    (chosen Stays (eqb attribute 3) (chosen Stays (eqb width 8) (set_single-keeps value small m h) h)
    (chosen Stays (eqb attribute 5) (chosen Stays (eqb width 8) (add_region-keeps value m h) h) h))

pub set_its_group0-keeps : (attribute width value : ℕ) → value < 2 ^ 64 → Keeps (set_its_group0 attribute width value)
unfolding set_its_group0
set_its_group0-keeps attribute width value small m h =
    chosen Stays (eqb attribute 4) (chosen Stays (eqb width 8) (set_its_base-keeps value small m h) h) h
