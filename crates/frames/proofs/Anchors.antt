-- VCPUs, both INITs, the running mark, redistributors' places and the interrupt count (§3.1, §3.2, §3.11 to §3.15, §5.2) in plain
-- arithmetic, without the definitions' tests. Assumes nothing.
use Prim.Native.Nat.{ℕ, ◌+◌, ◌-◌, ◌*◌, ◌/◌, ◌%◌, ◌^◌, ◌≤◌, ◌<◌}
use native.Mathlib.Omega.{arith}
use mathlib.Core.Path.{◌≡◌, refl, sym, ap, ◌∙◌}
use mathlib.Core.Logic.{◌↔◌, ◌≢◌, ◌⊎◌, inl, inr, ⊎_elim}
use mathlib.Core.Bool.{Bool, true, false, ◌&&◌, ◌||◌}
use mathlib.Core.List.{List, [], ◌∷◌, ◌++◌, map}
use lib.ListN.{length, replicate}
use lib.Dec.{ltb, leb, eqb}
use borrow.Author.Tests.{lt-ltb, le-ltb, eq-eqb, ne_eqb, le-leb, lt-leb, eqb-true, eqb-false, leb-true, ltb-true, ltb-false}
use Rattle.lists.specs.Rows.{choose}
use Rattle.lists.proofs.All.{All, none, more}
use Rattle.areas.specs.declared.Area.{Area}
use Rattle.areas.specs.Area.{ends_by, overlaps, strikes}
use Rattle.areas.proofs.Tests.{clash, refuted, or_left, or_right, or_true}
use Rattle.areas.proofs.Has.{has, has_nil, has_cons}
use Rattle.areas.proofs.Laws.{overlaps_byte, byte_overlaps, strikes_nil, strikes_cons, strikes_append}
use Rattle.guest.specs.declared.Frame.{Frame}
use Rattle.guest.specs.declared.Region.{Region}
use Rattle.guest.specs.declared.Vcpu.{Vcpu}
use Rattle.guest.specs.Machine.{Machine, Result, refuse, accept, initialised, is_set, no_vcpu, with_vcpus}
use Rattle.rules.specs.Rules.{irqs_ok, has_affinity, taken}
use Rattle.rules.proofs.Parts.{irqs_parts, irqs_whole}
use Rattle.rules.specs.Standing.{placed, region_area, total, others}
use Rattle.frames.specs.Vcpus.{add_vcpu, set_running, set_irqs, get_irqs, its_init}
use Rattle.frames.specs.Needs.{Apart, counts, RunFits, InitNeeds}
use Rattle.frames.specs.Init.{vgic_init, has_places, run_fits, run_area, locate, redist_base}

-- an interrupt count: 64 to 1,024 in steps of 32
abbrev pub Count : ℕ → Type 0
Count n = (64 ≤ n) × (n ≤ 1024) × (n % 32 ≡ 0)

count_test : (n : ℕ) → Count n → irqs_ok n ≡ true
count_test n c = irqs_whole n (record { least = c.0; most = c.1; step = c.2 })

counted : (n : ℕ) → irqs_ok n ≡ true → Count n
counted n e = let p = irqs_parts n e in (p.least, p.most, p.step)

-- no VCPU has the affinity
abbrev pub Free : ℕ → List Vcpu → Type 0
Free a vs = All (λ v. v.affinity ≢ a) vs

free_untaken : (a : ℕ) (vs : List Vcpu) → Free a vs → taken vs a ≡ false
unfolding taken
free_untaken a [] none = has_nil (has_affinity a)
free_untaken a (v ∷ vs) (more p q) = has_cons (has_affinity a) v vs ∙ rw (ne_eqb v.affinity a p) (free_untaken a vs q)

untaken_free : (a : ℕ) (vs : List Vcpu) → taken vs a ≡ false → Free a vs
unfolding taken
untaken_free a [] e = none
untaken_free a (v ∷ vs) e =
    let f = sym (has_cons (has_affinity a) v vs) ∙ e in
    more (eqb-false v.affinity a (or_left (has_affinity a v) (has (has_affinity a) vs) f))
    (untaken_free a vs (or_right (has_affinity a v) (has (has_affinity a) vs) f))

total_counts : (rs : List Region) → total rs ≡ counts rs
unfolding total
total_counts [] = refl
total_counts (r ∷ rs) = ap (λ (n : ℕ). r.count + n) (total_counts rs)

-- the redistributor's frame of number j in the region r, with the regions rs before it
pub placed_at : (rs rest : List Region) (r : Region) (j : ℕ) → j < r.count → locate (rs ++ (r ∷ rest)) (counts rs + j) ≡ r.base + 131072 * j
unfolding locate
placed_at [] rest r j h = let z : 0 + j ≡ j = omega arith in rw (z, lt-ltb j r.count h)
placed_at (q ∷ rs) rest r j h =
    let k = q.count + counts rs + j in
    let e : k - q.count ≡ counts rs + j = omega arith in
    rw (le-ltb k q.count (omega arith), e) (placed_at rs rest r j h)

-- and a number below the sum of the counts has such a region
pub record Split (l : List Region) (k : ℕ) : Type 0 where
  pub before : List Region
  pub region : Region
  pub after : List Region
  pub index : ℕ
  pub whole : l ≡ before ++ (region ∷ after)
  pub sum : k ≡ counts before + index
  pub within : index < region.count

pub split_at : (l : List Region) (k : ℕ) → k < counts l → Split l k
split_at [] k h = absurd (omega (arith, h))
split_at (q ∷ l) k h = by (ltb k q.count) refl (λ g. split_at l (k - q.count) g)
  where
    by : (t : Bool) → ltb k q.count ≡ t → (k - q.count < counts l → Split l (k - q.count)) → Split (q ∷ l) k
    by true e rest =
        record { before = []; region = q; after = l; index = k; whole = refl; sum = omega arith; within = ltb-true k q.count e }
    by false e rest =
        let low = ltb-false k q.count e in
        let s = rest (omega arith) in
        record {
          before = q ∷ s.before;
          region = s.region;
          after = s.after;
          index = s.index;
          whole = ap (λ (t : List Region). q ∷ t) s.whole;
          sum = omega (arith, s.sum);
          within = s.within;
        }

-- an area strikes none of a list
module _ (a : Area) where
  apart_free : (b : Area) → Apart a.start a.size b.start b.size → overlaps a b ≡ false
  apart_free b p = by (overlaps a b) refl
    where
      by : (t : Bool) → overlaps a b ≡ t → overlaps a b ≡ false
      by false e = e
      by true e = let s = overlaps_byte a b e in absurd (p s.0 (s.1, s.2) (s.3, s.4))

  free_apart : (b : Area) → overlaps a b ≡ false → Apart a.start a.size b.start b.size
  free_apart b e x p q = clash (byte_overlaps a b (x, p.0, p.1, q.0, q.1)) e

  free_regions : (rs : List Region) → All (λ r. Apart a.start a.size r.base (131072 * r.count)) rs → strikes (map region_area rs) a ≡ false
  free_regions [] none = strikes_nil a
  free_regions (r ∷ rs) (more p q) =
      strikes_cons a (region_area r) (map region_area rs) ∙ rw (apart_free (region_area r) p) (free_regions rs q)

  regions_free : (rs : List Region) → strikes (map region_area rs) a ≡ false → All (λ r. Apart a.start a.size r.base (131072 * r.count)) rs
  regions_free [] e = none
  regions_free (r ∷ rs) e =
      let f = sym (strikes_cons a (region_area r) (map region_area rs)) ∙ e in
      more (free_apart (region_area r) (or_left (overlaps a (region_area r)) (strikes (map region_area rs) a) f))
      (regions_free rs (or_right (overlaps a (region_area r)) (strikes (map region_area rs) a) f))

  -- a frame counts where its base is set
  module _ (f : Frame) (size : ℕ) where
    abbrev Clear : Type 0
    Clear = f.set ≡ 1 → Apart a.start a.size f.base size

    free_frame : Clear → strikes (placed f size) a ≡ false
    free_frame p = by (is_set f) refl
      where
        by : (t : Bool) → is_set f ≡ t → strikes (choose t (record { start = f.base; size = size } ∷ []) []) a ≡ false
        by true e =
            strikes_cons a (record { start = f.base; size = size }) []
            ∙ rw (apart_free (record { start = f.base; size = size }) (p (eqb-true f.set 1 e))) (strikes_nil a)
        by false e = strikes_nil a

    frame_free : strikes (placed f size) a ≡ false → Clear
    frame_free e h =
        let s : strikes (record { start = f.base; size = size } ∷ []) a ≡ false = rw (eq-eqb f.set 1 h) at e in
        free_apart (record { start = f.base; size = size })
        (or_left (overlaps a (record { start = f.base; size = size })) (strikes [] a) (sym (strikes_cons a (record { start = f.base; size = size }) []) ∙ s))

-- the definitions' tests of a place for every redistributor
module _ (m : Machine) where
  struck_parts : strikes (others m) (run_area m)
      ≡ ((strikes (placed m.frames.distributor 65536) (run_area m) || strikes (map region_area m.regions) (run_area m)) || strikes (placed m.frames.its 131072) (run_area m))
  unfolding others
  struck_parts =
      strikes_append (run_area m) (placed m.frames.distributor 65536 ++ map region_area m.regions) (placed m.frames.its 131072)
      ∙ ap (λ (t : Bool). t || strikes (placed m.frames.its 131072) (run_area m))
      (strikes_append (run_area m) (placed m.frames.distributor 65536) (map region_area m.regions))

  fits_run : RunFits m → run_fits (run_area m) m ≡ true
  unfolding ends_by
  fits_run f =
      rw (
        le-leb (m.frames.single.base + 131072 * length m.vcpus) (2 ^ m.memory.width) f.ends,
        struck_parts,
        free_frame (run_area m) m.frames.distributor 65536 f.distributor,
        free_regions (run_area m) m.regions f.regions,
        free_frame (run_area m) m.frames.its 131072 f.its,
      )

  run_fits_lem : run_fits (run_area m) m ≡ true → RunFits m
  unfolding ends_by
  run_fits_lem e = by (leb (m.frames.single.base + 131072 * length m.vcpus) (2 ^ m.memory.width)) refl (strikes (others m) (run_area m)) refl e
    where
      by : (t : Bool) → leb (m.frames.single.base + 131072 * length m.vcpus) (2 ^ m.memory.width) ≡ t
          → (u : Bool) → strikes (others m) (run_area m) ≡ u → choose t (choose u false true) false ≡ true → RunFits m
      by true h false k q =
          let n = sym struck_parts ∙ k in
          let d = strikes (placed m.frames.distributor 65536) (run_area m) in
          let r = strikes (map region_area m.regions) (run_area m) in
          let i = strikes (placed m.frames.its 131072) (run_area m) in
          record {
            ends = leb-true (m.frames.single.base + 131072 * length m.vcpus) (2 ^ m.memory.width) h;
            distributor = frame_free (run_area m) m.frames.distributor 65536 (or_left d r (or_left (d || r) i n));
            its = frame_free (run_area m) m.frames.its 131072 (or_right (d || r) i n);
            regions = regions_free (run_area m) m.regions (or_right d r (or_left (d || r) i n));
          }
      by true h true k q = absurd (clash q refl)
      by false h u k q = absurd (clash q refl)

  abbrev Places : Type 0
  Places = ((m.frames.single.set ≡ 1) × RunFits m) ⊎ ((m.frames.single.set ≢ 1) × (length m.vcpus ≤ counts m.regions))

  places_test : Places → has_places m ≡ true
  unfolding has_places
  places_test (inl p) = rw (eq-eqb m.frames.single.set 1 p.0) (fits_run p.1)
  places_test (inr p) = rw (ne_eqb m.frames.single.set 1 p.0, total_counts m.regions) (le-leb (length m.vcpus) (counts m.regions) p.1)

  test_places : has_places m ≡ true → Places
  unfolding has_places
  test_places e = by (is_set m.frames.single) refl
    where
      by : (t : Bool) → is_set m.frames.single ≡ t → Places
      by true h = inl (eqb-true m.frames.single.set 1 h, run_fits_lem (rw h at e))
      by false h = inr (eqb-false m.frames.single.set 1 h, leb-true (length m.vcpus) (counts m.regions) (rw (h, total_counts m.regions) at e))

  decided : 1 ≤ length m.vcpus → InitNeeds m ⊎ (¬ InitNeeds m)
  decided v = by (is_set m.frames.distributor) refl (has_places m) refl
    where
      by : (t : Bool) → is_set m.frames.distributor ≡ t → (u : Bool) → has_places m ≡ u → InitNeeds m ⊎ (¬ InitNeeds m)
      by true d true p = inl (record { vcpus = v; distributor = eqb-true m.frames.distributor.set 1 d; places = test_places p })
      by true d false p = inr (λ r. clash (places_test r.places) p)
      by false d u p = inr (λ r. eqb-false m.frames.distributor.set 1 d r.distributor)

  -- a guest with other marks of INIT, running and ITS INIT, and nothing else changed
  abbrev pub marked : ℕ → ℕ → ℕ → Machine
  marked init running itsinit = record {
    memory = m.memory;
    control = record {
      init = init;
      running = running;
      irqs = m.control.irqs;
      irqsset = m.control.irqsset;
      status = m.control.status;
      itsinit = itsinit;
    };
    frames = m.frames;
    regions = m.regions;
    vcpus = m.vcpus;
    shared = m.shared;
    tables = m.tables;
  }

  -- adding a VCPU, in all its cases: after INIT, affinity taken, a 65th; else it stands behind the others, the 64th too
  module _ (a : ℕ) where
    pub vcpu_late : m.control.init ≡ 1 → add_vcpu a m ≡ record { errno = 16; next = m }
    unfolding add_vcpu
    vcpu_late i = rw i

    module _ (n : m.control.init ≢ 1) where
      pub vcpu_taken : ¬ Free a m.vcpus → add_vcpu a m ≡ record { errno = 22; next = m }
      unfolding add_vcpu
      vcpu_taken t = rw (ne_eqb m.control.init 1 n, held (taken m.vcpus a) refl)
        where
          held : (b : Bool) → taken m.vcpus a ≡ b → taken m.vcpus a ≡ true
          held true e = e
          held false e = absurd (t (untaken_free a m.vcpus e))

      module _ (f : Free a m.vcpus) where
        pub vcpu_last : length m.vcpus ≡ 63 → (add_vcpu a m).errno ≡ 0
        unfolding add_vcpu
        vcpu_last h = rw (ne_eqb m.control.init 1 n, free_untaken a m.vcpus f, h)

        pub vcpu_many : 64 ≤ length m.vcpus → add_vcpu a m ≡ record { errno = 12; next = m }
        unfolding add_vcpu
        vcpu_many h = rw (ne_eqb m.control.init 1 n, free_untaken a m.vcpus f, le-leb 64 (length m.vcpus) h)

        pub vcpu_added : length m.vcpus < 64 → add_vcpu a m ≡ record { errno = 0; next = with_vcpus (m.vcpus ++ (no_vcpu a ∷ [])) m }
        unfolding add_vcpu
        vcpu_added h = rw (ne_eqb m.control.init 1 n, free_untaken a m.vcpus f, lt-leb 64 (length m.vcpus) h)

  -- INIT, in all its cases: done before, no VCPU, ready, and not ready
  pub init_again : m.control.init ≡ 1 → vgic_init m ≡ record { errno = 0; next = m }
  unfolding vgic_init
  init_again i = rw i

  module _ (n : m.control.init ≢ 1) where
    pub init_empty : length m.vcpus ≡ 0 → vgic_init m ≡ record { errno = 19; next = m }
    unfolding vgic_init
    init_empty z = rw (ne_eqb m.control.init 1 n, eq-eqb (length m.vcpus) 0 z)

    pub init_ready : InitNeeds m → vgic_init m ≡ record { errno = 0; next = marked 1 m.control.running m.control.itsinit }
    unfolding vgic_init
    init_ready r =
        let v = r.vcpus in
        rw (
          ne_eqb m.control.init 1 n,
          ne_eqb (length m.vcpus) 0 (λ q. omega arith),
          places_test r.places,
          r.distributor,
        )

    pub init_unready : 1 ≤ length m.vcpus → ¬ InitNeeds m → vgic_init m ≡ record { errno = 6; next = m }
    unfolding vgic_init
    init_unready v u = by (is_set m.frames.distributor) refl (has_places m) refl
      where
        by : (t : Bool) → is_set m.frames.distributor ≡ t → (w : Bool) → has_places m ≡ w → vgic_init m ≡ record { errno = 6; next = m }
        by true d true p = absurd (u (record { vcpus = v; distributor = eqb-true m.frames.distributor.set 1 d; places = test_places p }))
        by true d false p = rw (ne_eqb m.control.init 1 n, ne_eqb (length m.vcpus) 0 (λ q. omega arith), d, p)
        by false d w p = rw (ne_eqb m.control.init 1 n, ne_eqb (length m.vcpus) 0 (λ q. omega arith), d)

  -- so it is accepted exactly when it was done before or the guest is ready
  pub init_accepted : (vgic_init m).errno ≡ 0 ↔ (m.control.init ≡ 1) ⊎ InitNeeds m
  init_accepted = (to, from)
    where
      to : (vgic_init m).errno ≡ 0 → (m.control.init ≡ 1) ⊎ InitNeeds m
      to h = by (initialised m) refl (eqb (length m.vcpus) 0) refl
        where
          by : (t : Bool) → initialised m ≡ t → (u : Bool) → eqb (length m.vcpus) 0 ≡ u → (m.control.init ≡ 1) ⊎ InitNeeds m
          by true i u v = inl (eqb-true m.control.init 1 i)
          by false i true v = absurd (omega (arith, sym (ap (λ (r : Result). r.errno) (init_empty (eqb-false m.control.init 1 i) (eqb-true (length m.vcpus) 0 v))) ∙ h))
          by false i false v =
              let some : 1 ≤ length m.vcpus = omega (arith, eqb-false (length m.vcpus) 0 v) in
              ⊎_elim (λ r. inr r)
              (λ u. absurd (omega (arith, sym (ap (λ (r : Result). r.errno) (init_unready (eqb-false m.control.init 1 i) some u)) ∙ h)))
              (decided some)

      from : (m.control.init ≡ 1) ⊎ InitNeeds m → (vgic_init m).errno ≡ 0
      from (inl i) = ap (λ (r : Result). r.errno) (init_again i)
      from (inr r) = by (initialised m) refl
        where
          by : (t : Bool) → initialised m ≡ t → (vgic_init m).errno ≡ 0
          by true i = ap (λ (r : Result). r.errno) (init_again (eqb-true m.control.init 1 i))
          by false i = ap (λ (r : Result). r.errno) (init_ready (eqb-false m.control.init 1 i) r)

  -- start (mark 1) and stop (mark 0) set the running mark once INIT is done
  pub running_set : (mark : ℕ) → m.control.init ≡ 1
      → set_running mark m ≡ record { errno = 0; next = marked m.control.init mark m.control.itsinit }
  unfolding set_running
  running_set mark i = rw i

  pub running_early : (mark : ℕ) → m.control.init ≢ 1 → set_running mark m ≡ record { errno = 6; next = m }
  unfolding set_running
  running_early mark n = rw (ne_eqb m.control.init 1 n)

  -- ITS INIT needs the VGIC's and the ITS base
  pub its_ready : m.control.init ≡ 1 → m.frames.its.set ≡ 1
      → its_init m ≡ record { errno = 0; next = marked m.control.init m.control.running 1 }
  unfolding its_init
  its_ready i s = rw (i, s)

  pub its_unready : (m.control.init ≢ 1) ⊎ (m.frames.its.set ≢ 1) → its_init m ≡ record { errno = 6; next = m }
  unfolding its_init
  its_unready (inl n) = rw (ne_eqb m.control.init 1 n)
  its_unready (inr n) = rw (ne_eqb m.frames.its.set 1 n) (by (initialised m))
    where
      by : (t : Bool) → choose (t && false) (accept (marked m.control.init m.control.running 1)) (refuse m 6) ≡ refuse m 6
      by true = refl
      by false = refl

  -- where the redistributor of a VCPU lies, once INIT is done: in the single run, or in the region r behind the regions rs
  module _ (i : m.control.init ≡ 1) where
    pub redist_single : (k : ℕ) → k < length m.vcpus → m.frames.single.set ≡ 1
        → redist_base k m ≡ record { errno = 0; number = m.frames.single.base + 131072 * k }
    unfolding redist_base
    redist_single k h s = rw (i, lt-ltb k (length m.vcpus) h, s)

    pub redist_region : (rs rest : List Region) (r : Region) (j : ℕ) → m.frames.single.set ≢ 1 → m.regions ≡ rs ++ (r ∷ rest)
        → j < r.count → counts rs + j < length m.vcpus
        → redist_base (counts rs + j) m ≡ record { errno = 0; number = r.base + 131072 * j }
    unfolding redist_base
    redist_region rs rest r j s e h k =
        rw (
          i,
          lt-ltb (counts rs + j) (length m.vcpus) k,
          ne_eqb m.frames.single.set 1 s,
          e,
          placed_at rs rest r j h,
        )

    pub redist_unknown : (k : ℕ) → length m.vcpus ≤ k → redist_base k m ≡ record { errno = 22; number = 0 }
    unfolding redist_base
    redist_unknown k h = rw (i, le-ltb k (length m.vcpus) h)

  pub redist_early : (k : ℕ) → m.control.init ≢ 1 → redist_base k m ≡ record { errno = 6; number = 0 }
  unfolding redist_base
  redist_early k n = rw (ne_eqb m.control.init 1 n)

  -- group 3, in all its cases: attribute, width, the number, set before or after INIT; then the count is set, with fresh banks
  pub irqs_unknown : (attribute width n : ℕ) → attribute ≢ 0 → set_irqs attribute width n m ≡ record { errno = 6; next = m }
  unfolding set_irqs
  irqs_unknown attribute width n a = rw (ne_eqb attribute 0 a)

  pub irqs_width : (width n : ℕ) → width ≢ 4 → set_irqs 0 width n m ≡ record { errno = 14; next = m }
  unfolding set_irqs
  irqs_width width n w = rw (ne_eqb width 4 w)

  pub irqs_bad : (n : ℕ) → ¬ Count n → set_irqs 0 4 n m ≡ record { errno = 22; next = m }
  unfolding set_irqs
  irqs_bad n c = rw (sym (refuted (irqs_ok n) (λ e. c (counted n e))))

  pub irqs_fixed : (n : ℕ) → Count n → (m.control.irqsset ≡ 1) ⊎ (m.control.init ≡ 1) → set_irqs 0 4 n m ≡ record { errno = 16; next = m }
  unfolding set_irqs
  irqs_fixed n c (inl s) = rw (count_test n c, s)
  irqs_fixed n c (inr i) = rw (count_test n c, i, or_true (eqb m.control.irqsset 1))

  pub irqs_set : (n : ℕ) → Count n → m.control.irqsset ≢ 1 → m.control.init ≢ 1 → set_irqs 0 4 n m ≡ record {
    errno = 0;
    next = record {
      memory = m.memory;
      control = record {
        init = m.control.init;
        running = m.control.running;
        irqs = n;
        irqsset = 1;
        status = m.control.status;
        itsinit = m.control.itsinit;
      };
      frames = m.frames;
      regions = m.regions;
      vcpus = m.vcpus;
      shared = replicate (n / 32 - 1) (record { latch = 0; level = 0; trigger = 0 });
      tables = m.tables;
    };
  }
  unfolding set_irqs
  irqs_set n c s i = rw (count_test n c, ne_eqb m.control.irqsset 1 s, ne_eqb m.control.init 1 i)

  -- so it is accepted exactly then
  pub irqs_accepted : (attribute width n : ℕ)
      → (set_irqs attribute width n m).errno ≡ 0 ↔ (attribute ≡ 0) × (width ≡ 4) × Count n × (m.control.irqsset ≢ 1) × (m.control.init ≢ 1)
  unfolding set_irqs
  irqs_accepted attribute width n = (to, from)
    where
      to : (set_irqs attribute width n m).errno ≡ 0 → (attribute ≡ 0) × (width ≡ 4) × Count n × (m.control.irqsset ≢ 1) × (m.control.init ≢ 1)
      to h = by (eqb attribute 0) refl (eqb width 4) refl (irqs_ok n) refl (eqb m.control.irqsset 1) refl (initialised m) refl
        where
          by : (a : Bool) → eqb attribute 0 ≡ a → (b : Bool) → eqb width 4 ≡ b → (c : Bool) → irqs_ok n ≡ c
              → (d : Bool) → eqb m.control.irqsset 1 ≡ d → (e : Bool) → initialised m ≡ e
              → (attribute ≡ 0) × (width ≡ 4) × Count n × (m.control.irqsset ≢ 1) × (m.control.init ≢ 1)
          by true a true b true c false d false e =
              (eqb-true attribute 0 a, eqb-true width 4 b, counted n c, eqb-false m.control.irqsset 1 d, eqb-false m.control.init 1 e)
          by true a true b true c false d true e = absurd (omega (arith, (rw (a, b, c, d, e) at h)))
          by true a true b true c true d t e = absurd (omega (arith, (rw (a, b, c, d) at h)))
          by true a true b false c s d t e = absurd (omega (arith, (rw (a, b, c) at h)))
          by true a false b r c s d t e = absurd (omega (arith, (rw (a, b) at h)))
          by false a q b r c s d t e = absurd (omega (arith, (rw a at h)))

      from : (attribute ≡ 0) × (width ≡ 4) × Count n × (m.control.irqsset ≢ 1) × (m.control.init ≢ 1) → (set_irqs attribute width n m).errno ≡ 0
      from p =
          rw (
            eq-eqb attribute 0 p.0,
            eq-eqb width 4 p.1,
            count_test n p.2,
            ne_eqb m.control.irqsset 1 p.3,
            ne_eqb m.control.init 1 p.4,
          )

  -- the count is read at any time
  pub irqs_read : get_irqs 0 4 m ≡ record { errno = 0; number = m.control.irqs }
  unfolding get_irqs
  irqs_read = refl
