-- A good guest is tame; and a tame guest that differs from a good one only in banks and statuses is good.
use Prim.Native.Nat.{ℕ, ◌<◌}
use native.Mathlib.Omega.{arith}
use mathlib.Core.Path.{◌≡◌, refl, sym, ap, ◌∙◌}
use mathlib.Core.Bool.{Bool, true, ◌&&◌, not}
use mathlib.Core.List.{List, [], ◌∷◌, map}
use lib.ListN.{length, get_or, length-map}
use lib.Dec.{ltb, eqb}
use borrow.Author.Tests.{lt-ltb}
use Rattle.lists.specs.Rows.{find_ix}
use Rattle.lists.proofs.All.{from_all, to_all}
use Rattle.guest.specs.declared.Vcpu.{Vcpu}
use Rattle.guest.specs.Machine.{Machine, no_bank, bank_bits}
use Rattle.guest.specs.Words.{Words, VcpuWords}
use Rattle.rules.specs.Standing.{standing}
use Rattle.rules.specs.Rules.{control_ok, frames_ok, init_ok, taken, distinct, vcpu_ok, vcpus_ok, last_ok, untouched, tables_ok, its_ok, rules}
use Rattle.rules.proofs.Parts.{vcpu_parts, vcpu_whole, vcpus_whole, fits_whole, untouched_parts, untouched_whole, rules_parts, rules_whole}
use Rattle.rules.proofs.Facts.{sound_control, sound_vcpus, sound_last}
use Rattle.kept.specs.Good.{Good}
use Rattle.irqs.proofs.Kept.{OwnOk, Tame, Same, Kept}
use Rattle.irqkept.proofs.Lists.{all_weaken, all_both, find_map}

-- a row that fits and passes is tame, and back
vcpu_tame : (v : Vcpu) → VcpuWords v → vcpu_ok v ≡ true → OwnOk v
vcpu_tame v w e =
    let p = vcpu_parts v e in
    record { affinity = w.affinity; bank = w.bank; status = p.status; trigger = p.edge; level = p.level }

vcpu_words_lem : (v : Vcpu) → OwnOk v → VcpuWords v
vcpu_words_lem v t = record { affinity = t.affinity; bank = t.bank; status = omega (arith, t.status) }

vcpu_passes : (v : Vcpu) → OwnOk v → vcpu_ok v ≡ true
vcpu_passes v t = vcpu_whole v (record { edge = t.trigger; level = t.level; status = t.status })

pub tame : (m : Machine) → Good m → Tame m
tame m h = record {
  vcpus = all_both vcpu_tame h.words.vcpus (from_all vcpu_ok m.vcpus (sound_vcpus m h.rules).each);
  shared = h.words.shared;
  last = sound_last m h.rules;
  status = (sound_control m h.rules).status;
}

-- whether VCPUs are distinct is a matter of their affinities
abbrev affinities_of : List Vcpu → List ℕ
affinities_of vs = map (λ (v : Vcpu). v.affinity) vs

taken_of : List ℕ → ℕ → Bool
taken_of l a = ltb (find_ix (λ x. eqb x a) l) (length l)

distinct_of : List ℕ → Bool
distinct_of [] = true
distinct_of (a ∷ l) = not (taken_of l a) && distinct_of l

taken_of_lem : (vs : List Vcpu) (a : ℕ) → taken vs a ≡ taken_of (affinities_of vs) a
unfolding taken taken_of
taken_of_lem vs a = rw (find_map (λ (v : Vcpu). v.affinity) (λ x. eqb x a) vs, length-map vs (λ (v : Vcpu). v.affinity))

distinct_of_lem : (vs : List Vcpu) → distinct vs ≡ distinct_of (affinities_of vs)
unfolding distinct distinct_of
distinct_of_lem [] = refl
distinct_of_lem (v ∷ vs) = rw (taken_of_lem vs v.affinity, distinct_of_lem vs)

pub distinct_same : (vs ws : List Vcpu) → affinities_of vs ≡ affinities_of ws → distinct vs ≡ distinct ws
distinct_same vs ws e = distinct_of_lem vs ∙ ap distinct_of e ∙ sym (distinct_of_lem ws)

-- a rule that reads only what is the same says the same
module _ (m m' : Machine) (s : Same m m') where
  -- a status of four bits passes as another one does
  control_same : m.control.status < 16 → m'.control.status < 16 → control_ok m'.control ≡ control_ok m.control
  unfolding control_ok
  control_same a b = rw (s.init, s.running, s.itsinit, s.irqsset, s.irqs, lt-ltb _ _ a, lt-ltb _ _ b)

  frames_same : frames_ok m' ≡ frames_ok m
  unfolding frames_ok standing
  frames_same = rw (s.memory, s.frames, s.regions, s.init, s.vcpus)

  init_same : init_ok m' ≡ init_ok m
  unfolding init_ok
  init_same = rw (s.frames, s.regions, s.init, s.vcpus)

  its_same : its_ok m' ≡ its_ok m
  unfolding its_ok
  its_same = rw (s.frames, s.itsinit)

  tables_same : tables_ok m' ≡ tables_ok m
  unfolding tables_ok
  tables_same = rw (s.memory, s.tables, s.itsinit)

module _ (m m' : Machine) (h : Good m) (k : Kept m m') where
  words_kept : Words m'
  words_kept =
      let s = k.same in
      let w = h.words in
      record {
        memory = rw s.memory w.memory;
        control = record {
          init = rw s.init w.control.init;
          running = rw s.running w.control.running;
          irqs = rw s.irqs w.control.irqs;
          irqsset = rw s.irqsset w.control.irqsset;
          status = omega (arith, k.tame.status);
          itsinit = rw s.itsinit w.control.itsinit;
        };
        frames = rw s.frames w.frames;
        regions = rw s.regions w.regions;
        vcpus = all_weaken vcpu_words_lem k.tame.vcpus;
        shared = k.tame.shared;
        tables = rw s.tables w.tables;
      }

  vcpus_kept : vcpus_ok m'.vcpus ≡ true
  vcpus_kept =
      let p = sound_vcpus m h.rules in
      vcpus_whole m'.vcpus (record {
        few = rw k.same.vcpus p.few;
        each = to_all vcpu_ok m'.vcpus (all_weaken vcpu_passes k.tame.vcpus);
        distinct = distinct_same m'.vcpus m.vcpus k.same.affinities ∙ p.distinct;
      })

  last_kept : last_ok m'.shared ≡ true
  unfolding last_ok
  last_kept = fits_whole (bank_bits 30) (get_or m'.shared 30 no_bank) k.tame.last

  -- before INIT such a call changes nothing
  untouched_kept : untouched m' ≡ true
  untouched_kept =
      untouched_whole m' (λ n.
      let q : m.control.init ≡ 1 → ⊥ = λ i. n (k.same.init ∙ i) in
      rw (k.early q) (untouched_parts m (rules_parts m h.rules).untouched q))

  rules_kept : rules m' ≡ true
  rules_kept =
      let s = k.same in
      let p = rules_parts m h.rules in
      rules_whole m' (record {
        memory = rw s.memory p.memory;
        control = control_same m m' s (sound_control m h.rules).status k.tame.status ∙ p.control;
        frames = frames_same m m' s ∙ p.frames;
        init = init_same m m' s ∙ p.init;
        vcpus = vcpus_kept;
        shared = rw (s.shared, s.irqs) p.shared;
        last = last_kept;
        untouched = untouched_kept;
        its = its_same m m' s ∙ p.its;
        tables = tables_same m m' s ∙ p.tables;
      })

  pub kept_good : Good m'
  kept_good = record { words = words_kept; rules = rules_kept }
