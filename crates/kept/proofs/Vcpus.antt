-- The fresh guest, adding VCPUs, the running mark, the interrupt count, ITS INIT and RESET keep the rules.
use Prim.Native.Nat.{ℕ, zero, suc, ◌≤◌, ◌<◌, ◌^◌}
use native.Mathlib.Omega.{arith}
use mathlib.Core.Logic.{inl, inr}
use mathlib.Core.Path.{◌≡◌, refl, sym, ap, ◌∙◌}
use mathlib.Core.Bool.{Bool, true, false, ◌&&◌, ◌||◌, not}
use mathlib.Core.List.{List, [], ◌∷◌, ◌++◌, append-nil}
use lib.ListN.{length, get_or, replicate, length-append, length-replicate}
use lib.Dec.{leb, eqb, lit<, lit≤}
use borrow.Author.Tests.{leb-false, le-leb, eqb-true, eqb-false, eq-eqb, ne_eqb}
use Rattle.lists.specs.Rows.{all}
use Rattle.lists.proofs.All.{All, none, more, all_append, from_all, to_all}
use Rattle.fields.specs.Field.{get_field}
use Rattle.guest.specs.declared.Control.{Control}
use Rattle.guest.specs.declared.Vcpu.{Vcpu}
use Rattle.guest.specs.declared.Bank.{Bank}
use Rattle.guest.specs.Machine.{Machine, initialised, is_set, no_vcpu, no_bank, no_tables, unplaced, unset, shared_count, bank_bits, fresh_irqs, fresh, with_control, with_shared, with_tables, with_vcpus}
use Rattle.areas.specs.Area.{apart, overlaps}
use Rattle.rules.specs.Standing.{standing}
use Rattle.rules.specs.Rules.{memory_ok, irqs_ok, frame_ok, frames_ok, init_ok, has_affinity, taken, distinct, vcpu_ok, vcpus_ok, bank_fits, last_ok, fresh_bank, fresh_vcpu, untouched, table_ok, tables_ok}
use Rattle.rules.proofs.Parts.{Default, untouched_parts, untouched_whole}
use Rattle.frames.specs.Vcpus.{add_vcpu, set_running, set_irqs, its_init}
use Rattle.guest.specs.Words.{FrameWords, BankWords, TableWords}
use Rattle.kept.specs.Good.{Good, Stays, Keeps}
use Rattle.kept.proofs.Choice.{choose_by, and_left, and_right, and_both}
use Rattle.kept.proofs.Areas.{clear, clear_with}
use Rattle.kept.proofs.Parts.{parts, good, Marks, marks_words, rows, rows_well, tables_after}

-- two VCPUs strike where they have one affinity
abbrev alike : Vcpu → Vcpu → Bool
alike v w = has_affinity v.affinity w

eqb_sym : (a b : ℕ) → eqb a b ≡ eqb b a
eqb_sym a b = by (eqb a b) refl
  where
    by : (t : Bool) → eqb a b ≡ t → t ≡ eqb b a
    by true q = sym (eq-eqb b a (sym (eqb-true a b q)))
    by false q = sym (ne_eqb b a (λ e. eqb-false a b q (sym e)))

distinct_clear : (vs : List Vcpu) → distinct vs ≡ clear alike vs
unfolding distinct taken clear
distinct_clear [] = refl
distinct_clear (v ∷ vs) = ap (λ (b : Bool). not (taken vs v.affinity) && b) (distinct_clear vs)

pub distinct_with : (vs : List Vcpu) (v : Vcpu) → distinct vs ≡ true → taken vs v.affinity ≡ false → distinct (vs ++ (v ∷ [])) ≡ true
unfolding taken
distinct_with vs v d t =
    distinct_clear (vs ++ (v ∷ []))
    ∙ clear_with alike v [] (λ x y. eqb_sym y.affinity x.affinity) vs (rw append-nil (sym (distinct_clear vs) ∙ d)) (rw append-nil t)

-- what a step shows of new marks and new shared banks
pub record Step (c : Control) (bs : List Bank) (m : Machine) : Type 0 where
  pub marks : Marks c
  pub frames : frames_ok (with_control c m) ≡ true
  pub init : init_ok (with_control c m) ≡ true
  pub banks : All BankWords bs
  pub count : length bs ≡ shared_count c.irqs
  pub last : last_ok bs ≡ true
  pub untouched : untouched (with_shared bs (with_control c m)) ≡ true
  pub later : m.control.itsinit ≤ c.itsinit
  pub based : c.itsinit ≤ m.frames.its.set

pub step_good : {c : Control} {bs : List Bank} {m : Machine} → Good m → Step c bs m → Good (with_shared bs (with_control c m))
unfolding frames_ok standing init_ok tables_ok
step_good {c} {bs} {m} h s =
    let p = parts m h in
    let w = h.words in
    good
    (record {
      memory = w.memory;
      control = marks_words c s.marks;
      frames = w.frames;
      regions = w.regions;
      vcpus = w.vcpus;
      shared = s.banks;
      tables = w.tables;
    })
    (record {
      memory = p.memory;
      control = s.marks;
      frames = s.frames;
      init = s.init;
      vcpus = p.vcpus;
      shared = s.count;
      last = s.last;
      untouched = s.untouched;
      its = s.based;
      tables = tables_after m c s.later p.tables;
    })

pub set_running-keeps : (r : ℕ) → r ≤ 1 → Keeps (set_running r)
unfolding set_running frames_ok standing init_ok untouched
set_running-keeps r l m h =
    choose_by Stays (initialised m)
    (λ i.
    let p = parts m h in
    let k = p.control in
    let i₁ = eqb-true m.control.init 1 i in
    step_good h (record {
      marks = record {
        init = k.init;
        running = omega arith;
        itsinit = k.itsinit;
        irqsset = k.irqsset;
        irqs = k.irqs;
        status = k.status;
        unset = k.unset;
      };
      frames = p.frames;
      init = p.init;
      banks = h.words.shared;
      count = p.shared;
      last = p.last;
      untouched = p.untouched;
      later = omega arith;
      based = p.its;
    }))
    (λ i. h)

-- fresh banks
fresh_banks : (n : ℕ) → All BankWords (replicate n no_bank)
fresh_banks zero = none
fresh_banks (suc n) = more (record { latch = lit< tt; level = lit< tt; trigger = lit< tt }) (fresh_banks n)

fresh_last : (n : ℕ) → last_ok (replicate n no_bank) ≡ true
unfolding last_ok bank_fits bank_bits
fresh_last n = rw (row n 30)
  where
    row : (k i : ℕ) → get_or (replicate k no_bank) i no_bank ≡ no_bank
    row zero i = refl
    row (suc k) zero = refl
    row (suc k) (suc i) = row k i

all_fresh : (n : ℕ) → all fresh_bank (replicate n no_bank) ≡ true
unfolding all fresh_bank
all_fresh zero = refl
all_fresh (suc n) = all_fresh n

pub set_irqs-keeps : (attribute width value : ℕ) → Keeps (set_irqs attribute width value)
unfolding set_irqs frames_ok standing init_ok
set_irqs-keeps attribute width value m h =
    let p = parts m h in
    let k = p.control in
    choose_by Stays (eqb attribute 0)
    (λ _. choose_by Stays (eqb width 4)
    (λ _. choose_by Stays (irqs_ok value)
    (λ n. choose_by Stays (eqb m.control.irqsset 1 || initialised m) (λ _. h)
    (λ _. step_good h (record {
      marks = record {
        init = k.init;
        running = k.running;
        itsinit = k.itsinit;
        irqsset = omega arith;
        irqs = n;
        status = k.status;
        unset = λ z. absurd (omega arith);
      };
      frames = p.frames;
      init = p.init;
      banks = fresh_banks (shared_count value);
      count = length-replicate (shared_count value) no_bank;
      last = fresh_last (shared_count value);
      untouched =
          untouched_whole _ (λ i.
          let u = untouched_parts m p.untouched i in
          record { status = u.status; vcpus = u.vcpus; shared = all_fresh (shared_count value) });
      later = omega arith;
      based = p.its;
    })))
    (λ _. h))
    (λ _. h))
    (λ _. h)

pub its_init-keeps : Keeps its_init
unfolding its_init frames_ok standing init_ok untouched
its_init-keeps m h =
    choose_by Stays (initialised m && is_set m.frames.its)
    (λ e.
    let p = parts m h in
    let k = p.control in
    let i = eqb-true m.control.init 1 (and_left (initialised m) _ e) in
    let s = eqb-true m.frames.its.set 1 (and_right (initialised m) _ e) in
    step_good h (record {
      marks = record {
        init = k.init;
        running = k.running;
        itsinit = omega arith;
        irqsset = k.irqsset;
        irqs = k.irqs;
        status = k.status;
        unset = k.unset;
      };
      frames = p.frames;
      init = p.init;
      banks = h.words.shared;
      count = p.shared;
      last = p.last;
      untouched = p.untouched;
      later = omega (arith, k.itsinit);
      based = omega arith;
    }))
    (λ _. h)

no_table : TableWords unplaced
no_table = record { set = lit< tt; start = lit< tt; pages = lit< tt }

no_tables_lem : (m : Machine) → tables_ok (with_tables no_tables m) ≡ true
unfolding tables_ok table_ok overlaps
no_tables_lem m = and_both (le-leb 0 m.control.itsinit (omega arith)) refl

-- a machine whose tables are not placed any more
pub unplaced_good : (m : Machine) → Good m → Good (with_tables no_tables m)
unfolding frames_ok standing init_ok untouched
unplaced_good m h =
    let p = parts m h in
    let w = h.words in
    good
    (record {
      memory = w.memory;
      control = w.control;
      frames = w.frames;
      regions = w.regions;
      vcpus = w.vcpus;
      shared = w.shared;
      tables = record { devices = no_table; collections = no_table };
    })
    (record {
      memory = p.memory;
      control = p.control;
      frames = p.frames;
      init = p.init;
      vcpus = p.vcpus;
      shared = p.shared;
      last = p.last;
      untouched = p.untouched;
      its = p.its;
      tables = no_tables_lem m;
    })

fresh_vcpu_lem : (a : ℕ) → vcpu_ok (no_vcpu a) ≡ true
unfolding vcpu_ok get_field
fresh_vcpu_lem a = refl

module _ (a : ℕ) (small : a < 2 ^ 32) (m : Machine) (h : Good m) where
  abbrev added : Machine
  added = with_vcpus (m.vcpus ++ (no_vcpu a ∷ [])) m

  added_rows : taken m.vcpus a ≡ false → length m.vcpus < 64 → vcpus_ok (m.vcpus ++ (no_vcpu a ∷ [])) ≡ true
  added_rows t l =
      let vs = m.vcpus in
      let r = rows vs (parts m h).vcpus in
      rows_well (record {
        few = rw length-append (omega arith);
        each = to_all vcpu_ok (vs ++ (no_vcpu a ∷ [])) (all_append vs (from_all vcpu_ok vs r.each) (more (fresh_vcpu_lem a) none));
        distinct = distinct_with vs (no_vcpu a) r.distinct t;
      })

  -- before INIT no frame depends on the number of VCPUs
  added_frames : initialised m ≡ false → frames_ok added ≡ true
  unfolding frames_ok standing
  added_frames i = rw i (rw i at (parts m h).frames)

  -- a new VCPU is as fresh as those before it
  added_fresh : untouched added ≡ true
  unfolding fresh_vcpu
  added_fresh =
      untouched_whole added (λ i.
      let u = untouched_parts m (parts m h).untouched i in
      record {
        status = u.status;
        vcpus = to_all fresh_vcpu (m.vcpus ++ (no_vcpu a ∷ [])) (all_append m.vcpus (from_all fresh_vcpu m.vcpus u.vcpus) (more refl none));
        shared = u.shared;
      })

  added_good : initialised m ≡ false → taken m.vcpus a ≡ false → length m.vcpus < 64 → Good added
  unfolding init_ok tables_ok
  added_good i t l =
      let p = parts m h in
      let w = h.words in
      good
      (record {
        memory = w.memory;
        control = w.control;
        frames = w.frames;
        regions = w.regions;
        vcpus =
            all_append m.vcpus w.vcpus
            (more (record { affinity = small; bank = record { latch = lit< tt; level = lit< tt; trigger = lit< tt }; status = lit< tt }) none);
        shared = w.shared;
        tables = w.tables;
      })
      (record {
        memory = p.memory;
        control = p.control;
        frames = added_frames i;
        init = rw i;
        vcpus = added_rows t l;
        shared = p.shared;
        last = p.last;
        untouched = added_fresh;
        its = p.its;
        tables = p.tables;
      })

pub add_vcpu-keeps : (affinity : ℕ) → affinity < 2 ^ 32 → Keeps (add_vcpu affinity)
unfolding add_vcpu
add_vcpu-keeps a small m h =
    choose_by Stays (initialised m) (λ _. h) (λ i.
    choose_by Stays (taken m.vcpus a) (λ _. h) (λ t.
    choose_by Stays (leb 64 (length m.vcpus)) (λ _. h) (λ l.
    added_good a small m h i t (leb-false 64 (length m.vcpus) l))))

-- a guest that is fresh but for its interrupt count
abbrev pub fresh_with : ℕ → ℕ → ℕ → ℕ → Machine
fresh_with n width start len =
    with_shared (replicate (shared_count n) no_bank)
    (with_control (record { init = 0; running = 0; irqs = n; irqsset = 0; status = 0; itsinit = 0 }) (fresh width start len))

default_irqs : (n : ℕ) → Default n → irqs_ok n ≡ true
unfolding irqs_ok
default_irqs n (inl h) = rw h
default_irqs n (inr h) = rw h

default_small : (n : ℕ) → Default n → n < 2 ^ 64
default_small n (inl h) = rw h (lit< tt)
default_small n (inr h) = rw h (lit< tt)

pub default_good : (n width start len : ℕ) → Default n → width < 2 ^ 64 → start < 2 ^ 64 → len < 2 ^ 64 → memory_ok (record { width = width; start = start; length = len }) ≡ true → Good (fresh_with n width start len)
unfolding frames_ok frame_ok standing apart all init_ok vcpus_ok distinct untouched
default_good n width start len d w s l e =
    good
    (record {
      memory = record { width = w; start = s; length = l };
      control = record { init = lit< tt; running = lit< tt; irqs = default_small n d; irqsset = lit< tt; status = lit< tt; itsinit = lit< tt };
      frames = record { distributor = no_frame; single = no_frame; its = no_frame };
      regions = none;
      vcpus = none;
      shared = fresh_banks (shared_count n);
      tables = record { devices = no_table; collections = no_table };
    })
    (record {
      memory = e;
      control = record { init = lit≤ tt; running = lit≤ tt; itsinit = lit≤ tt; irqsset = lit≤ tt; irqs = default_irqs n d; status = lit< tt; unset = λ _. d };
      frames = refl;
      init = refl;
      vcpus = refl;
      shared = length-replicate (shared_count n) no_bank;
      last = fresh_last (shared_count n);
      untouched = all_fresh (shared_count n);
      its = lit≤ tt;
      tables = no_tables_lem (fresh_with n width start len);
    })
  where
    no_frame : FrameWords unset
    no_frame = record { set = lit< tt; base = lit< tt }

pub fresh_good : (width start len : ℕ) → width < 2 ^ 64 → start < 2 ^ 64 → len < 2 ^ 64 → memory_ok (record { width = width; start = start; length = len }) ≡ true → Good (fresh width start len)
fresh_good width start len = default_good fresh_irqs width start len (inl refl)
