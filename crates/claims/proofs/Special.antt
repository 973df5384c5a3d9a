-- INTIDs 1,020 to 1,023 read 0 on every sound state, and no call stores anything for them. Assumes nothing.
use Prim.Native.Nat.{ℕ, zero, suc, ◌/◌, ◌^◌, ◌≤◌, ◌<◌}
use native.Mathlib.Nat.{lt_of_le_of_lt}
use native.Mathlib.Omega.{arith}
use mathlib.Core.Path.{◌≡◌, refl, sym, ap, ◌∙◌}
use mathlib.Core.Bool.{Bool, true, false}
use mathlib.Core.List.{List}
use lib.IntN.{ℤ, pos, negsuc}
use lib.ListN.{length, get_or}
use lib.Dec.{eqb}
use borrow.Author.Tests.{eqb-false}
use Rattle.lists.specs.Rows.{choose}
use Rattle.words.specs.Words.{le, bytes_of}
use Rattle.answers.specs.Answer.{refusal, done}
use Rattle.answers.proofs.Laws.{refusal_not_done}
use Rattle.guest.specs.Machine.{Reading}
use Rattle.guest.specs.Machine.{Machine, no_bank, bank_bits}
use Rattle.guest.specs.Words.{BankFits}
use Rattle.rules.proofs.Facts.{sound_last}
use Rattle.irqs.specs.Irqs.{irq_pending, irq_set, irq_clear}
use Rattle.irqs.proofs.Anchors.{Named, fault_none, line_accepted}
use Rattle.irqs.proofs.Special.{pending_none, set_none, clear_none, line_none, zero_word, latch_word, level_word_lem}
use Rattle.layout.specs.Layout.{decode}
use Rattle.maplayout.specs.MapLayout.{decode_map}
use Rattle.kept.proofs.Choice.{chosen}
use Rattle.calls.specs.declared.Change.{Change}
use Rattle.calls.specs.declared.Change.TheVariants.{SetPending, ClearPending, Activate, Line}
use Rattle.calls.specs.declared.Question.TheVariants.{VgicGet, Pending}
use Rattle.calls.specs.Groups as groups
use Rattle.calls.specs.Steps.{change_step, ask_step}
use Rattle.calls.specs.Call.{Reply, changes, asks, given, answered, value_of}
use Rattle.state.specs.Sound.{Sound}
use Rattle.step.specs.Step.{Call, step}
use Rattle.claims.specs.Demand3.{Accepted, run}
use Rattle.claims.specs.Special.{Special, OnOne, Reads, Short, Silent, SpecialIntids}
use Rattle.claims.proofs.Stored.{says, stored_is, stored_map_lem}
use Rattle.claims.proofs.On.{ask_is, change_is, change_done}
use Rattle.claims.proofs.Demand3.{run_sound}

-- bytes stand for no more than the number that they were made of
le_most : (n v : ℕ) → le (bytes_of n v) ≤ v
unfolding le bytes_of
le_most zero v = omega arith
le_most (suc n) v = omega (arith, le_most n (v / 256))

-- an answer is the number of what was told, and a value that was filled has it
answer_number : (r : Reading) (n : ℕ) → answered r ≡ done n → n ≡ r.number
answer_number r n = by (eqb r.errno 0) refl
  where
    number : ℤ → ℕ
    number (pos x) = x
    number (negsuc x) = 0

    by : (b : Bool) → eqb r.errno 0 ≡ b → choose b (done r.number) (refusal r.errno) ≡ done n → n ≡ r.number
    by true q e = ap number (sym e)
    by false q e = absurd (refusal_not_done r.errno n (let z = eqb-false r.errno 0 q in omega (arith, z)) e)

filled_most : (r : Reading) (v : List ℕ) → (given r v).answer ≡ done 0 → le (given r v).lent ≤ r.number
filled_most r v = by (eqb r.errno 0) refl
  where
    by : (b : Bool) → eqb r.errno 0 ≡ b
        → (choose {A = Reply} b (record { answer = done 0; lent = bytes_of (length v) r.number }) (record { answer = refusal r.errno; lent = v })).answer ≡ done 0
        → le (choose {A = Reply} b (record { answer = done 0; lent = bytes_of (length v) r.number }) (record { answer = refusal r.errno; lent = v })).lent ≤ r.number
    by true q e = le_most (length v) r.number
    by false q e = absurd (refusal_not_done r.errno 0 (let z = eqb-false r.errno 0 q in omega (arith, z)) e)

module _ (s : List ℕ) (h : Sound s) where
  abbrev m : Machine
  m = decode s

  fits : BankFits (bank_bits 30) (get_or m.shared 30 no_bank)
  fits = sound_last m (says s h).good.rules

  held : Short (get_or m.shared 30 no_bank)
  unfolding bank_bits
  held = record { latch = fits.latch; level = fits.level; trigger = fits.trigger }

  silent_pending : (k intid n : ℕ) → Special intid → answered (asks (Pending k intid) s) ≡ done n → n ≡ 0
  silent_pending k intid n x e =
      answer_number (asks (Pending k intid) s) n e ∙ ap (λ (r : Reading). r.number) (ask_is s h (Pending k intid))
      ∙ pending_none m fits k intid x.from x.to

  -- a get whose number is small fills its value with a small one
  silent_read : (group attribute : ℕ) (v : List ℕ) → (ask_step (VgicGet group attribute (length v) (value_of v)) m).number < 2 ^ 28
      → (given (asks (VgicGet group attribute (length v) (value_of v)) s) v).answer ≡ done 0
      → le (given (asks (VgicGet group attribute (length v) (value_of v)) s) v).lent < 2 ^ 28
  silent_read group attribute v l e =
      let q = VgicGet group attribute (length v) (value_of v) in
      lt_of_le_of_lt (filled_most (asks q s) v e) (rw (ask_is s h q) l)

  reads : (q : Call) (v : List ℕ) → Reads q → Accepted (step q s v) → le (step q s v).lent < 2 ^ 28
  unfolding groups.vgic_get
  reads q v (Reads.latches a e) z = silent_read 1 a v (latch_word m fits a (length v) e) z
  reads q v (Reads.zeros a e) z = silent_read 1 a v (zero_word m a (length v) e) z
  reads q v (Reads.levels a e) z = silent_read 7 a v (level_word_lem m fits a (length v) e) z

  -- a change that leaves the machine leaves the guest and the mapping that the bytes stand for
  abbrev Left : List ℕ → Type 0
  Left t = (decode t ≡ m) × (decode_map t ≡ decode_map s)

  same_left : (c : Change) → (change_step c m).next ≡ m → Left (changes c s).lent
  same_left c e =
      rw (change_is s h c, e)
      (chosen (λ (r : Reply). Left r.lent) (eqb (change_step c m).errno 0)
      (stored_is m s h.long (says s h).good, stored_map_lem m s h.long (says s h).good) (refl, refl))

  leaves : (k : ℕ) (c : Call) (v : List ℕ) → OnOne k c → Left (step c s v).state
  leaves k c v (OnOne.asks i x) = (refl, refl)
  leaves k c v (OnOne.sets i x) = same_left (SetPending k i) (set_none m fits k i x.from x.to)
  leaves k c v (OnOne.clears i x) = same_left (ClearPending k i) (clear_none m fits k i x.from x.to)
  leaves k c v (OnOne.activates i x) = same_left (Activate k i) (clear_none m fits k i x.from x.to)
  leaves k c v (OnOne.line i l x u) = same_left (Line k i l) (line_none m fits k i x.from x.to l)

  module _ (k : ℕ) (i : m.control.init ≡ 1) (u : k < length m.vcpus) where
    named : (intid : ℕ) → Special intid → Named k intid m
    named intid x = (i, u, x.to)

    pending_errno : (intid : ℕ) → Special intid → (irq_pending k intid m).errno ≡ 0
    unfolding irq_pending
    pending_errno intid x = rw ((fault_none k intid m).1 (named intid x))

    asked : (intid : ℕ) → Special intid → answered (asks (Pending k intid) s) ≡ done 0
    asked intid x = rw (ask_is s h (Pending k intid), pending_errno intid x, pending_none m fits k intid x.from x.to)

    set_errno : (intid : ℕ) → Special intid → (irq_set k intid m).errno ≡ 0
    unfolding irq_set
    set_errno intid x = rw ((fault_none k intid m).1 (named intid x))

    clear_errno : (intid : ℕ) → Special intid → (irq_clear k intid m).errno ≡ 0
    unfolding irq_clear
    clear_errno intid x = rw ((fault_none k intid m).1 (named intid x))

    accepted : (c : Call) (v : List ℕ) → OnOne k c → Accepted (step c s v)
    accepted c v (OnOne.asks n x) = asked n x
    accepted c v (OnOne.sets n x) = change_done s h (SetPending k n) (set_errno n x)
    accepted c v (OnOne.clears n x) = change_done s h (ClearPending k n) (clear_errno n x)
    accepted c v (OnOne.activates n x) = change_done s h (Activate k n) (clear_errno n x)
    accepted c v (OnOne.line n l x w) = change_done s h (Line k n l) ((line_accepted k n m l).1 (named n x, w))

  silent : Silent s
  silent = record {
    pending = λ k intid n v x e. silent_pending k intid n x e;
    reads = reads;
    held = held;
    leaves = leaves;
    answers = λ k c v x i u. accepted k i u c v x;
  }

pub special_intids : SpecialIntids
special_intids t h turns g = silent (run turns t) (run_sound turns g t h)
