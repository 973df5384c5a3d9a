-- Why a restore is refused, as one theorem over lent bytes. Assumes nothing.
use Prim.Native.Nat.{ℕ, zero, suc, ◌<◌}
use native.Mathlib.Omega.{arith}
use mathlib.Core.Path.{◌≡◌, refl, sym, ap, ◌∙◌}
use mathlib.Core.Bool.{Bool, true, false}
use mathlib.Core.Logic.{◌⊎◌, inl, inr, ⊎_elim}
use mathlib.Core.List.{List}
use lib.ListN.{length}
use lib.Dec.{eqb}
use borrow.Author.Tests.{eq-eqb, eqb-true, eqb-false}
use Rattle.words.proofs.Bytes.{Bytes}
use Rattle.answers.specs.Answer.{refusal, done}
use Rattle.answers.proofs.Laws.{refusal_once, refusal_not_done}
use Rattle.areas.proofs.Tests.{clash}
use Rattle.rules.specs.Rules.{rules}
use Rattle.layout.specs.Layout.{size, decode}
use Rattle.mapping.specs.Mapped.{Mapped}
use Rattle.tables.specs.Fault.{Kind, Fault, kind_errno}
use Rattle.tables.specs.Restored.{fault, found, restored, verdict}
use Rattle.described.proofs.Faults.{number_known}
use Rattle.codes.proofs.Same.{code_same}
use Rattle.faults.proofs.Bounds.{fault_small}
use Rattle.faults.proofs.Explained.{verdict_found, verdict_fault, first_exact, fault_exact}
use Rattle.state.specs.Sound.{sound, Sound}
use Rattle.state.proofs.Meaning.{sound_says}
use Rattle.lists.specs.Rows.{choose}
use Rattle.guest.specs.Machine.{Machine, is_running}
use Rattle.calls.specs.Commands.{ready, memory_fault}
use Rattle.calls.specs.Call.{Reply, refused, untold, answered, restores, explains}
use Rattle.claims.specs.Demand3.{Ready}
use Rattle.claims.proofs.Stays.{is_open}
use Rattle.claims.proofs.Demand3.{no_fault, comes_to, demand3}
use Rattle.why.specs.WhyRefused.{explaining, restoring, WhyRefused}

number_some : (c : Kind) → 0 < kind_errno c
number_some c = ⊎_elim (λ p. omega (arith, p)) (λ q. ⊎_elim (λ p. omega (arith, p)) (λ p. omega (arith, p)) q) (number_known c)

done_same : (a b : ℕ) → done a ≡ done b → a ≡ b
done_same a b e = cc

zero_or : (n : ℕ) → (n ≡ 0) ⊎ (0 < n)
zero_or zero = inl refl
zero_or (suc n) = inr (omega arith)

-- none of the three tests before a restore gives 22
no_value : (len : ℕ) (m : Machine) → memory_fault len m ≡ 22 → ⊥
unfolding memory_fault
no_value len m = by (eqb len m.memory.length) (ready m) (is_running m)
  where
    by : (a b c : Bool) → ◌≡◌ {A = ℕ} (choose a (choose b (choose c 16 0) 6) 14) 22 → ⊥
    by false b c e = omega arith
    by true false c e = omega arith
    by true true true e = omega arith
    by true true false e = omega arith

module _ (s mem : List ℕ) where
  sound_rules : Ready s mem → rules (decode s) ≡ true
  sound_rules y = (sound_says s y.sound.rules).rules

  -- refused before any table is read
  refusing : (x : ℕ) → 0 < x → ((other : List ℕ) → length other ≡ length mem → explaining s other ≡ refusal x) → restoring s mem ≡ refusal x
      → (Ready s mem → ⊥) → (x ≡ 22 → Sound s → ⊥) → WhyRefused s mem
  refusing x h all r not bad =
      let own = all mem refl in
      record {
        unread = λ e g q. record {
          restore = r ∙ sym own ∙ q;
          unready = not;
          any = λ other l. all other l ∙ sym own ∙ q;
          unsound = λ z. bad (refusal_once x e (sym own ∙ q) ∙ z);
        };
        described = (λ q. absurd (refusal_not_done x 0 h (sym own ∙ q)), λ q. absurd (refusal_not_done x 0 h (sym r ∙ q)));
        taken = λ q. absurd (refusal_not_done x 0 h (sym own ∙ q));
        named = λ n g q. absurd (refusal_not_done x n h (sym own ∙ q));
        some = λ y. absurd (not y);
        state = refl;
        memory = refl;
        indexed = λ y. absurd (not y);
        codes = code_same;
      }

  -- the tables are read
  module _ (y : Ready s mem) (own : explaining s mem ≡ done (verdict (restored (decode s) mem))) where
    found_is : (k : Mapped) → restored (decode s) mem ≡ found k → restoring s mem ≡ done 0
    found_is k q = ap (λ (r : Reply). r.answer) (comes_to s mem y (found k) q)

    fault_is : (f : Fault) → restored (decode s) mem ≡ fault f → restoring s mem ≡ refusal (kind_errno f.kind)
    fault_is f q = ap (λ (r : Reply). r.answer) (comes_to s mem y (fault f) q)

    reading : WhyRefused s mem
    reading =
        let o = restored (decode s) mem in
        record {
          unread = λ e g q. absurd (refusal_not_done e (verdict o) g (sym q ∙ own));
          described = (
            λ q. let x = verdict_found o (done_same (verdict o) 0 (sym own ∙ q)) in found_is x.0 x.1,
            λ q. ⊎_elim
                (λ z. own ∙ ap done z)
                (λ z.
                let x = verdict_fault o z in
                let c = x.0.kind in
                absurd (refusal_not_done (kind_errno c) 0 (number_some c) (sym (fault_is x.0 x.2) ∙ q)))
                (zero_or (verdict o)),
          );
          taken = λ q.
              let x = verdict_found o (done_same (verdict o) 0 (sym own ∙ q)) in
              record { ready = y; mapping = (demand3 s mem y).exact.accepted (found_is x.0 x.1) };
          named = λ n g q.
              let e : verdict o ≡ n = done_same (verdict o) n (sym own ∙ q) in
              let x = verdict_fault o (omega arith) in
              record {
                ready = y;
                fault = x.0;
                coded = sym e ∙ x.1;
                least = (first_exact (decode s) mem x.0).0 x.2;
                restore = fault_is x.0 x.2;
              };
          some = λ z. fault_exact (decode s) mem (sound_rules y) y.opened.placed y.opened.size;
          state = refl;
          memory = refl;
          indexed = λ z. fault_small (decode s) mem (sound_rules y);
          codes = code_same;
        }

pub why_refused : (s mem : List ℕ) → Bytes s → WhyRefused s mem
unfolding explains restores
why_refused s mem bytes = by_length (eqb (length s) size) refl
  where
    some_of : (n : ℕ) → eqb n 0 ≡ false → 0 < n
    some_of n e = let z = eqb-false n 0 e in omega arith

    answers : (x : ℕ) → restores s mem ≡ refused s x → restoring s mem ≡ refusal x
    answers x e = ap (λ (r : Reply). r.answer) e

    by_memory : length s ≡ size → sound s ≡ true → (b : Bool) → eqb (memory_fault (length mem) (decode s)) 0 ≡ b → WhyRefused s mem
    by_memory h q true e =
        let l = eq-eqb (length s) size h in
        let z = eqb-true (memory_fault (length mem) (decode s)) 0 e in
        let y : Ready s mem = record { sound = record { bytes = bytes; long = h; rules = q }; opened = is_open s mem z } in
        reading s mem y (rw (l, q, e))
    by_memory h q false e =
        let l = eq-eqb (length s) size h in
        let x = memory_fault (length mem) (decode s) in
        let n : answered (untold x) ≡ refusal x = rw e in
        refusing s mem x (some_of x e) (λ other g. let p : explains s other ≡ untold x = rw (l, q, g, e) in ap answered p ∙ n)
        (answers x (rw (l, q, e))) (λ y. eqb-false x 0 e (no_fault s mem y)) (λ z. absurd (no_value (length mem) (decode s) z))

    by_sound : length s ≡ size → (b : Bool) → sound s ≡ b → WhyRefused s mem
    by_sound h true q = by_memory h q (eqb (memory_fault (length mem) (decode s)) 0) refl
    by_sound h false q =
        let l = eq-eqb (length s) size h in
        refusing s mem 22 (omega arith) (λ other g. rw (l, q)) (answers 22 (rw (l, q))) (λ y. clash y.sound.rules q) (λ z y. clash y.rules q)

    by_length : (b : Bool) → eqb (length s) size ≡ b → WhyRefused s mem
    by_length true e = by_sound (eqb-true (length s) size e) (sound s) refl
    by_length false e =
        refusing s mem 14 (omega arith) (λ other g. rw e) (answers 14 (rw e)) (λ y. eqb-false (length s) size e y.sound.long)
        (λ z y. eqb-false (length s) size e y.long)
