-- What a restore would meet, on lent bytes: the ends of the call. Assumes nothing.
use Prim.Native.Nat.{ℕ, ◌^◌, ◌<◌}
use native.Mathlib.Omega.{arith}
use mathlib.Core.Path.{◌≡◌, refl, sym, ap, ◌∙◌}
use mathlib.Core.List.{List}
use lib.ListN.{length}
use Rattle.std.specs.Prelude.{Result, Ok, Err}
use Rattle.answers.specs.declared.Errno.{Errno}
use Rattle.answers.specs.Number.{number}
use Rattle.codes.specs.Codes.{code_met}
use Rattle.codes.specs.declared.Fault as faults
use Rattle.restore.proofs.Whole.{reads_code}
use Rattle.calls.proofs.Laws.{stopped, passed}
use Rattle.calls.proofs.Saving.{unready, unstopped}
use Rattle.layout.specs.Layout.{decode}
use Rattle.tables.specs.Restored.{Out, fault, found, restored, verdict}
use Rattle.restore.specs.Restores.{Reads}
use Rattle.codes.proofs.Numbers.{numbered, place_few}
use Rattle.calls.specs.Commands.{memory_fault}
use Rattle.calls.specs.Call.{guarded, untold, explains, Explains}

-- the code of a fault that stands in a table is an answer
code_small : (out : Out) (s : List ℕ) (r : Result Unit faults.Fault) (left : List ℕ) → Reads s out r left → (o : Out) → out ≡ o → code_met r < 2 ^ 63
code_small out s r left d (fault f) x = omega (arith, reads_code out r d ∙ ap verdict x, place_few f.place (d.named f x), (numbered f.kind).most)
code_small out s r left d (found k) x = omega (arith, reads_code out r d ∙ ap verdict x)

module _ (s mem : List ℕ) where
  told : (e : Errno) {o : Result ℕ Errno} → o ≡ Err e → explains s mem ≡ untold (number e) → Explains o s mem
  told e p q = rw p (record { is = sym q; small = tt })

  pub explain_refuses : (e : Errno) {o : Result ℕ Errno} → o ≡ Err e → number e ≡ guarded (λ e. e) 0 s → Explains o s mem
  unfolding explains
  explain_refuses e p q = told e p (stopped s untold _ e q)

  module _ (k : 0 ≡ guarded (λ e. e) 0 s) where
    pub explain_unready : (e : Errno) {o : Result ℕ Errno} → o ≡ Err e → number e ≡ memory_fault (length mem) (decode s) → Explains o s mem
    unfolding explains
    explain_unready e p f = told e p (passed s untold _ k ∙ unready s (length mem) untold _ e f)

    pub explain_reads : 0 ≡ memory_fault (length mem) (decode s) → (r : Result Unit faults.Fault) {left : List ℕ} (n : ℕ) → Reads s (restored (decode s) mem) r left
        → n ≡ code_met r → Explains (Ok n) s mem
    unfolding explains
    explain_reads f r {left = left} n d q = record {
      is = (λ i. record { errno = 0; number = (q ∙ reads_code (restored (decode s) mem) r d) i }) ∙ sym (passed s untold _ k ∙ unstopped s (length mem) untold _ f);
      small = rw q (code_small (restored (decode s) mem) s r left d (restored (decode s) mem) refl);
    }
