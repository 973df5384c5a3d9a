-- `tests`, `leaves` and `zeros`: what comes before anything of a call, which bytes set-up leaves, and that zeros are sound. Assumes nothing.
use Prim.Native.Nat.{ℕ, ◌+◌, ◌≤◌}
use native.Mathlib.Omega.{arith}
use mathlib.Core.Path.{◌≡◌, refl, ◌∙◌}
use mathlib.Core.Bool.{true, false≢true}
use mathlib.Core.List.{List}
use lib.ListN.{length, drop, replicate}
use lib.Dec.{eqb}
use borrow.Author.Tests.{eq-eqb, ne_eqb, eqb-true}
use Rattle.lists.specs.Rows.{all}
use Rattle.kept.proofs.Choice.{choose_by}
use Rattle.words.specs.Words.{le, le_at, bytes_of, rows_of}
use Rattle.words.proofs.Laws.{length-bytes_of, drop-put_at-past}
use Rattle.calls.specs.Call.{Reply}
use Rattle.xicsrows.specs.XicsLayout.{size, server, source, count_at, table, put_word, cleared, counts_ok}
use Rattle.xicsrows.specs.Registered.{distinct}
use Rattle.xicsrows.proofs.Written.{length_put}
use Rattle.xicsrules.specs.Sound.{sound_xics}
use Rattle.xics.specs.Calls.{changes_xics, set_up_xics, asks_word, asks_delivery}
use Rattle.xics.specs.XicsStep.{XicsCall, xics_step, xics_len, xics_setup, add_server, add_source, set_source, set_server, get_source, get_server, deliverable}
use Rattle.xicsclaims.specs.XicsClaims.{tested, Tests}

-- §14.3: the two tests, call by call
pub tests : (c : XicsCall) (s v : List ℕ) → tested c ≡ true → Tests c s v
unfolding changes_xics asks_word asks_delivery
tests xics_len s v t = absurd (false≢true t)
tests xics_setup s v t = absurd (false≢true t)
tests (add_server n) s v t = record { short = λ h. rw (ne_eqb (length s) size h); unsound = λ h q. rw (eq-eqb (length s) size h, q) }
tests (add_source n d) s v t = record { short = λ h. rw (ne_eqb (length s) size h); unsound = λ h q. rw (eq-eqb (length s) size h, q) }
tests (set_source n) s v t = record { short = λ h. rw (ne_eqb (length s) size h); unsound = λ h q. rw (eq-eqb (length s) size h, q) }
tests (set_server n) s v t = record { short = λ h. rw (ne_eqb (length s) size h); unsound = λ h q. rw (eq-eqb (length s) size h, q) }
tests (get_source n) s v t = record { short = λ h. rw (ne_eqb (length s) size h); unsound = λ h q. rw (eq-eqb (length s) size h, q) }
tests (get_server n) s v t = record { short = λ h. rw (ne_eqb (length s) size h); unsound = λ h q. rw (eq-eqb (length s) size h, q) }
tests (deliverable n) s v t = record { short = λ h. rw (ne_eqb (length s) size h); unsound = λ h q. rw (eq-eqb (length s) size h, q) }

-- §14.4: a word put below index 16 leaves what is from there on
put_past : (s : List ℕ) (at w : ℕ) → at + 8 ≤ 16 → 16 ≤ length s → drop 16 (put_word s at w) ≡ drop 16 s
unfolding put_word
put_past s at w h g = let l = length-bytes_of 8 w in drop-put_at-past s at (bytes_of 8 w) 16 (omega arith) g

cleared_past : (s : List ℕ) → length s ≡ size → drop 16 (cleared s) ≡ drop 16 s
unfolding cleared
cleared_past s l =
    let m = length_put s (count_at server) 0 (omega arith) in
    put_past (put_word s (count_at server) 0) (count_at source) 0 (omega arith) (omega arith) ∙ put_past s (count_at server) 0 (omega arith) (omega arith)

pub leaves : (s v : List ℕ) → drop 16 (xics_step xics_setup s v).state ≡ drop 16 s
unfolding set_up_xics
leaves s v =
    choose_by (λ (r : Reply). drop 16 r.lent ≡ drop 16 s) (eqb (length s) size) (λ e. cleared_past s (eqb-true (length s) size e)) (λ e. refl)

-- §14.12: no row breaks no rule
pub zeros : sound_xics (replicate size 0) ≡ true
unfolding sound_xics counts_ok table rows_of le_at le all distinct
zeros = refl
