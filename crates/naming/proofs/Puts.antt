-- What stands up to the end of a part that text was put into. Assumes nothing.
use Prim.Native.Nat.{ℕ, ◌+◌, ◌-◌, ◌≤◌}
use native.Mathlib.Omega.{arith}
use mathlib.Core.Path.{◌≡◌, refl, sym, ap, ◌∙◌}
use mathlib.Core.List.{List, ◌++◌, append_assoc}
use lib.ListN.{length, take, drop}
use lib.Seq.{take-append_seam, length-take-le}
use Rattle.std.proofs.lemmas.List.{length-append}
use borrow.Rule.Slice.PartMut.{put_mid}
use Rattle.naming.specs.Naming.{Puts}

up_to_end : (s text : List ℕ) (a k : ℕ) → a + k ≤ length s → length text ≡ k → take (a + k) (put_mid a k s text) ≡ take a s ++ text
up_to_end s text a k h l =
    let rest = drop k (drop a s) in
    let n : length (take a s ++ text) ≡ a + k = length-append (take a s) text ∙ omega (arith, length-take-le a s (omega arith), l) in
    ap (take (a + k)) (sym (append_assoc (take a s) text rest)) ∙ ap (λ (m : ℕ). take m ((take a s ++ text) ++ rest)) (sym n)
    ∙ take-append_seam (take a s ++ text) rest

-- text of which the length is known, put over a part that it is as long as
pub put_there : (s ys text : List ℕ) (a room e k : ℕ) → a + room ≤ length s → length text ≤ room → e ≡ a + length text → k ≡ e - a → ys ≡ text
    → Puts s a text room (put_mid a k s ys) e
put_there s ys text a room e k h f q p y =
    let z : k ≡ length text = omega (arith, p, q) in
    record {
      is = rw (q, z, y) (up_to_end s text a (length text) (omega arith) refl);
      most = omega (arith, q, f);
    }
