-- What the stores of the parts give together.
use Prim.Native.Nat.{ℕ}
use mathlib.Core.Path.{◌≡◌, ap, ap₂, ◌∙◌}
use mathlib.Core.List.{List}
use lib.ListN.{length}
use Rattle.words.specs.Words.{put_at, bytes_all, bytes_of}
use Rattle.guest.specs.Machine.{Machine}
use Rattle.layout.specs.Layout.{region_bytes, vcpu_bytes, bank_bytes, head_words, head_bytes, stored}

pub stored_of : (m : Machine) (s t u v w : List ℕ) (i j : ℕ) → i ≡ length m.regions → j ≡ length m.vcpus
    → t ≡ put_at s 1976 (bytes_all bank_bytes m.shared) → u ≡ put_at t 696 (bytes_all vcpu_bytes m.vcpus)
    → v ≡ put_at u 184 (bytes_all region_bytes m.regions)
    → w ≡ put_at v 0 (bytes_all (bytes_of 8) (head_words m.memory m.control m.frames m.tables i j))
    → w ≡ stored m s
unfolding stored head_bytes
stored_of m s t u v w i j hi hj ht hu hv hw =
    hw
    ∙ ap₂ (λ (x : List ℕ) (y : List ℕ). put_at x 0 (bytes_all (bytes_of 8) y))
    (hv ∙ ap (λ (x : List ℕ). put_at x 184 (bytes_all region_bytes m.regions))
    (hu ∙ ap (λ (x : List ℕ). put_at x 696 (bytes_all vcpu_bytes m.vcpus)) ht))
    (ap₂ (λ (a : ℕ) (b : ℕ). head_words m.memory m.control m.frames m.tables a b) hi hj)
