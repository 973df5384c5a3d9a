-- The text for an image that is too long. Assumes nothing.
use Prim.Native.Nat.{ℕ, ◌≤◌, ◌<◌}
use native.Mathlib.Omega.{arith}
use mathlib.Core.Path.{◌≡◌, sym, ◌∙◌}
use mathlib.Core.Bool.{false}
use mathlib.Core.List.{List}
use lib.ListN.{length, take}
use lib.Seq.{length-take-le}
use borrow.Author.Tests.{le-leb, lt-leb}
use Rattle.image.specs.Image.{is_image}

long_refused : (image : List ℕ) → 65536 < length image → is_image (length image) ≡ false
unfolding is_image
long_refused image h = rw (le-leb 8192 (length image) (omega arith), lt-leb (length image) 65536 h)

-- §11.1: an image above 65,536 bytes is refused, so that no byte after the 65,537th matters
module _ (text : List ℕ → List ℕ) (refused : List ℕ) (no-image : (image : List ℕ) → is_image (length image) ≡ false → refused ≡ text image) where
  pub cut : (image : List ℕ) → 65537 ≤ length image → text (take 65537 image) ≡ text image
  cut image h =
      sym (no-image (take 65537 image) (long_refused (take 65537 image) (omega (arith, length-take-le 65537 image h))))
      ∙ no-image image (long_refused image h)
