-- What §11.1 says beyond the line itself, of this program too (§13.11). Assumes nothing.
use Prim.Native.Nat.{ℕ, ◌≤◌}
use mathlib.Core.Path.{◌≡◌}
use mathlib.Core.List.{List}
use lib.ListN.{length, take}
use Rattle.image.proofs.Text.{cut}
use Rattle.explain.specs.Explained.{early, explained}
use Rattle.explain.proofs.Whole.{explained_no_image}

-- no byte after the 65,537th matters
pub explained_cut : (image : List ℕ) → 65537 ≤ length image → explained (take 65537 image) ≡ explained image
explained_cut = cut explained early explained_no_image
