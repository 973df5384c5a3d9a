-- What the reading of an image's tables answers gives the text for the image. Assumes nothing.
use Prim.Native.Nat.{ℕ}
use mathlib.Core.Path.{◌≡◌, refl, ap, ◌∙◌}
use mathlib.Core.Bool.{true, false}
use mathlib.Core.List.{List}
use lib.ListN.{length}
use Rattle.std.specs.Prelude.{Result, Ok, Err, ⊤}
use Rattle.layout.specs.Layout as layout
use Rattle.layout.specs.Layout.{decode, stored}
use Rattle.tables.specs.Restored.{Out, fault, found, restored}
use Rattle.codes.specs.Codes.{fault_is}
use Rattle.codes.specs.declared.Fault as faults
use Rattle.restore.specs.Restores.{said, Reads}
use Rattle.lines.specs.Text.{ascii}
use Rattle.image.specs.Image.{is_image, guest_of}
use Rattle.image.proofs.Stored.{holds}
use Rattle.explain.specs.Explained.{fault_line, early, told, explained}

-- what was answered of bytes in which the image's guest was stored
module _ (image : List ℕ) (e : is_image (length image) ≡ true) (s : List ℕ) (h : length s ≡ layout.size)
    (t : List ℕ) (q : t ≡ stored (guest_of (length image)) s) (r : Result ⊤ faults.Fault) (left : List ℕ)
    (d : Reads t (restored (decode t) image) r left) where
  told_as : (o : Out) → restored (decode t) image ≡ o → told o ≡ explained image
  unfolding explained
  told_as o x = rw (e, ← holds (length image) e s h t q, x)

  pub explained_found : (u : ⊤) → r ≡ Ok u → ascii "described\n" ≡ explained image
  explained_found u z = by (restored (decode t) image) refl
    where
      by : (o : Out) → restored (decode t) image ≡ o → ascii "described\n" ≡ explained image
      by (fault f) x = let a = d.is in let b = ap said z in absurd (cc)
      by (found k) x = told_as (found k) x

  pub explained_fault : (f : faults.Fault) → r ≡ Err f → fault_line (fault_is f) ≡ explained image
  explained_fault f z = by (restored (decode t) image) refl
    where
      by : (o : Out) → restored (decode t) image ≡ o → fault_line (fault_is f) ≡ explained image
      by (fault g) x = let a = d.is in let b = ap said z in (ap fault_line cc) ∙ told_as (fault g) x
      by (found k) x = let a = d.is in let b = ap said z in absurd (cc)

pub explained_no_image : (image : List ℕ) → is_image (length image) ≡ false → early ≡ explained image
unfolding explained
explained_no_image image e = rw e
