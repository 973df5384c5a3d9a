-- What a restore of an image's guest answers and leaves gives the text for the image. Assumes nothing.
use Prim.Native.Nat.{ℕ, ◌<◌}
use native.Mathlib.Omega.{arith}
use mathlib.Core.Path.{◌≡◌, refl, sym, ap, ◌∙◌}
use mathlib.Core.Bool.{true, false}
use mathlib.Core.List.{List}
use lib.ListN.{length}
use Rattle.std.specs.Prelude.{Result, Err, ⊤}
use Rattle.answers.specs.declared.Errno.{Errno}
use Rattle.answers.specs.declared.Errno.TheVariants.{ENOENT, ENXIO, E2BIG, ENOMEM, EFAULT, EBUSY, EEXIST, ENODEV, EINVAL}
use Rattle.answers.specs.Number.{number}
use Rattle.guest.specs.Returned as returned
use Rattle.layout.specs.Layout as layout
use Rattle.layout.specs.Layout.{decode, stored}
use Rattle.mapping.specs.Mapped.{Mapped}
use Rattle.maplayout.specs.MapLayout.{decode_map, map_counts_ok}
use Rattle.tables.specs.Restored.{Out, fault, found, restored}
use Rattle.restore.specs.Restores.{errno_of, Restores}
use Rattle.restore.proofs.Over.{counted as over-counted, same_rows}
use Rattle.listing.specs.Listing.{listing}
use Rattle.image.specs.Image.{is_image, guest_of}
use Rattle.image.proofs.Stored.{holds, restorable}
use Rattle.show.specs.Shown.{refusal, answered, shown}
use Rattle.show.proofs.Stored.{left_over}

positive : (n : Errno) → 0 < number n
positive ENOENT = omega arith
positive ENXIO = omega arith
positive E2BIG = omega arith
positive ENOMEM = omega arith
positive EFAULT = omega arith
positive EBUSY = omega arith
positive EEXIST = omega arith
positive ENODEV = omega arith
positive EINVAL = omega arith

-- what the code of a restore answered and left, of bytes in which the image's guest was stored
module _ (image : List ℕ) (e : is_image (length image) ≡ true) (s : List ℕ) (h : length s ≡ layout.size)
    (t : List ℕ) (q : t ≡ stored (guest_of (length image)) s) (r : Result ⊤ Errno) (left : List ℕ)
    (d : Restores t (restored (decode t) image) r left) where
  shown_as : (o : Out) → restored (decode t) image ≡ o → answered o ≡ shown image
  unfolding shown
  shown_as o x = rw (e, ← holds (length image) e s h t q, x)

  pub shown_fault : (n : Errno) → r ≡ Err n → refusal (number n) ≡ shown image
  shown_fault n z = by (restored (decode t) image) refl
    where
      by : (o : Out) → restored (decode t) image ≡ o → refusal (number n) ≡ shown image
      by (fault f) x = ap refusal (sym (ap returned.fault z) ∙ d.is ∙ ap errno_of x) ∙ shown_as (fault f) x
      by (found k) x = absurd (omega (arith, positive n, sym (ap returned.fault z) ∙ d.is ∙ ap errno_of x))

  module _ (z : returned.fault r ≡ 0) where
    pub loadable : (length left ≡ layout.size) × (map_counts_ok left ≡ true)
    loadable = let c = over-counted (left_over t image (restorable (length image) e s h t q) r left d z).2 in (c.long, c.counts)

    pub shown_rows : (k : Mapped) → k ≡ decode_map left → listing k ≡ shown image
    shown_rows k p =
        let f = left_over t image (restorable (length image) e s h t q) r left d z in
        ap listing (p ∙ same_rows f.2) ∙ shown_as (found f.0) f.1

pub shown_no_image : (image : List ℕ) → is_image (length image) ≡ false → refusal 14 ≡ shown image
unfolding shown
shown_no_image image e = rw e
