-- What §11.1 and §11.2 say beyond the lines themselves. Assumes nothing.
use Prim.Native.Nat.{ℕ, ◌≤◌}
use mathlib.Core.Path.{◌≡◌, refl}
use mathlib.Core.Bool.{true}
use mathlib.Core.List.{List}
use lib.ListN.{length, take}
use lib.Dec.{leb}
use Rattle.areas.proofs.Tests.{and_left, and_right}
use Rattle.mapping.specs.Mapped.{Mapped, rising, collection_key, device_key, event_key}
use Rattle.mapping.specs.MapRules.{mapping_ok}
use Rattle.tables.specs.Restored.{found, restored}
use Rattle.described.proofs.Exact.{accepted_described}
use Rattle.image.specs.Image.{is_image, guest_of}
use Rattle.image.proofs.Ready.{ready, image_says}
use Rattle.image.proofs.Text.{cut}
use Rattle.show.specs.Shown.{refusal, shown}
use Rattle.show.proofs.Whole.{shown_no_image}

-- §11.1: no byte after the 65,537th matters
pub shown_cut : (image : List ℕ) → 65537 ≤ length image → shown (take 65537 image) ≡ shown image
shown_cut = cut shown (refusal 14) shown_no_image

-- §11.2: rows rise
module _ (image : List ℕ) (e : is_image (length image) ≡ true) (k : Mapped) (r : restored (guest_of (length image)) image ≡ found k) where
  pub rows_rise : (rising collection_key k.collections ≡ true) × (rising device_key k.devices ≡ true) × (rising event_key k.events ≡ true)
  unfolding mapping_ok guest_of
  rows_rise =
      let o = (accepted_described (guest_of (length image)) image (ready (length image) (image_says (length image) e)) refl refl k r).allowed in
      let a = and_right (leb (length k.collections) 16) _ o in
      let b = and_right (leb (length k.devices) 32) _ a in
      let c = and_right (leb (length k.events) 1024) _ b in
      let d = and_right (rising collection_key k.collections) _ c in
      (and_left _ _ c, and_left _ _ d, and_left _ _ (and_right (rising device_key k.devices) _ d))
