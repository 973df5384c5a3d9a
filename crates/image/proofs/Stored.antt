-- The guest of an image in a state's bytes: a restore may be asked of them. Assumes nothing.
use Prim.Native.Nat.{ℕ}
use mathlib.Core.Path.{◌≡◌, refl, sym, ap, ◌∙◌}
use mathlib.Core.Bool.{true}
use mathlib.Core.List.{List}
use lib.ListN.{length}
use Rattle.words.specs.Words.{le_at}
use Rattle.guest.specs.Machine.{Machine, fresh_irqs}
use Rattle.rules.specs.Rules.{rules}
use Rattle.layout.specs.Layout as layout
use Rattle.layout.specs.Layout.{decode, stored, counts_ok, control_of}
use Rattle.layout.proofs.Round.{length_stored, decode_stored}
use Rattle.layout.proofs.InPlace.{region_count, vcpu_count}
use Rattle.mapping.specs.MapRules.{is_placed}
use Rattle.restore.specs.Restores.{Restorable}
use Rattle.image.specs.Image.{is_image, guest_of}
use Rattle.image.proofs.Ready.{image_says, ready, guest_room, guest_words}

-- bytes in which the guest of an image was stored
module _ (size : ℕ) (e : is_image size ≡ true) (s : List ℕ) (h : length s ≡ layout.size) (t : List ℕ) (q : t ≡ stored (guest_of size) s) where
  pub holds : decode t ≡ guest_of size
  unfolding guest_of
  holds = ap decode q ∙ decode_stored (guest_of size) s h (guest_room size) (guest_words size (image_says size e)) refl

  counts : counts_ok t ≡ true
  unfolding counts_ok decode control_of guest_of
  counts =
      let r : le_at t 168 8 ≡ 0 = region_count t ∙ ap (λ (m : Machine). length m.regions) holds in
      let v : le_at t 176 8 ≡ 4 = vcpu_count t ∙ ap (λ (m : Machine). length m.vcpus) holds in
      let i : le_at t 40 8 ≡ fresh_irqs = ap (λ (m : Machine). m.control.irqs) holds in
      rw (r, v, i)

  pub restorable : Restorable t size
  unfolding guest_of
  restorable = record {
    counted = record { long = ap length q ∙ length_stored (guest_of size) s h (guest_room size); counts = counts };
    rules = ap rules holds ∙ ready size (image_says size e);
    placed = ap is_placed holds;
    memory = sym (ap (λ (m : Machine). m.memory.length) holds);
  }
