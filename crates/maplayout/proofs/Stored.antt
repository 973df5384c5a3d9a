-- What the stores of the parts give together.
use Prim.Native.Nat.{ℕ}
use mathlib.Core.Path.{◌≡◌, ap, ap₂, ◌∙◌}
use mathlib.Core.List.{List, [], ◌∷◌}
use lib.ListN.{length}
use Rattle.words.specs.Words.{put_at, bytes_all, bytes_of}
use Rattle.mapping.specs.Mapped.{Mapped}
use Rattle.maplayout.specs.MapLayout.{device_bytes, collection_bytes, event_bytes, count_bytes, stored_map}

pub stored_of : (k : Mapped) (s t u v w : List ℕ) (i j n : ℕ) → i ≡ length k.devices → j ≡ length k.collections → n ≡ length k.events
    → t ≡ put_at s 3208 (bytes_all event_bytes k.events) → u ≡ put_at t 3144 (bytes_all collection_bytes k.collections)
    → v ≡ put_at u 2376 (bytes_all device_bytes k.devices)
    → w ≡ put_at v 2352 (bytes_all (bytes_of 8) (i ∷ j ∷ n ∷ []))
    → w ≡ stored_map k s
unfolding stored_map count_bytes
stored_of k s t u v w i j n hi hj hn ht hu hv hw =
    hw
    ∙ ap₂ (λ (x : List ℕ) (y : List ℕ). put_at x 2352 (bytes_all (bytes_of 8) y))
    (hv ∙ ap (λ (x : List ℕ). put_at x 2376 (bytes_all device_bytes k.devices))
    (hu ∙ ap (λ (x : List ℕ). put_at x 3144 (bytes_all collection_bytes k.collections)) ht))
    (λ x. hi x ∷ hj x ∷ hn x ∷ [])
