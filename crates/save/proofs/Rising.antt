-- Rows whose keys rise: what a save asks of them. Assumes nothing.
use Prim.Native.Nat.{ℕ, suc, ◌≤◌, ◌<◌}
use native.Mathlib.Omega.{arith}
use mathlib.Core.Path.{◌≡◌, refl}
use mathlib.Core.Bool.{Bool, true, false}
use mathlib.Core.List.{List, [], ◌∷◌}
use lib.Dec.{eqb}
use borrow.Author.Tests.{eqb-true}
use Rattle.lists.specs.Rows.{choose}
use Rattle.lists.proofs.All.{All, none, more}
use Rattle.lists.proofs.Pairs.{alone, before}
use Rattle.mapping.specs.declared.Event.{Event}
use Rattle.mapping.specs.Mapped.{kept, event_key}
use Rattle.mapping.proofs.Rise.{Rises}
use Rattle.tables.specs.Saved.{event_id, events_of}
use Rattle.save.specs.Saving.{Ready, Sorted, event_device}
use Rattle.save.proofs.Rows.{all_both}

module _ {A : Type 0} (key : A → ℕ) where
  pub rises_ready : (n i : ℕ) (l : List A) → Rises key l → All (λ x. (i ≤ key x) × (key x < n)) l → Ready key n i l
  rises_ready n i [] alone none = tt
  rises_ready n i (x ∷ l) (before a r) (more h b) =
      (h.0, h.1, rises_ready n (suc (key x)) l r (all_both (λ y p q. (omega arith, q.1)) l a b))

-- events rise by device and event ID
pub rises_sorted : (l : List Event) → Rises event_key l → All (λ e. e.event < 65536) l → Sorted event_device l
rises_sorted [] alone none = tt
rises_sorted (x ∷ l) (before a r) (more h b) = (all_both (λ y p q. omega arith) l a b, rises_sorted l r b)

-- those of a device rise by event ID
pub rises_events : (id n i : ℕ) (l : List Event) → Rises event_key l → All (λ e. e.device ≡ id → (i ≤ e.event) × (e.event < n)) l → Ready event_id n i (events_of id l)
unfolding kept
rises_events id n i [] alone none = tt
rises_events id n i (x ∷ l) (before a r) (more h b) =
    by (eqb x.device id) refl (λ g. rises_events id n (suc x.event) l r (all_both (λ y p q f. (omega arith, (q f).1)) l a b)) (rises_events id n i l r b)
  where
    by : (c : Bool) → eqb x.device id ≡ c → (x.device ≡ id → Ready event_id n (suc x.event) (events_of id l)) → Ready event_id n i (events_of id l) → Ready event_id n i (choose c (x ∷ events_of id l) (events_of id l))
    by true e f s = let g = eqb-true x.device id e in ((h g).0, (h g).1, f g)
    by false e f s = s
