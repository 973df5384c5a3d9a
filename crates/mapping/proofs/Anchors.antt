-- What lookup and the removals answer, said of the rows that stand and not by the searches that find them. Assumes nothing.
use Prim.Native.Nat.{ℕ, ◌+◌, ◌*◌}
use native.Mathlib.Omega.{arith}
use mathlib.Core.Path.{◌≡◌, refl, sym, ap, ◌∙◌}
use mathlib.Core.Bool.{Bool, true, false}
use mathlib.Core.Logic.{◌⊎◌, inl, inr, ⊎_elim}
use mathlib.Core.List.{[], ◌∷◌}
use lib.ListN.{get_or}
use lib.Dec.{eqb}
use borrow.Author.Tests.{eq-eqb, eqb-true, ne_eqb, not-true}
use Rattle.lists.proofs.Member.{In, all_in, all_of}
use Rattle.areas.proofs.Tests.{clash, refuted, join, split, not_holds}
use Rattle.areas.proofs.Has.{none_has}
use Rattle.guest.specs.Machine.{Reading}
use Rattle.guest.specs.Machine.{Machine}
use Rattle.mapping.specs.declared.Device.{Device}
use Rattle.mapping.specs.declared.Collection.{Collection}
use Rattle.mapping.specs.declared.Event.{Event}
use Rattle.mapping.specs.Mapped.{Mapped, refuse, device_key, collection_key, event_key, is_event, no_device, no_event, no_collection}
use Rattle.mapping.specs.Commands.{has_device, index_of_collection, has_event, of_other, lookup, unmap_device, discard}
use Rattle.mapping.specs.Meaning.{MappingRules}
use Rattle.mapping.proofs.Edits.{Without, found, has_in, kept_without, removed_without}
use Rattle.mapping.proofs.Rise.{Rises, is_key, one_of_key}

-- the row of a device and an event
module _ (device event : ℕ) where
  is_event_lem : (e : Event) → e.device ≡ device → e.event ≡ event → is_event device event e ≡ true
  is_event_lem e p q = join (eqb e.device device) (eqb e.event event ∷ []) (eq-eqb e.device device p, eq-eqb e.event event q)

  event_named : (e : Event) → is_event device event e ≡ true → (e.device ≡ device) × (e.event ≡ event)
  event_named e h =
      let p = split (eqb e.device device) (eqb e.event event ∷ []) h in
      (eqb-true e.device device p.0, eqb-true e.event event p.1)

abbrev pub reading : Event → Collection → Reading
reading e c = record { errno = 0; number = e.lpi + 65536 * c.pe }

module _ (k : Mapped) where
  -- §5.13: the LPI of the event's row and the pe of its collection's, wherever they stand
  module _ (es : Rises event_key k.events) (cs : Rises collection_key k.collections) where
    pub lookup_found : (e : Event) (c : Collection) → In e k.events → In c k.collections → c.icid ≡ e.icid
        → lookup e.device e.event k ≡ reading e c
    unfolding lookup
    lookup_found e c i j q =
        let f = found (is_event e.device e.event) k.events no_event i (is_event_lem e.device e.event e refl refl)
        (λ x m h. let n = event_named e.device e.event x h in
        let n0 = n.0 in let n1 = n.1 in one_of_key event_key k.events es m i (omega arith)) in
        let g = found (is_key collection_key e.icid) k.collections no_collection j (eq-eqb c.icid e.icid q)
        (λ x m h. let n = eqb-true x.icid e.icid h in one_of_key collection_key k.collections cs m j (omega arith)) in
        rw f.0
        (ap (λ (x : Event). reading x (get_or k.collections (index_of_collection x.icid k) no_collection)) f.1 ∙ ap (reading e) g.1)

  -- -2 where no row has the device and the event
  pub lookup_missing : (device event : ℕ) → ((e : Event) → In e k.events → e.device ≡ device → e.event ≡ event → ⊥)
      → lookup device event k ≡ record { errno = 2; number = 0 }
  unfolding lookup
  lookup_missing device event f =
      let n : has_event device event k ≡ false = none_has (is_event device event) k.events (all_of k.events (λ e i.
      sym (refuted (is_event device event e) (λ h. let p = event_named device event e h in f e i p.0 p.1)))) in
      rw n

-- of a mapping that keeps its rules, the two cases are all: an event's collection stands
pub lookup_of : (m : Machine) (k : Mapped) → MappingRules m k → (e : Event) → In e k.events
    → (c : Collection) × In c k.collections × (c.icid ≡ e.icid) × (lookup e.device e.event k ≡ reading e c)
lookup_of m k r e i =
    let f = all_in k.events r.fit i in
    (f.collection, f.listed, f.icid, lookup_found k r.events_rise r.collections_rise e f.collection i f.listed f.icid)

decided : (b : Bool) → (b ≡ true) ⊎ (b ≡ false)
decided true = inl refl
decided false = inr refl

-- removals: what is named goes, and with a device its events; every other row stays
pub record Unmapped (id : ℕ) (k n : Mapped) : Type 0 where
  pub collections : n.collections ≡ k.collections
  pub devices : Without (λ d. d.id ≡ id) k.devices n.devices
  pub events : Without (λ e. e.device ≡ id) k.events n.events

module _ (id : ℕ) (k : Mapped) where
  pub unmap_gone : Rises device_key k.devices → (unmap_device id k).errno ≡ 0 → Unmapped id k (unmap_device id k).next
  unfolding unmap_device
  unmap_gone r e = ⊎_elim
      (λ h. rw h (record {
        collections = refl;
        devices = removed_without (is_key device_key id) device_key (λ x y l s. omega arith) (λ d. d.id ≡ id) no_device
            (λ d q. eqb-true d.id id q) (λ x y a b. omega arith) k.devices r h;
        events = kept_without (of_other id) (λ v. v.device ≡ id) (λ v t q. clash (eq-eqb v.device id q) (not-true (eqb v.device id) t))
            (λ v f. not_holds (ne_eqb v.device id f)) k.events;
      }))
      (λ h. let z = rw h at e in absurd (omega arith))
      (decided (has_device id k))

  pub unmap_accepted : (d : Device) → In d k.devices → d.id ≡ id → (unmap_device id k).errno ≡ 0
  unfolding unmap_device
  unmap_accepted d m e = rw (has_in (is_key device_key id) k.devices m (eq-eqb d.id id e))

  pub unmap_missing : ((d : Device) → In d k.devices → d.id ≡ id → ⊥) → unmap_device id k ≡ refuse k 2
  unfolding unmap_device
  unmap_missing f =
      let n : has_device id k ≡ false = none_has (is_key device_key id) k.devices (all_of k.devices (λ d i. ne_eqb d.id id (f d i))) in
      rw n

-- a discard takes out the event's row alone
pub record Discarded (device event : ℕ) (k n : Mapped) : Type 0 where
  pub collections : n.collections ≡ k.collections
  pub devices : n.devices ≡ k.devices
  pub events : Without (λ e. (e.device ≡ device) × (e.event ≡ event)) k.events n.events

module _ (device event : ℕ) (k : Mapped) where
  pub discard_gone : Rises event_key k.events → (discard device event k).errno ≡ 0 → Discarded device event k (discard device event k).next
  unfolding discard
  discard_gone r e = ⊎_elim
      (λ h. rw h (record {
        collections = refl;
        devices = refl;
        events = removed_without (is_event device event) event_key (λ x y l s. omega arith) (λ v. (v.device ≡ device) × (v.event ≡ event)) no_event
            (event_named device event) (λ x y a b. omega (arith, a.0, a.1, b.0, b.1)) k.events r h;
      }))
      (λ h. let z = rw h at e in absurd (omega arith))
      (decided (has_event device event k))
