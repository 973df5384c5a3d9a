-- The same mappings are described, with the cap and without it. Assumes nothing.
use Prim.Native.Nat.{ℕ}
use mathlib.Core.Path.{◌≡◌}
use mathlib.Core.Bool.{true}
use mathlib.Core.Logic.{◌↔◌}
use mathlib.Core.List.{List, map}
use Rattle.lists.proofs.All.{All}
use Rattle.lists.proofs.Member.{all_in, all_of}
use Rattle.guest.specs.Machine.{Machine}
use Rattle.mapping.specs.declared.Device.{Device}
use Rattle.mapping.specs.Mapped.{Mapped, device_key}
use Rattle.mapping.specs.MapRules.{mapping_ok}
use Rattle.mapping.specs.Meaning.{DeviceRules}
use Rattle.mapping.proofs.Meaning.{mapping_says}
use Rattle.tables.specs.Bytes.{device_table, itt_table}
use Rattle.tables.specs.Saved.{event_id, events_of}
use Rattle.described.specs.Described.{Itt, Described}
use Rattle.eventcap.proofs.Capped.{CappedItt, CappedDescribed}
use Rattle.eventcap.proofs.Ways.{device_chain, event_chain}
use Rattle.eventcap.proofs.Restored.{itt_few}

module _ (m : Machine) (mem : List ℕ) (k : Mapped) where
  itt_same : (d : Device) → DeviceRules m d → CappedItt (itt_table m mem d) (events_of d.id k.events) ↔ Itt (itt_table m mem d) (events_of d.id k.events)
  itt_same d r =
      let c = event_chain (itt_table m mem d) (itt_few m mem d r.most) (map event_id (events_of d.id k.events)) in
      (λ i. record { chain = c.0 i.chain; fields = i.fields }, λ i. record { chain = c.1 i.chain; fields = i.fields })

  rules_of : mapping_ok m k ≡ true → All (DeviceRules m) k.devices
  rules_of ok = (mapping_says m k ok).devices

  pub described_same : CappedDescribed m mem k ↔ Described m mem k
  described_same =
      let c = device_chain (device_table m mem) (map device_key k.devices) in (
        λ o. record {
          collections = o.collections;
          devices = c.0 o.devices;
          fields = o.fields;
          itts = all_of k.devices (λ d i. (itt_same d (all_in k.devices (rules_of o.allowed) i)).0 (all_in k.devices o.itts i));
          allowed = o.allowed;
        },
        λ o. record {
          collections = o.collections;
          devices = c.1 o.devices;
          fields = o.fields;
          itts = all_of k.devices (λ d i. (itt_same d (all_in k.devices (rules_of o.allowed) i)).1 (all_in k.devices o.itts i));
          allowed = o.allowed;
        },
      )
