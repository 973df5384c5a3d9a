-- Inner: every number of a mapping fits its place in the state's bytes: 8 bytes for a device's, 2 for any other.
use Rattle.std.specs.Prelude.{◌<◌, ◌^◌}
use Rattle.lists.proofs.All.{All}
use Rattle.mapping.specs.declared.Device.{Device}
use Rattle.mapping.specs.declared.Collection.{Collection}
use Rattle.mapping.specs.declared.Event.{Event}
use Rattle.mapping.specs.Mapped.{Mapped}

pub record DeviceWords (d : Device) : Type 0 where
  pub id : d.id < 2 ^ 64
  pub itt : d.itt < 2 ^ 64
  pub bits : d.bits < 2 ^ 64

pub record CollectionWords (c : Collection) : Type 0 where
  pub icid : c.icid < 2 ^ 16
  pub pe : c.pe < 2 ^ 16

pub record EventWords (e : Event) : Type 0 where
  pub device : e.device < 2 ^ 16
  pub event : e.event < 2 ^ 16
  pub lpi : e.lpi < 2 ^ 16
  pub icid : e.icid < 2 ^ 16

pub record MapWords (k : Mapped) : Type 0 where
  pub collections : All CollectionWords k.collections
  pub devices : All DeviceWords k.devices
  pub events : All EventWords k.events
