use Rattle.calls.proofs.perform.Goals as goal

pub returns-in-Place : goal.returns-in-Place
returns-in-Place c = rw c.in-Place.is c.place.ensures

pub returns-in-MapDevice : goal.returns-in-MapDevice
returns-in-MapDevice c = rw c.in-MapDevice.is c.map_device.ensures

pub returns-in-UnmapDevice : goal.returns-in-UnmapDevice
returns-in-UnmapDevice c = rw c.in-UnmapDevice.is c.unmap_device.ensures

pub returns-in-MapCollection : goal.returns-in-MapCollection
returns-in-MapCollection c = rw c.in-MapCollection.is c.map_collection.ensures

pub returns-in-UnmapCollection : goal.returns-in-UnmapCollection
returns-in-UnmapCollection c = rw c.in-UnmapCollection.is c.unmap_collection.ensures

pub returns-in-MapEvent : goal.returns-in-MapEvent
returns-in-MapEvent c = rw c.in-MapEvent.is c.map_event.ensures

pub returns-in-Discard : goal.returns-in-Discard
returns-in-Discard c = rw c.in-Discard.is c.discard.ensures

pub returns-in-Move : goal.returns-in-Move
returns-in-Move c = rw c.in-Move.is c.move_event.ensures

pub returns-in-Reset : goal.returns-in-Reset
returns-in-Reset c = rw c.in-Reset.is c.reset.ensures
