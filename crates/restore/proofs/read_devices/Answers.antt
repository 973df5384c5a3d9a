-- `restore::read_devices` meets its contract. Assumes nothing.
use mathlib.Core.Bool.{true}
use Rattle.tables.specs.Bytes.{device_slots}
use Rattle.tables.specs.Restored.{walk, visit_device}
use Rattle.restore.specs.Both.{slots_of}
use Rattle.restore.proofs.Answers.{steps_as}
use Rattle.restore.proofs.Whole.{devices_walk}
use Rattle.restore.proofs.read_devices.Goals as goal

pub returns : goal.returns
returns c =
    let a = c.args in
    steps_as (λ m. walk (slots_of true a.t.now) (visit_device m a.mem.now a.t.now)) (λ m. walk (device_slots a.t.now) (visit_device m a.mem.now a.t.now))
    (λ m k. devices_walk m _ _ k) c.walk.ensures
