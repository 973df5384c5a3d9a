-- `restore::read_events` meets its contract. Assumes nothing.
use mathlib.Core.Bool.{false}
use Rattle.tables.specs.Restored.{walk, visit_event, read_events}
use Rattle.restore.specs.Both.{slots_of}
use Rattle.restore.proofs.Answers.{steps_as}
use Rattle.restore.proofs.Events.{events_walk}
use Rattle.restore.proofs.read_events.Goals as goal

pub returns : goal.returns
returns c =
    let a = c.args in
    steps_as (λ m. walk (slots_of false a.t.now) (visit_event a.t.now a.id)) (λ m. read_events a.t.now a.id) (λ m k. events_walk _ _ k) c.walk.ensures
