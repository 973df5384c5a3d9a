-- `restore::slots::first_from` meets its contract. Assumes nothing.
use mathlib.Core.Path.{refl}
use Rattle.restore.proofs.Both.{seek_here, seek_turn, seek_end}
use Rattle.restore.proofs.slots.first_from.Goals as goal

pub loop-i-init : goal.loop-i-init
loop-i-init g c = record { size = refl; end = c.requires; same = refl }

pub returns-then-valid : goal.returns-then-valid
returns-then-valid g c =
    seek_here _ _ _ _ _ c.loop-i.invariant c.loop-i-test.true _ _ c.entry_at.ensures c.valid.ensures c.if-valid.true

pub loop-i-preserved : goal.loop-i-preserved
loop-i-preserved g c =
    seek_turn _ _ _ _ _ c.loop-i.invariant c.loop-i-test.true _ _ c.entry_at.ensures c.valid.ensures c.if-valid.false

pub returns : goal.returns
returns g c = seek_end _ _ _ _ _ c.loop-i.invariant c.loop-i-test.false
