use Rattle.calls.proofs.Boxes.{reset_width, reset_early, reset_running, reset_done}
use Rattle.calls.proofs.commands.reset.Goals as goal

pub returns-then-width-ne0 : goal.returns-then-width-ne0
returns-then-width-ne0 c = reset_width _ _ _ c.if-width-ne0.true

pub returns-then-g-ne1 : goal.returns-then-g-ne1
returns-then-g-ne1 c = reset_early _ _ _ c.if-width-ne0.false c.if-g-ne1.true

pub returns-then-g-eq1 : goal.returns-then-g-eq1
returns-then-g-eq1 c = reset_running _ _ _ c.if-width-ne0.false c.if-g-ne1.false c.if-g-eq1.true

pub returns : goal.returns
returns c =
    reset_done _ _ c.requires _ _ c.new-empty.ensures c.if-width-ne0.false c.if-g-ne1.false c.if-g-eq1.false
