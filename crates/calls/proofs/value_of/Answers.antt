use Rattle.std.proofs.Common.{rules}
use Rattle.calls.proofs.Laws.{value_four, value_eight, value_none}
use Rattle.calls.proofs.value_of.Goals as goal

pub returns-in-4 : goal.returns-in-4
returns-in-4 c = value_four _ _ c.in-4.is c.get32.ensures.is

pub returns-in-8 : goal.returns-in-8
returns-in-8 c = value_eight _ _ c.in-8.is c.get64.ensures.is

pub returns-in_default : goal.returns-in_default
returns-in_default c = value_none _ (search rules) (search rules)
