use mathlib.Core.Path.{sym, ◌∙◌}
use Rattle.calls.proofs.Laws.{check_short, check_unsound, check_done}
use Rattle.calls.proofs.check.Goals as goal

pub returns-then-s-ne11400 : goal.returns-then-s-ne11400
returns-then-s-ne11400 c = check_short _ c.if-s-ne11400.true

pub returns-then-not-is_sound : goal.returns-then-not-is_sound
returns-then-not-is_sound c = check_unsound _ c.if-s-ne11400.false (sym c.is_sound.ensures ∙ c.if-not-is_sound.true)

pub returns : goal.returns
returns c = check_done _ c.if-s-ne11400.false (sym c.is_sound.ensures ∙ c.if-not-is_sound.false)
