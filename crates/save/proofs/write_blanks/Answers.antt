-- `save::write_blanks` meets its contract. Assumes nothing.
use Rattle.save.proofs.Tables.{blank_filled}
use Rattle.save.proofs.write_blanks.Goals as goal

pub returns : goal.returns
returns c = blank_filled _ _ _ _ _ c.requires.0 c.requires.1 (c.fill.ensures.after (λ y e. e))
