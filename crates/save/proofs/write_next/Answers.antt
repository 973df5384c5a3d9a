-- `save::write_next` meets its contract. Assumes nothing.
use native.Mathlib.Omega.{arith}
use Rattle.save.proofs.Tables.{blanks_word}
use Rattle.save.proofs.write_next.Goals as goal

pub returns : goal.returns
returns c =
    blanks_word _ _ _ _ _ _ _ c.requires.0 (omega (arith, c.requires)) c.write_blanks.ensures c.put_entry.ensures
