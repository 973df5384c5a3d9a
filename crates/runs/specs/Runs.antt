-- Parts 1 to 4 of docs/DEFINITION.md, call by call. Beside each call stand its answer and what it leaves in the lent value, written down
-- from the paragraphs that the comments cite.
use Rattle.std.specs.Prelude.{◌++◌}
use Rattle.step.specs.Run.{Runs, zeros, unmade}
use Rattle.runs.specs.Opening.{wrong_length, no_guest, setting_up}
use Rattle.runs.specs.Order.{order}
use Rattle.runs.specs.Frames.{frames}
use Rattle.runs.specs.Banks.{banks}
use Rattle.runs.specs.Limits.{limits}
use Rattle.runs.specs.Broken.{Broken}
use Rattle.runs.specs.Former.{Former}

-- §10.9: each list of calls does on its state what is written beside it
pub record GuestRuns : Type 0 where
  -- §1.3: the state one byte short and one byte long
  pub lengths : Runs wrong_length (zeros 11399) × Runs wrong_length (zeros 11401)
  -- all others begin with 11,400 bytes of 0, which are no guest
  pub fresh : Runs (no_guest ++ setting_up) unmade
  pub order : Runs order unmade
  pub frames : Runs frames unmade
  pub banks : Runs banks unmade
  pub limits : Runs limits unmade
  -- §1.15, §1.16: the states are made by calls, and then one byte is changed
  pub broken : Broken
  -- §1.17: likewise, and then the count is changed
  pub former : Former
