-- Part 14 of docs/DEFINITION.md, call by call. Beside each call stand its answer and what it leaves in the lent value, written down from the
-- paragraphs that the comments cite.
use Rattle.std.specs.Prelude.{◌≡◌, ◌++◌}
use Rattle.xicsruns.specs.XicsRun.{XicsRuns, after, zeros, ones, unmade}
use Rattle.xicsruns.specs.Registering.{wrong_length, not_sound, registering, from_zeros, many, last, limits, made, made_of}
use Rattle.xicsruns.specs.Broken.{Broken}
use Rattle.xicsruns.specs.Words.{registered, sources, servers}
use Rattle.xicsruns.specs.Delivering.{delivering}

-- §14.17: each list of calls does on its bytes what is written beside it
pub record AllXicsRuns : Type 0 where
  -- §14.3: one byte short and one byte long, of bytes that break no rule and of bytes that break one
  pub lengths : XicsRuns wrong_length (zeros 2063) × XicsRuns wrong_length (zeros 2065) × XicsRuns wrong_length (ones 2063) × XicsRuns wrong_length (ones 2065)
  pub broken : Broken
  pub zeros : XicsRuns from_zeros (zeros 2064)
  pub registering : XicsRuns (not_sound ++ registering) unmade
  pub last : XicsRuns last (many 63 62)
  pub limits : XicsRuns limits (many 64 64)
  -- §14.2: every byte
  pub made : XicsRuns made unmade × (after made unmade ≡ made_of)
  pub sources : XicsRuns (registered ++ sources) unmade
  pub servers : XicsRuns (registered ++ servers) unmade
  pub delivering : XicsRuns (registered ++ delivering) unmade
