-- What only the code of the test needs.
use Rattle.std.specs.Prelude.{ℕ, zero, suc, Bool, List}
use Rattle.xicsrows.specs.XicsLayout.{Row}
use Rattle.xicsrules.specs.Sound.{server_ok, source_ok}

-- Inner: the rule of a row of table t
abbrev pub row_ok : ℕ → List Row → Row → Bool
row_ok zero servers = server_ok
row_ok (suc t) servers = source_ok servers
