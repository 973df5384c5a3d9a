-- The number of each table of the code.
use Rattle.std.specs.Prelude.{ℕ}
use Rattle.xicsrows.specs.declared.Table.{Table}
use Rattle.xicsrows.specs.declared.Table.TheVariants.{Servers, Sources}
use Rattle.xicsrows.specs.XicsLayout.{server, source}

-- Inner: the number that stands for it
abbrev pub number_of : Table → ℕ
number_of Servers = server
number_of Sources = source
