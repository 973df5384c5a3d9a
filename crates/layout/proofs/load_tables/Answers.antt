use Rattle.layout.specs.Layout.{tables_of}
use Rattle.layout.proofs.load_tables.Goals as goal

pub returns : goal.returns
unfolding tables_of
returns c = λ i. record { devices = c.load_table.ensures i; collections = c.load_table-2.ensures i }
