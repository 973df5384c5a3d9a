-- `frames::vcpus::fresh_banks` meets its contract. Assumes nothing.
use Rattle.frames.proofs.Rows.{few_banks, take_replicate}
use Rattle.frames.proofs.vcpus.fresh_banks.Goals as goal

pub returns : goal.returns
returns c =
    let f = few_banks c.args.irqs c.requires in
    (rw c.fresh_bank.ensures (take_replicate _ 31 _ f.1), f.1)
