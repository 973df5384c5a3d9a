use Rattle.layout.proofs.load_table.Goals as goal

pub returns : goal.returns
returns c = λ i. record { set = c.get64.ensures.is i; start = c.get64-2.ensures.is i; pages = c.get64-3.ensures.is i }
