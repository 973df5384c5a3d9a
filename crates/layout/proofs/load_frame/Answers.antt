use Rattle.layout.proofs.load_frame.Goals as goal

pub returns : goal.returns
returns c = λ i. record { set = c.get64.ensures.is i; base = c.get64-2.ensures.is i }
