use Rattle.layout.specs.Layout.{memory_of}
use Rattle.layout.proofs.load_memory.Goals as goal

pub returns : goal.returns
unfolding memory_of
returns c = λ i. record { width = c.get64.ensures.is i; start = c.get64-2.ensures.is i; length = c.get64-3.ensures.is i }
