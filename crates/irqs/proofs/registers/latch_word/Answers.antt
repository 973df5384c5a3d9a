use mathlib.Core.Path.{refl}
use Rattle.irqs.proofs.registers.latch_word.Goals as goal

pub returns : goal.returns
returns c = refl
