use Rattle.layout.specs.Layout.{control_of}
use Rattle.layout.proofs.load_control.Goals as goal

pub returns : goal.returns
unfolding control_of
returns c =
    λ i. record {
      init = c.get64.ensures.is i;
      running = c.get64-2.ensures.is i;
      irqs = c.get64-3.ensures.is i;
      irqsset = c.get64-4.ensures.is i;
      status = c.get64-5.ensures.is i;
      itsinit = c.get64-6.ensures.is i;
    }
