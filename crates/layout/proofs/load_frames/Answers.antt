use Rattle.layout.specs.Layout.{frames_of}
use Rattle.layout.proofs.load_frames.Goals as goal

pub returns : goal.returns
unfolding frames_of
returns c = λ i. record { distributor = c.load_frame.ensures i; single = c.load_frame-2.ensures i; its = c.load_frame-3.ensures i }
