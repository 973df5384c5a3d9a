-- `image::guest_of` meets its contract. Assumes nothing.
use native.Mathlib.Omega.{arith}
use mathlib.Core.Path.{ap}
use Rattle.guest.specs.Machine.{Machine, with_control, with_frames, with_vcpus, with_tables}
use Rattle.image.specs.Image.{frame_at, page_at, four_vcpus, guest_of}
use Rattle.image.proofs.guest_of.Goals as goal

-- a fresh guest, made ready
abbrev guest_from : Machine → Machine
guest_from m =
    with_tables (record { devices = page_at 0x40000000; collections = page_at 0x40001000 })
    (with_vcpus four_vcpus
    (with_frames (record { distributor = frame_at 0x08000000; single = frame_at 0x080A0000; its = frame_at 0x08080000 })
    (with_control (record {
      init = 1;
      running = m.control.running;
      irqs = m.control.irqs;
      irqsset = m.control.irqsset;
      status = m.control.status;
      itsinit = 1;
    }) m)))

pub returns : goal.returns
unfolding guest_of
returns c =
    let held = c.new-g.ensures.1 in
    let few = c.four_vcpus-vcpus.ensures.0 in (
      rw (few, c.four_vcpus-vcpus.ensures.1, c.frame_at.ensures, c.frame_at-2.ensures, c.frame_at-3.ensures, c.page_at.ensures, c.page_at-2.ensures)
          (ap (λ (m : Machine). guest_from m) c.new-g.ensures.0),
      record { regions = held.regions; vcpus = omega arith; shared = held.shared },
    )
