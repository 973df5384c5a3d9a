-- Adding VCPUs (§3.1), the running mark (§3.2), the interrupt count (§3.14, §3.15) and ITS INIT (§5.2).
use Rattle.std.specs.Prelude.{ℕ, ◌||◌, ◌&&◌, [], ◌∷◌, ◌++◌, length, replicate, leb, eqb}
use Rattle.lists.specs.Rows.{choose}
use Rattle.guest.specs.declared.Control.{Control}
use Rattle.guest.specs.Machine.{Reading}
use Rattle.guest.specs.Machine.{Machine, Result, refuse, accept, initialised, is_set, no_vcpu, no_bank, shared_count, with_control, with_vcpus, with_shared}
use Rattle.rules.specs.Rules.{taken, irqs_ok}

-- §3.1: INIT done -16; the affinity is another VCPU's -22, with 64 of them too; one over the limit -12. The new VCPU, a fresh one,
-- stands behind the others, so that its number is how many there were. The affinity has 32 bits by the type of the export.
unfoldable pub add_vcpu : ℕ → Machine → Result
add_vcpu affinity m =
    choose (initialised m) (refuse m 16)
    (choose (taken m.vcpus affinity) (refuse m 22)
    (choose (leb 64 (length m.vcpus)) (refuse m 12)
    (accept (with_vcpus (m.vcpus ++ (no_vcpu affinity ∷ [])) m))))

-- Notation: the marks of running and of INIT, replaced
abbrev pub with_running : ℕ → Control → Control
with_running r c = record {
  init = c.init;
  running = r;
  irqs = c.irqs;
  irqsset = c.irqsset;
  status = c.status;
  itsinit = c.itsinit;
}

abbrev pub with_init : Control → Control
with_init c = record {
  init = 1;
  running = c.running;
  irqs = c.irqs;
  irqsset = c.irqsset;
  status = c.status;
  itsinit = c.itsinit;
}

-- §3.14: the new interrupt count, which from now on counts as set
abbrev pub with_irqs : ℕ → Control → Control
with_irqs n c = record {
  init = c.init;
  running = c.running;
  irqs = n;
  irqsset = 1;
  status = c.status;
  itsinit = c.itsinit;
}

-- Notation: the mark of ITS INIT, replaced
abbrev pub with_its_init : Control → Control
with_its_init c = record {
  init = c.init;
  running = c.running;
  irqs = c.irqs;
  irqsset = c.irqsset;
  status = c.status;
  itsinit = 1;
}

-- §3.2: start (r is 1) and stop (r is 0); before INIT -6. What the mark was does not matter.
unfoldable pub set_running : ℕ → Machine → Result
set_running r m = choose (initialised m) (accept (with_control (with_running r m.control) m)) (refuse m 6)

-- §3.14: set of group 3, attribute 0 (others -6) and 4 bytes (else -14). A number that is no count is -22 before the -16 of a count
-- that is fixed. The shared banks are fresh, one for each 32 INTIDs of the count but the first 32.
unfoldable pub set_irqs : ℕ → ℕ → ℕ → Machine → Result
set_irqs attribute width value m =
    choose (eqb attribute 0)
    (choose (eqb width 4)
    (choose (irqs_ok value)
    (choose (eqb m.control.irqsset 1 || initialised m) (refuse m 16)
    (accept (with_shared (replicate (shared_count value) no_bank) (with_control (with_irqs value m.control) m))))
    (refuse m 22))
    (refuse m 14))
    (refuse m 6)

-- §3.15: get of group 3, attribute 0, whatever the guest does; names and width as for the set
unfoldable pub get_irqs : ℕ → ℕ → Machine → Reading
get_irqs attribute width m =
    choose (eqb attribute 0)
    (choose (eqb width 4) (record { errno = 0; number = m.control.irqs }) (record { errno = 14; number = 0 }))
    (record { errno = 6; number = 0 })

-- §5.2: ITS INIT. Where it was done earlier both needs hold (§1.9, §1.13) and the mark stands, so that it is 0 and changes nothing.
unfoldable pub its_init : Machine → Result
its_init m =
    choose (initialised m && is_set m.frames.its)
    (accept (with_control (with_its_init m.control) m))
    (refuse m 6)
