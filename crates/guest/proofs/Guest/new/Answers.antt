use native.Mathlib.Omega.{arith}
use Rattle.guest.proofs.Guest.new.Goals as goal

pub overflow_sub-banks : goal.overflow_sub-banks
overflow_sub-banks c = omega arith

pub returns : goal.returns
returns c =
    let none = c.no_vcpus.ensures in
    (rw (none, c.fresh_bank.ensures), record { regions = omega arith; vcpus = omega arith; shared = omega arith })
