-- A refusal, or a result, handed back as it was met: what it stands for. Assumes nothing.
use Prim.Native.Nat.{ℕ}
use native.Mathlib.Omega.{arith}
use mathlib.Core.Path.{◌≡◌, sym, ap, ◌∙◌}
use Rattle.std.specs.Prelude.{Result, Ok, Err}
use Rattle.answers.specs.declared.Errno.{Errno}
use Rattle.answers.specs.declared.Errno.TheVariants.{ENOENT, ENXIO, E2BIG, ENOMEM, EFAULT, EBUSY, EEXIST, ENODEV, EINVAL}
use Rattle.answers.specs.Number.{number}
use Rattle.guest.specs.declared.Guest.{Guest}
use Rattle.guest.specs.Machine as machine
use Rattle.guest.specs.Machine.{Machine, Reading, view, Held, refuse, accept}
use Rattle.guest.specs.Returned.{fault, Does, reading}

-- no errno is 0, which says that nothing stops a call
pub number_not_0 : (e : Errno) → number e ≡ 0 → ⊥
number_not_0 ENOENT h = omega arith
number_not_0 ENXIO h = omega arith
number_not_0 E2BIG h = omega arith
number_not_0 ENOMEM h = omega arith
number_not_0 EFAULT h = omega arith
number_not_0 EBUSY h = omega arith
number_not_0 EEXIST h = omega arith
number_not_0 ENODEV h = omega arith
number_not_0 EINVAL h = omega arith

module _ {e : Errno} where
  -- a changing call handed on with the errno that a test gave
  pub does_refuse : (m : Machine) {o : Result Guest Errno} {r : machine.Result} → o ≡ Err e → r ≡ refuse m (number e) → Does m o r
  does_refuse m p q = rw p (record { is = sym q; held = tt })

  -- a question
  pub reads_refuse : {o : Result ℕ Errno} {r : Reading} → o ≡ Err e → r ≡ record { errno = number e; number = 0 } → reading o ≡ r
  reads_refuse p q = rw p (sym q)

  -- a test
  pub fault_refuse : {T : Type 0} {o : Result T Errno} {n : ℕ} → o ≡ Err e → n ≡ number e → fault o ≡ n
  fault_refuse p q = rw p (sym q)

pub does_accept : (m : Machine) (g : Guest) {next : Machine} {r : machine.Result} → view g ≡ next → Held g → r ≡ accept next → Does m (Ok g) r
does_accept m g v h q = record { is = ap accept v ∙ sym q; held = h }
