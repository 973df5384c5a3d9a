-- What the code hands back, and the answer of the definitions that it stands for.
use Rattle.std.specs.Prelude.{ℕ, ◌≡◌, Result, Ok, Err, IfOk}
use Rattle.answers.specs.declared.Errno.{Errno}
use Rattle.answers.specs.Number.{number}
use Rattle.guest.specs.declared.Guest.{Guest}
use Rattle.guest.specs.Machine as machine
use Rattle.guest.specs.Machine.{Machine, Reading, view, Held, refuse, accept}

-- Inner: the errno of what was tested, 0 where nothing stops it
abbrev pub fault : {T : Type 0} → Result T Errno → ℕ
fault (Ok t) = 0
fault (Err e) = number e

-- Inner: of a changing call on a machine: the next guest, or an errno and the machine as it was (§2.4)
abbrev pub outcome : Machine → Result Guest Errno → machine.Result
outcome m (Ok g) = accept (view g)
outcome m (Err e) = refuse m (number e)

-- Inner: what the code of a changing call promises
pub record Does (m : Machine) (o : Result Guest Errno) (r : machine.Result) : Type 0 where
  pub is : outcome m o ≡ r
  pub held : IfOk o Held

-- Inner: of a question
abbrev pub reading : Result ℕ Errno → Reading
reading (Ok n) = record { errno = 0; number = n }
reading (Err e) = record { errno = number e; number = 0 }
