-- The number of each errno of the code.
use Rattle.std.specs.Prelude.{ℕ}
use Rattle.answers.specs.declared.Errno.{Errno}
use Rattle.answers.specs.declared.Errno.TheVariants.{ENOENT, ENXIO, E2BIG, ENOMEM, EFAULT, EBUSY, EEXIST, ENODEV, EINVAL}
use Rattle.answers.specs.Errno.{enoent, enxio, e2big, enomem, efault, ebusy, eexist, enodev, einval}

-- §2.2: the number that stands for it
abbrev pub number : Errno → ℕ
number ENOENT = enoent
number ENXIO = enxio
number E2BIG = e2big
number ENOMEM = enomem
number EFAULT = efault
number EBUSY = ebusy
number EEXIST = eexist
number ENODEV = enodev
number EINVAL = einval
