-- The errnos of the refusals, and when each is given.
use Rattle.std.specs.Prelude.{ℕ, Bool, false, ◌||◌, List, [], ◌∷◌, eqb}

-- §2.2: ENOENT, something named that is not there
abbrev pub enoent : ℕ
enoent = 2

-- §2.2: ENXIO, an unknown group, attribute or offset, or a guest that is not ready
abbrev pub enxio : ℕ
enxio = 6

-- §2.2: E2BIG, a frame ends above 2^p
abbrev pub e2big : ℕ
e2big = 7

-- §2.2: ENOMEM, one over a limit
abbrev pub enomem : ℕ
enomem = 12

-- §2.2: EFAULT, a state, an XICS, a value or a memory of a wrong length, or an area that is not inside memory
abbrev pub efault : ℕ
efault = 14

-- §2.2: EBUSY, the guest runs, or what is asked for is fixed
abbrev pub ebusy : ℕ
ebusy = 16

-- §2.2: EEXIST, set, mapped or registered before
abbrev pub eexist : ℕ
eexist = 17

-- §2.2: ENODEV, VGIC INIT without a VCPU, or another attribute than 4 in the ITS's group 0
abbrev pub enodev : ℕ
enodev = 19

-- §2.2: EINVAL, all other faults
abbrev pub einval : ℕ
einval = 22

-- §2.2: the nine of them, rising
abbrev pub errnos : List ℕ
errnos = enoent ∷ enxio ∷ e2big ∷ enomem ∷ efault ∷ ebusy ∷ eexist ∷ enodev ∷ einval ∷ []

-- Notation: a number is in a list
abbrev pub among : List ℕ → ℕ → Bool
among [] e = false
among (x ∷ xs) e = eqb e x || among xs e

-- §2.2, §10.2: the number is one of the nine errnos
unfoldable pub listed : ℕ → Bool
listed e = among errnos e
