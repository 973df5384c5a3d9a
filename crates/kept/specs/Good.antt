-- A guest whose numbers fit their places and that keeps every rule; and the numbers that a call may hand back.
use Rattle.std.specs.Prelude.{ℕ, ◌≡◌, Bool, true, ◌||◌, eqb}
use Rattle.guest.specs.Machine.{Machine, Result}
use Rattle.guest.specs.Words.{Words}
use Rattle.rules.specs.Rules.{rules}

-- Inner: what the proofs of §10.3 hold of a machine: its numbers fit their places, and it keeps the rules
pub record Good (m : Machine) : Type 0 where
  pub words : Words m
  pub rules : rules m ≡ true

-- Inner: a step leaves a good machine
abbrev pub Stays : Result → Type 0
Stays r = Good r.next

abbrev pub Keeps : (Machine → Result) → Type 0
Keeps step = (m : Machine) → Good m → Stays (step m)

-- Inner: 0, or one of the nine errnos of §2.2; the proof of §10.2 goes through it
unfoldable pub listed : ℕ → Bool
listed e =
    eqb e 0 || (eqb e 2 || (eqb e 6 || (eqb e 7 || (eqb e 12
    || (eqb e 14 || (eqb e 16 || (eqb e 17 || (eqb e 19 || eqb e 22))))))))
