-- What reading the image comes to.
use Rattle.std.specs.Prelude.{List, ℕ, Result, IfOk}
use Rattle.io.specs.Counts.{IsPrefixLen}

-- Inner: the promise of the code that reads: so many bytes at the start of the buffer, which has as many
abbrev pub Fills : {E : Type 0} → Result ℕ E → List ℕ → Type 0
Fills r l = IfOk r (λ n. IsPrefixLen n l)
