-- Runs: calls one by one on the bytes of an XICS, each on what the one before left, with what part 14 of docs/DEFINITION.md makes each
-- hand back.
use Rattle.std.specs.Prelude.{ℕ, zero, suc, ◌-◌, ◌*◌, ◌≡◌, List, [], ◌∷◌, ◌++◌, ℤ, length, replicate}
use Rattle.words.specs.Words.{bytes_of, bytes_all}
use Rattle.step.specs.Run.{Seen}
use Rattle.xicsrows.specs.XicsLayout.{size}
use Rattle.xics.specs.XicsStep.{XicsCall, xics_step}

-- Notation: a call, the value that is lent to it, and what is expected of it
pub record Turn : Type 0 where
  pub call : XicsCall
  pub lent : List ℕ
  pub seen : Seen

-- Notation: a call that lends nothing; a set of 8 bytes; a refused call with a value of n bytes of 7, which stay; an accepted get over 8 of them
infix 70 ◌⇒◌
abbrev pub ◌⇒◌ : XicsCall → ℤ → Turn
c ⇒ n = record { call = c; lent = []; seen = record { answer = n; left = [] } }

abbrev pub set : XicsCall → ℕ → ℤ → Turn
set c w n = record { call = c; lent = bytes_of 8 w; seen = record { answer = n; left = bytes_of 8 w } }

abbrev pub stays : XicsCall → ℕ → ℤ → Turn
stays c width n = record { call = c; lent = replicate width 7; seen = record { answer = n; left = replicate width 7 } }

abbrev pub gives : XicsCall → ℤ → ℕ → Turn
gives c n w = record { call = c; lent = replicate 8 7; seen = record { answer = n; left = bytes_of 8 w } }

-- Notation: what is expected of the calls, one after the other
abbrev pub expected : List Turn → List Seen
expected [] = []
expected (r ∷ rs) = r.seen ∷ expected rs

-- §14.17: what `xics_step` makes of the calls, each on the bytes that the one before left
abbrev pub shown : List Turn → List ℕ → List Seen
shown [] s = []
shown (r ∷ rs) s =
    let a = xics_step r.call s r.lent in
    record { answer = a.answer; left = a.lent } ∷ shown rs a.state

-- §14.17: every call of the run does what is written beside it, by its answer and its value
abbrev pub XicsRuns : List Turn → List ℕ → Type 0
XicsRuns rs s = shown rs s ≡ expected rs

-- Notation: the bytes after the calls
abbrev pub after : List Turn → List ℕ → List ℕ
after [] s = s
after (r ∷ rs) s = after rs (xics_step r.call s r.lent).state

-- Notation: n bytes of 0; n of 255; bytes of the right length that are no XICS
abbrev pub zeros : ℕ → List ℕ
zeros n = replicate n 0

abbrev pub ones : ℕ → List ℕ
ones n = replicate n 255

abbrev pub unmade : List ℕ
unmade = ones size

-- §14.2: the bytes of an XICS whose numbers of rows are a and b: its servers and its sources, each as number, word, number, word, with ones
-- behind the last row
abbrev pub laid : ℕ → ℕ → List ℕ → List ℕ → List ℕ
laid a b servers sources =
    bytes_of 8 a ++ (bytes_of 8 b ++ (bytes_all (bytes_of 8) servers ++ (ones (1024 - 8 * length servers)
    ++ (bytes_all (bytes_of 8) sources ++ ones (1024 - 8 * length sources)))))

-- Notation: n rows, of 0 to n - 1, each with the word of its number
abbrev pub rows : ℕ → (ℕ → ℕ) → List ℕ
rows zero f = []
rows (suc n) f = rows n f ++ (n ∷ f n ∷ [])
