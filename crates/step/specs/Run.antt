-- Runs: calls one by one on bytes, each on the state that the one before left, with what docs/DEFINITION.md makes each hand back.
use Rattle.std.specs.Prelude.{ℕ, zero, suc, ◌≡◌, List, [], ◌∷◌, ◌++◌, ℤ, replicate}
use Rattle.words.specs.Words.{bytes_of}
use Rattle.layout.specs.Layout.{size}
use Rattle.step.specs.Step.{Call, step}

-- Notation: what a call hands back, and what it leaves in what is lent to it
pub record Seen : Type 0 where
  pub answer : ℤ
  pub left : List ℕ

-- Notation: a call, what is lent to it, and what is expected of it
pub record Row : Type 0 where
  pub call : Call
  pub lent : List ℕ
  pub seen : Seen

-- Notation: a call that lends nothing; one whose lent bytes stay; one that writes them, with what it leaves
infix 70 ◌⇒◌
abbrev pub ◌⇒◌ : Call → ℤ → Row
c ⇒ n = record { call = c; lent = []; seen = record { answer = n; left = [] } }

abbrev pub with : Call → List ℕ → ℤ → Row
with c v n = record { call = c; lent = v; seen = record { answer = n; left = v } }

abbrev pub writes : Call → List ℕ → ℤ → List ℕ → Row
writes c v n w = record { call = c; lent = v; seen = record { answer = n; left = w } }

-- Notation: what is expected of the calls, one after the other
abbrev pub expected : List Row → List Seen
expected [] = []
expected (r ∷ rs) = r.seen ∷ expected rs

-- §10.9: what `step` makes of the calls, each on the state that the one before left
abbrev pub shown : List Row → List ℕ → List Seen
shown [] s = []
shown (r ∷ rs) s =
    let a = step r.call s r.lent in
    record { answer = a.answer; left = a.lent } ∷ shown rs a.state

-- Notation: the state after the calls
abbrev pub after : List Row → List ℕ → List ℕ
after [] s = s
after (r ∷ rs) s = after rs (step r.call s r.lent).state

-- §10.9: every call of the run does what its row expects, by its answer and its lent bytes
abbrev pub Runs : List Row → List ℕ → Type 0
Runs rs s = shown rs s ≡ expected rs

-- Notation: values of 4 and of 8 bytes, zero bytes, and a state of which only the length is right
abbrev pub word : ℕ → List ℕ
word v = bytes_of 4 v

abbrev pub long : ℕ → List ℕ
long v = bytes_of 8 v

abbrev pub zeros : ℕ → List ℕ
zeros n = replicate n 0

abbrev pub unmade : List ℕ
unmade = zeros size

-- Notation: the rows of 0 to n - 1
abbrev pub many : ℕ → (ℕ → Row) → List Row
many zero f = []
many (suc n) f = many n f ++ (f n ∷ [])
