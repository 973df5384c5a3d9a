-- A count that was never set: 256, as in a state that is kept from when a fresh guest had it (§1.17), beside counts that no guest has so.
use Rattle.std.specs.Prelude.{ℕ, List, [], ◌∷◌, ◌++◌}
use Rattle.answers.specs.Answer.{refusal, done}
use Rattle.words.specs.Words.{bytes_of, put_at}
use Rattle.step.specs.Step.{setup, vgic_set, vgic_get}
use Rattle.step.specs.Run.{Row, Runs, ◌⇒◌, with, writes, word, after, unmade}
use Rattle.runs.specs.Banks.{ready, counted}

-- Notation: the bytes of a state with another interrupt count, which is the word at 40, and the mark that stood
abbrev pub recounted : ℕ → List ℕ → List ℕ
recounted n s = put_at s 40 (bytes_of 8 n)

-- Notation: a guest that set no count, before INIT and after it
abbrev pub early : List ℕ
early = after (setup 40 0x40000000 0x4000 ⇒ done 0 ∷ []) unmade

abbrev pub late : List ℕ
late = after ready early

-- Notation: the count is read; the state is refused (§1.3)
abbrev pub reads : ℕ → Row
reads n = writes (vgic_get 3 0) (word 7) (done 0) (word n)

abbrev pub Bad : List ℕ → Type 0
Bad s = Runs (with (vgic_get 3 0) (word 7) (refusal 22) ∷ []) s

-- §1.17: what a guest with such a count does, call by call
pub record Former : Type 0 where
  -- §1.17: sound, with its 256 interrupts; they stay through INIT, after which the count can't be set (§3.14)
  pub kept : Runs ((reads 256 ∷ ready) ++ counted 256 ++ (with (vgic_set 3 0) (word 256) (refusal 16) ∷ reads 256 ∷ [])) (recounted 256 early)
  pub later : Runs (counted 256 ++ (with (vgic_set 3 0) (word 64) (refusal 16) ∷ [])) (recounted 256 late)
  -- §1.17, §3.14: before INIT it can be set, once; 256 itself too, and a refused one is none
  pub set : Runs (with (vgic_set 3 0) (word 80) (refusal 22) ∷ with (vgic_set 3 0) (word 256) (done 0) ∷ with (vgic_set 3 0) (word 64) (refusal 16) ∷ reads 256 ∷ [])
      (recounted 256 early)
  pub another : Runs (with (vgic_set 3 0) (word 96) (done 0) ∷ with (vgic_set 3 0) (word 96) (refusal 16) ∷ reads 96 ∷ []) (recounted 256 early)
  -- §1.4: set-up makes 64 of it
  pub again : Runs (setup 40 0x40000000 0x4000 ⇒ done 0 ∷ reads 64 ∷ []) (recounted 256 early)
  -- §1.9: the counts next to the two, and the largest, are good only if they were set; after INIT too
  pub others : Bad (recounted 96 early) × Bad (recounted 224 early) × Bad (recounted 288 early) × Bad (recounted 1024 early) × Bad (recounted 96 late)
