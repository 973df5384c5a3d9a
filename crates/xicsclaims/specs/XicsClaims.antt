-- What is claimed of the calls on an XICS: each record is a paragraph, `XicsProved` is all of them.
use Rattle.std.specs.Prelude.{ℕ, ◌+◌, ◌-◌, ◌%◌, ◌^◌, ◌<◌, ◌≤◌, ◌≡◌, Bool, true, false, ◌↔◌, List, [], ◌∷◌, length, get_or, drop, replicate}
use Rattle.lists.proofs.Member.{In}
use Rattle.answers.specs.Answer.{refusal, done}
use Rattle.answers.specs.Errno.{among}
use Rattle.words.specs.Words.{le, bytes_of}
use Rattle.words.proofs.Bytes.{Bytes}
use Rattle.fields.specs.Field.{get_field}
use Rattle.step.specs.Step.{After}
use Rattle.xicsrows.specs.XicsLayout.{size, server, source, Row, table}
use Rattle.xicsrows.specs.Registered.{no_row}
use Rattle.xicsrules.specs.Sound.{sound_xics, SoundXics}
use Rattle.xics.specs.XicsStep.{XicsCall, xics_step, xics_len, xics_setup, add_server, add_source, set_source, set_server, get_source, get_server, deliverable}

-- §2.3: accepted, for a call that is asked for no number
abbrev pub Accepted : After → Type 0
Accepted a = a.answer ≡ done 0

-- §14.14: an answer of 0 or more; or one of five refusals, and then XICS and value are as they were
pub data Answers (s v : List ℕ) (a : After) : Type 0 where
  succeeds : (n : ℕ) → a.answer ≡ done n → Answers s v a
  refuses : (e : ℕ) → among (2 ∷ 12 ∷ 14 ∷ 17 ∷ 22 ∷ []) e ≡ true → a.answer ≡ refusal e → a.state ≡ s → a.lent ≡ v → Answers s v a

-- §14.3: the calls that test an XICS first: all but the length and set-up
abbrev pub tested : XicsCall → Bool
tested xics_len = false
tested xics_setup = false
tested (add_server n) = true
tested (add_source n d) = true
tested (set_source n) = true
tested (set_server n) = true
tested (get_source n) = true
tested (get_server n) = true
tested (deliverable n) = true

-- §14.3, §14.14: another length is -14; of the right length, bytes that are not sound are -22
pub record Tests (c : XicsCall) (s v : List ℕ) : Type 0 where
  pub short : (length s ≡ size → ⊥) → (xics_step c s v).answer ≡ refusal 14
  pub unsound : length s ≡ size → sound_xics s ≡ false → (xics_step c s v).answer ≡ refusal 22

-- §14.4, §14.14: set-up of bytes of the right length
pub record Made (s v : List ℕ) : Type 0 where
  pub accepted : Accepted (xics_step xics_setup s v)
  pub sound : SoundXics (xics_step xics_setup s v).state
  pub servers : table server (xics_step xics_setup s v).state ≡ []
  pub sources : table source (xics_step xics_setup s v).state ≡ []

-- §14.12: a server: the number below 2^32; source number and pending priority; bits 15:0
pub record ServerRule (r : Row) : Type 0 where
  pub number : r.number < 2 ^ 32
  pub paired : (get_field r.word 32 24 ≡ 0) ↔ (get_field r.word 16 8 ≡ 255)
  pub unused : r.word % 65536 ≡ 0

-- §14.12: a source: the number below 2^20, no bit above 42, and a row of the server that it names
pub record SourceRule (s : List ℕ) (r : Row) : Type 0 where
  pub number : r.number < 2 ^ 20
  pub narrow : r.word < 2 ^ 43
  pub named : (d : Row) × In d (table server s) × (d.number ≡ get_field r.word 0 32)

-- §14.12: at most 64 rows in table t, and no number twice
pub record Table (t : ℕ) (s : List ℕ) : Type 0 where
  pub few : length (table t s) ≤ 64
  pub once : (i j : ℕ) → i < length (table t s) → j < length (table t s) → (get_or (table t s) i no_row).number ≡ (get_or (table t s) j no_row).number → i ≡ j

-- §14.12: the rules, row by row
pub record Rules (s : List ℕ) : Type 0 where
  pub servers : Table server s
  pub sources : Table source s
  pub server : (r : Row) → In r (table server s) → ServerRule r
  pub source : (r : Row) → In r (table source s) → SourceRule s r

-- §14.1: a row of table t has the number n
abbrev pub Stands : ℕ → ℕ → List ℕ → Type 0
Stands t n s = (w : ℕ) × In (record { number = n; word = w }) (table t s)

-- §14.7: what registering server n asks
pub record AddsServer (n : ℕ) (s : List ℕ) : Type 0 where
  pub number : n < 2 ^ 32
  pub new : Stands server n s → ⊥
  pub room : length (table server s) < 64

-- §14.8: what registering source n with server d asks
pub record AddsSource (n d : ℕ) (s : List ℕ) : Type 0 where
  pub number : n < 2 ^ 20
  pub destination : d < 2 ^ 32
  pub new : Stands source n s → ⊥
  pub known : Stands server d s
  pub room : length (table source s) < 64

-- §14.9: what setting the word of source n to the value v asks
pub record SetsSource (n : ℕ) (s v : List ℕ) : Type 0 where
  pub width : length v ≡ 8
  pub known : Stands source n s
  pub narrow : le v < 2 ^ 43
  pub destination : Stands server (get_field (le v) 0 32) s

-- §14.10: what setting the word of server n to the value v asks
pub record SetsServer (n : ℕ) (s v : List ℕ) : Type 0 where
  pub width : length v ≡ 8
  pub known : Stands server n s
  pub paired : (get_field (le v) 32 24 ≡ 0) ↔ (get_field (le v) 16 8 ≡ 255)

-- §14.14: each of the four calls is accepted exactly where that holds
pub record Accepts (n : ℕ) (s v : List ℕ) : Type 0 where
  pub server : Accepted (xics_step (add_server n) s v) ↔ AddsServer n s
  pub source : (d : ℕ) → Accepted (xics_step (add_source n d) s v) ↔ AddsSource n d s
  pub source_word : Accepted (xics_step (set_source n) s v) ↔ SetsSource n s v
  pub server_word : Accepted (xics_step (set_server n) s v) ↔ SetsServer n s v

-- §14.11, §14.15: a get is accepted and fills its value with the word
pub record Fills (a : After) (w : ℕ) : Type 0 where
  pub accepted : Accepted a
  pub filled : a.lent ≡ bytes_of 8 w

-- §14.8, §14.15: the word of a source that was registered with server d, field by field
pub record FreshSource (d w : ℕ) : Type 0 where
  pub destination : get_field w 0 32 ≡ d
  pub priority : get_field w 32 8 ≡ 255
  pub level : get_field w 40 1 ≡ 0
  pub masked : get_field w 41 1 ≡ 1
  pub pending : get_field w 42 1 ≡ 0
  pub above : get_field w 43 21 ≡ 0

-- §14.7, §14.15: the word of a server that was registered, field by field
pub record FreshServer (v : ℕ) : Type 0 where
  pub unused : get_field v 0 16 ≡ 0
  pub pending_priority : get_field v 16 8 ≡ 255
  pub ipi_priority : get_field v 24 8 ≡ 255
  pub source_number : get_field v 32 24 ≡ 0
  pub current_priority : get_field v 56 8 ≡ 0

-- §14.15: what a get into a value u of 8 bytes gives of the source or the server that the call before it named
pub record Words (n : ℕ) (s v u : List ℕ) : Type 0 where
  pub source : Accepted (xics_step (set_source n) s v) → Fills (xics_step (get_source n) (xics_step (set_source n) s v).state u) (le v)
  pub server : Accepted (xics_step (set_server n) s v) → Fills (xics_step (get_server n) (xics_step (set_server n) s v).state u) (le v - le v % 65536)
  pub new_source : (d : ℕ) → Accepted (xics_step (add_source n d) s v)
      → Fills (xics_step (get_source n) (xics_step (add_source n d) s v).state u) (0x000002FF00000000 + d) × FreshSource d (0x000002FF00000000 + d)
  pub new_server : Accepted (xics_step (add_server n) s v)
      → Fills (xics_step (get_server n) (xics_step (add_server n) s v).state u) 0x00000000FFFF0000 × FreshServer 0x00000000FFFF0000

-- §14.15: the calls that may change an XICS, with the table and the number that each names
pub data Names : ℕ → ℕ → XicsCall → Type 0 where
  adds_server : (n : ℕ) → Names server n (add_server n)
  adds_source : (n d : ℕ) → Names source n (add_source n d)
  sets_server : (n : ℕ) → Names server n (set_server n)
  sets_source : (n : ℕ) → Names source n (set_source n)

-- §14.15: the gets, likewise
pub data Gets : ℕ → ℕ → XicsCall → Type 0 where
  gets_server : (n : ℕ) → Gets server n (get_server n)
  gets_source : (n : ℕ) → Gets source n (get_source n)

-- §14.15: nothing else changes: a get of another source or server answers and fills the same before and after
pub record Alike (a b : After) : Type 0 where
  pub answer : a.answer ≡ b.answer
  pub lent : a.lent ≡ b.lent

-- §14.15: getting and asking change no byte of the XICS
pub record Still (n : ℕ) (s v : List ℕ) : Type 0 where
  pub source : (xics_step (get_source n) s v).state ≡ s
  pub server : (xics_step (get_server n) s v).state ≡ s
  pub delivery : (xics_step (deliverable n) s v).state ≡ s

-- §14.16: a row of source n with word w and a row of the server that w names with word v, for which it is deliverable
pub record Delivers (n : ℕ) (s : List ℕ) : Type 0 where
  pub w : ℕ
  pub v : ℕ
  pub source : In (record { number = n; word = w }) (table source s)
  pub server : In (record { number = get_field w 0 32; word = v }) (table server s)
  pub pending : get_field w 42 1 ≡ 1
  pub unmasked : get_field w 41 1 ≡ 0
  pub below : get_field w 32 8 < get_field v 56 8

-- §14.16: the answers of the question: 1 and 0 of a source that is registered, else -2
pub record Delivery (n : ℕ) (s v : List ℕ) : Type 0 where
  pub yes : ((xics_step (deliverable n) s v).answer ≡ done 1) ↔ Delivers n s
  pub no : (w : ℕ) → In (record { number = n; word = w }) (table source s) → (Delivers n s → ⊥) → (xics_step (deliverable n) s v).answer ≡ done 0
  pub unknown : ((w : ℕ) → In (record { number = n; word = w }) (table source s) → ⊥) → (xics_step (deliverable n) s v).answer ≡ refusal 2

-- §14.14: `any`, `tests`, `makes`, `leaves`, `stays`, `accepts`. §14.12: `rules`, `zeros`. §14.15: `words`, `others`, `asks`. §14.16: `delivery`
pub record XicsProved : Type 0 where
  pub any : (c : XicsCall) (s v : List ℕ) → Answers s v (xics_step c s v)
  pub tests : (c : XicsCall) (s v : List ℕ) → tested c ≡ true → Tests c s v
  pub makes : (s v : List ℕ) → Bytes s → length s ≡ size → Made s v
  pub leaves : (s v : List ℕ) → drop 16 (xics_step xics_setup s v).state ≡ drop 16 s
  pub stays : (c : XicsCall) (s v : List ℕ) → Bytes v → SoundXics s → SoundXics (xics_step c s v).state
  pub accepts : (n : ℕ) (s v : List ℕ) → SoundXics s → Accepts n s v
  pub rules : (s : List ℕ) → (sound_xics s ≡ true) ↔ Rules s
  pub zeros : sound_xics (replicate size 0) ≡ true
  pub words : (n : ℕ) (s v u : List ℕ) → Bytes s → Bytes v → length u ≡ 8 → Words n s v u
  pub others : (t n k m : ℕ) (c q : XicsCall) (s v u : List ℕ) → Bytes s → Bytes v → Names t n c → Gets k m q → (t ≡ k → n ≡ m → ⊥)
      → Alike (xics_step q (xics_step c s v).state u) (xics_step q s u)
  pub asks : (n : ℕ) (s v : List ℕ) → Still n s v
  pub delivery : (n : ℕ) (s v : List ℕ) → SoundXics s → Delivery n s v
