-- A table of slots that may be blank, with a distance in each: the scan, where a slot leads, the path along the slots (all §9.6), and the
-- relation that says when a list of IDs is chained (§8.3 to §8.6). One theory for device tables and for ITTs.
use Rattle.std.specs.Prelude.{ℕ, zero, suc, ◌+◌, ◌-◌, ◌≤◌, ◌<◌, min, ◌≡◌, Bool, true, false, List, [], ◌∷◌, ltb, leb, eqb}
use Rattle.lists.specs.Rows.{choose}
use Rattle.chains.specs.declared.Next.{Next}
use Rattle.chains.specs.declared.Next.TheVariants.{Last, At, Bad}

-- §7.2: the cap of a table: the largest distance that its entries hold, and it stands for every larger one too; or none
pub data Cap : Type 0 where
  at_most : ℕ → Cap
  uncapped : Cap

-- §7.2: what an entry holds for a distance
abbrev pub capped : Cap → ℕ → ℕ
capped (at_most n) d = min d n
capped uncapped d = d

-- §9.6: whether a next is the distance itself, and stands for no larger one
abbrev pub exact : Cap → ℕ → Bool
exact (at_most n) d = ltb d n
exact uncapped d = true

-- §6.5, §7.2: a table as far as its links go: the number of entries, the cap, which entries are valid, and the next of each
pub record Slots : Type 0 where
  pub size : ℕ
  pub cap : Cap
  pub valid : ℕ → Bool
  pub next : ℕ → ℕ

-- Notation: the first index from i on, within `left` of it, at which the test holds; or i + left
unfoldable pub scan : (ℕ → Bool) → ℕ → ℕ → ℕ
scan valid zero i = i
scan valid (suc left) i = let r = scan valid left (suc i) in choose (valid i) i r

-- §9.6: the first valid entry at or behind i, or the number of entries where there is none
unfoldable pub first_from : Slots → ℕ → ℕ
first_from T i = scan T.valid (T.size - i) i

-- §9.6: where the next d of the entry at i leads; Bad is the fault. A landing past the last entry is one at the cap too. Without a cap
-- every next is exact, and nothing is searched for
unfoldable pub following : Slots → ℕ → Next
following T i =
    let d = T.next i in
    let k = first_from T (i + d) in
    choose (eqb d 0) Last
    (choose (leb T.size (i + d)) Bad
    (choose (exact T.cap d)
    (choose (T.valid (i + d)) (At (i + d)) Bad)
    (choose (ltb k T.size) (At k) Bad)))

-- §9.6: the entries along the way: the last one, one whose next is a fault, or one and those after it
pub data Path : Type 0 where
  final broken : ℕ → Path
  onto : ℕ → Path → Path

abbrev pub onward : ℕ → (ℕ → Path) → Next → Path
onward i rest Last = final i
onward i rest Bad = broken i
onward i rest (At j) = onto i (rest j)

-- §9.6: the way from the entry at i. A next that is no fault leads up, so that `fuel` is enough where the entries from i on are no more
unfoldable pub path : Slots → ℕ → ℕ → Path
path T zero i = broken i
path T (suc fuel) i = onward i (path T fuel) (following T i)

-- ---- the relation

-- §8.3, §8.5: every entry from a on and before b is blank
abbrev pub Blank : Slots → ℕ → ℕ → Type 0
Blank T a b = (k : ℕ) → a ≤ k → k < b → T.valid k ≡ false

-- §8.4, §8.5: from one ID to the following one: its entry is valid, next is as §7.2 has it, and where that is less than the distance, blanks
-- stand from the landing on
pub record Link (T : Slots) (i j : ℕ) : Type 0 where
  pub rises : i < j
  pub inside : j < T.size
  pub valid : T.valid j ≡ true
  pub next : T.next i ≡ capped T.cap (j - i)
  pub gap : T.next i < j - i → Blank T (i + T.next i) j

-- §8.4: the same along all IDs from i on; the last has next 0
abbrev pub Links : Slots → ℕ → List ℕ → Type 0
Links T i [] = T.next i ≡ 0
Links T i (j ∷ js) = Link T i j × Links T j js

-- Inner: the path along these IDs
abbrev pub whole : ℕ → List ℕ → Path
whole i [] = final i
whole i (j ∷ js) = onto i (whole j js)
