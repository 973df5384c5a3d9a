-- Tables as words, written out from part 6 of docs/DEFINITION.md alone, and the memory that holds them.
use Rattle.std.specs.Prelude.{ℕ, zero, suc, ◌+◌, ◌-◌, ◌*◌, ◌/◌, ◌^◌, List, [], ◌∷◌, ◌++◌, ℤ}
use Rattle.answers.specs.Answer.{done}
use Rattle.step.specs.Run.{long}

-- §6.2: an entry with V set; [48:5] are the ITT's bits 51 to 8, so that an ITT divisible by 256 stands there as ITT / 8
abbrev pub device : ℕ → ℕ → ℕ → ℕ
device next itt bits = 2 ^ 63 + next * 2 ^ 49 + itt / 8 + (bits - 1)

-- §6.3: an entry with V set and [62:52] 0
abbrev pub collection : ℕ → ℕ → ℕ
collection pe icid = 2 ^ 63 + pe * 2 ^ 16 + icid

-- §6.4: an event's entry
abbrev pub event : ℕ → ℕ → ℕ → ℕ
event next lpi icid = next * 2 ^ 48 + lpi * 2 ^ 16 + icid

-- §6.1, §6.5: n entries of 8 bytes: the words, then zeros, which are blank in each table
abbrev pub entries : ℕ → List ℕ → List ℕ
entries zero ws = []
entries (suc n) [] = long 0 ++ entries n []
entries (suc n) (w ∷ ws) = long w ++ entries n ws

-- Notation: the words of 0 to n - 1
abbrev pub words : ℕ → (ℕ → ℕ) → List ℕ
words zero f = []
words (suc n) f = words n f ++ (f n ∷ [])

-- §5.4: a page, that is 512 entries, for the device table, one for the collection table, and n entries behind them
abbrev pub image : ℕ → List ℕ → List ℕ → List ℕ → List ℕ
image n ds cs es = entries 512 ds ++ entries 512 cs ++ entries n es

-- §13.6: the answer that names a fault: its number (§13.4), the table (§13.5), the device of an ITT, the entry
abbrev pub names : ℕ → ℕ → ℕ → ℕ → ℤ
names fault table device entry = done (fault * 2 ^ 40 + table * 2 ^ 32 + device * 2 ^ 16 + entry)
