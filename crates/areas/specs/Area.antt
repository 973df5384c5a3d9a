-- Areas of addresses: a start and a size in bytes.
use Rattle.std.specs.Prelude.{ℕ, ◌+◌, min, max, Bool, true, ◌&&◌, not, List, [], ◌∷◌, length, take, ltb, leb}
use Rattle.lists.specs.Rows.{find_ix}
use Rattle.areas.specs.declared.Area.{Area}
use Rattle.areas.specs.declared.Areas.{Areas}

-- Notation: the first address past an area; a sum of numbers, which does not wrap (§2.10)
abbrev pub end_of : Area → ℕ
end_of a = a.start + a.size

-- §3.4: at least one byte belongs to both, since the later start is before the earlier end; proofs/Laws has it with the byte itself
unfoldable pub overlaps : Area → Area → Bool
overlaps a b = ltb (max a.start b.start) (min (end_of a) (end_of b))

-- §2.10: an end exactly at the bound is allowed
unfoldable pub ends_by : ℕ → Area → Bool
ends_by limit a = leb (end_of a) limit

-- §2.10: inside another as a whole, as §5.4, §5.6 and §9.5 ask of tables in memory; the two may end together
unfoldable pub inside : Area → Area → Bool
inside whole a = leb whole.start a.start && leb (end_of a) (end_of whole)

-- §3.4: the index of the first of a list that an area overlaps, or the length
unfoldable pub struck : List Area → Area → ℕ
struck l a = find_ix (overlaps a) l

-- §3.4: an area overlaps one of a list
unfoldable pub strikes : List Area → Area → Bool
strikes l a = ltb (struck l a) (length l)

-- §3.4: no two of a list overlap
unfoldable pub apart : List Area → Bool
apart [] = true
apart (a ∷ l) = not (strikes l a) && apart l

-- Inner: the areas of a table of the code
abbrev pub areas : Areas → List Area
areas t = take t.count t.rows
