-- The forms of a device (§5.6) and of an LPI (§5.10), as the code of the commands tests them.
use Rattle.std.specs.Prelude.{ℕ, ◌%◌, Bool, ◌&&◌, ltb, leb, eqb}
use Rattle.mapping.specs.declared.Device.{Device}

-- Inner: the first three tests of §5.6 as one, since each is refused with -22: an ID below the table's entries, 1 to 16 bits, an ITT that
-- 256 divides
abbrev pub is_formed : ℕ → Device → Bool
is_formed entries d = ltb d.id entries && ((leb 1 d.bits && leb d.bits 16) && eqb (d.itt % 256) 0)

-- Inner: an LPI that §5.10 takes
abbrev pub is_lpi : ℕ → Bool
is_lpi lpi = leb 8192 lpi && leb lpi 65535
