-- One bank of 32 interrupts (§4.1): what a call does to its three words.
use Rattle.std.specs.Prelude.{ℕ, Bool, ◌&&◌, eqb}
use Rattle.lists.specs.Rows.{choose}
use Rattle.fields.specs.Field.{get_field, put_field}
use Rattle.guest.specs.declared.Bank.{Bank}

-- Notation: bit i of a word
abbrev pub bit : ℕ → ℕ → ℕ
bit word i = get_field word i 1

-- §4.1: interrupt i is edge where its trigger bit is set, and level where it is clear
abbrev pub is_edge : Bank → ℕ → Bool
is_edge b i = eqb (bit b.trigger i) 1

-- Notation: a bank with one word replaced
abbrev pub with_latch : ℕ → Bank → Bank
with_latch word b = record { latch = word; level = b.level; trigger = b.trigger }

abbrev pub with_level : ℕ → Bank → Bank
with_level word b = record { latch = b.latch; level = word; trigger = b.trigger }

abbrev pub with_trigger : ℕ → Bank → Bank
with_trigger word b = record { latch = b.latch; level = b.level; trigger = word }

-- §4.4: pending, 0 or 1: the latch of an edge interrupt, the latch or the level of a level interrupt
unfoldable pub pending : Bank → ℕ → ℕ
pending b i =
    choose (is_edge b i) (bit b.latch i)
    (choose (eqb (bit b.latch i) 1) 1 (bit b.level i))

-- §4.5: the latch of interrupt i made 1, and made 0
unfoldable pub raised : ℕ → Bank → Bank
raised i b = with_latch (put_field b.latch i 1 1) b

unfoldable pub lowered : ℕ → Bank → Bank
lowered i b = with_latch (put_field b.latch i 1 0) b

-- §4.6: whether a line latches: an edge interrupt whose stored level is 0, wherever it came from, goes to 1
abbrev pub rises : ℕ → ℕ → Bank → Bool
rises i level b = is_edge b i && (eqb (bit b.level i) 0 && eqb level 1)

-- §4.6: the level is stored, and a rise is latched by what the bank held before
unfoldable pub lined : ℕ → ℕ → Bank → Bank
lined i level b =
    with_level (put_field b.level i 1 level)
    (choose (rises i level b) (raised i b) b)

-- §4.17: the bank as it is stored where it has so many interrupts: of each word as many bits, from the lowest on
unfoldable pub trimmed : ℕ → Bank → Bank
trimmed bits b = record {
  latch = get_field b.latch 0 bits;
  level = get_field b.level 0 bits;
  trigger = get_field b.trigger 0 bits;
}
