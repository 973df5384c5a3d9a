-- The refusals of the calls on a sound XICS that have more than one, in their order: the errno of the first that applies, and 0 where none
-- does.
use Rattle.std.specs.Prelude.{ℕ, ◌^◌, ◌||◌, not, List, length, leb, eqb}
use Rattle.lists.specs.Rows.{choose}
use Rattle.xicswords.specs.Word.{paired}
use Rattle.xicsrows.specs.XicsLayout.{Row}
use Rattle.xicsrows.specs.Registered.{registered}
use Rattle.xicsrules.specs.Sound.{takes}

-- §14.7: registering server n
unfoldable pub server_fault : ℕ → List Row → ℕ
server_fault n servers =
    choose (leb (2 ^ 32) n) 22
    (choose (registered n servers) 17
    (choose (leb 64 (length servers)) 12
    0))

-- §14.8: registering source n with server d
unfoldable pub source_fault : ℕ → ℕ → List Row → List Row → ℕ
source_fault n d servers sources =
    choose (leb (2 ^ 20) n || leb (2 ^ 32) d) 22
    (choose (registered n sources) 17
    (choose (not (registered d servers)) 2
    (choose (leb 64 (length sources)) 12
    0)))

-- Inner: the two refusals of §14.11, each by itself: of a width, and of a number
abbrev pub width_fault : ℕ → ℕ
width_fault width = choose (not (eqb width 8)) 14 0

abbrev pub number_fault : ℕ → List Row → ℕ
number_fault n rows = choose (not (registered n rows)) 2 0

-- §14.11: a get of the word of n among these rows, into a value of the width; the first two of §14.9 and §14.10
unfoldable pub word_fault : ℕ → ℕ → List Row → ℕ
word_fault n width rows =
    choose (not (eqb width 8)) 14
    (choose (not (registered n rows)) 2
    0)

-- §14.9: setting the word of source n
unfoldable pub source_word_fault : ℕ → ℕ → ℕ → List Row → List Row → ℕ
source_word_fault n width w servers sources =
    choose (not (eqb width 8)) 14
    (choose (not (registered n sources)) 2
    (choose (not (takes servers w)) 22
    0))

-- §14.10: setting the word of server n
unfoldable pub server_word_fault : ℕ → ℕ → ℕ → List Row → ℕ
server_word_fault n width v servers =
    choose (not (eqb width 8)) 14
    (choose (not (registered n servers)) 2
    (choose (not (paired v)) 22
    0))
