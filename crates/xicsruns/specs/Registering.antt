-- §14.2 to §14.8, and §14.12: lengths, set-up, registering.
use Rattle.std.specs.Prelude.{ℕ, ◌+◌, List, [], ◌∷◌}
use Rattle.answers.specs.Answer.{refusal, done}
use Rattle.xics.specs.XicsStep.{xics_len, xics_setup, add_server, add_source, set_source, set_server, get_source, get_server, deliverable}
use Rattle.xicsruns.specs.XicsRun.{Turn, ◌⇒◌, set, stays, gives, rows, laid}

-- §14.2, §14.3, §14.4: another length is -14 for every call, set-up too
abbrev pub wrong_length : List Turn
wrong_length =
    xics_len ⇒ done 2064
    ∷ xics_setup ⇒ refusal 14
    ∷ add_server 1 ⇒ refusal 14
    ∷ add_source 1 1 ⇒ refusal 14
    ∷ set (set_source 1) 0 (refusal 14)
    ∷ set (set_server 1) 0 (refusal 14)
    ∷ stays (get_source 1) 8 (refusal 14)
    ∷ stays (get_server 1) 8 (refusal 14)
    ∷ deliverable 1 ⇒ refusal 14
    ∷ []

-- §14.3: bytes that are not sound are -22, before the width of a value and before a number; §14.4: set-up does not look at them
abbrev pub not_sound : List Turn
not_sound =
    xics_len ⇒ done 2064
    ∷ add_server 0x100000000 ⇒ refusal 22
    ∷ add_source 1 1 ⇒ refusal 22
    ∷ stays (set_source 1) 7 (refusal 22)
    ∷ stays (set_server 1) 7 (refusal 22)
    ∷ stays (get_source 1) 7 (refusal 22)
    ∷ stays (get_server 1) 7 (refusal 22)
    ∷ deliverable 1 ⇒ refusal 22
    ∷ xics_setup ⇒ done 0
    ∷ []

-- §14.7, §14.8: the bounds of the numbers, 0, what is repeated, what is not there, and the order of these
abbrev pub registering : List Turn
registering =
    add_server 0x100000000 ⇒ refusal 22
    ∷ add_server 0xFFFFFFFF ⇒ done 0
    ∷ add_server 0xFFFFFFFF ⇒ refusal 17
    ∷ add_server 0 ⇒ done 0
    ∷ add_source 0x100000 0 ⇒ refusal 22
    ∷ add_source 5 0x100000000 ⇒ refusal 22
    ∷ add_source 0x100000 7 ⇒ refusal 22
    ∷ add_source 5 7 ⇒ refusal 2
    ∷ add_source 5 0 ⇒ done 0
    ∷ add_source 5 0 ⇒ refusal 17
    ∷ add_source 5 7 ⇒ refusal 17
    ∷ add_source 5 0x100000000 ⇒ refusal 22
    ∷ add_source 0xFFFFF 0xFFFFFFFF ⇒ done 0
    ∷ add_source 0 0 ⇒ done 0
    -- §14.1: one number may name a source and a server
    ∷ add_server 5 ⇒ done 0
    -- the fresh words
    ∷ gives (get_server 0) (done 0) 0x00000000FFFF0000
    ∷ gives (get_server 5) (done 0) 0x00000000FFFF0000
    ∷ gives (get_source 5) (done 0) 0x000002FF00000000
    ∷ gives (get_source 0xFFFFF) (done 0) 0x000002FFFFFFFFFF
    -- §14.11: the width before the number
    ∷ stays (get_source 9) 7 (refusal 14)
    ∷ stays (get_source 9) 8 (refusal 2)
    ∷ stays (get_server 9) 9 (refusal 14)
    ∷ stays (get_server 9) 8 (refusal 2)
    ∷ []

-- §14.2: bytes that are all 0: nothing is registered
abbrev pub from_zeros : List Turn
from_zeros =
    deliverable 0 ⇒ refusal 2
    ∷ add_server 0 ⇒ done 0
    ∷ []

-- Notation: a servers and b sources, of 0 on, with fresh words
abbrev pub many : ℕ → ℕ → List ℕ
many a b = laid a b (rows a (λ n. 0x00000000FFFF0000)) (rows b (λ n. 0x000002FF00000000 + n))

-- §14.7, §14.8: the 64th of each, from 63 servers and 62 sources; then a 65th
abbrev pub last : List Turn
last =
    add_server 63 ⇒ done 0
    ∷ add_server 64 ⇒ refusal 12
    ∷ add_source 62 63 ⇒ done 0
    ∷ add_source 63 63 ⇒ done 0
    ∷ add_source 64 63 ⇒ refusal 12
    ∷ gives (get_source 63) (done 0) 0x000002FF0000003F
    ∷ []

-- §14.7, §14.8: with 64 of each, a 65th behind every other refusal
abbrev pub limits : List Turn
limits =
    add_server 64 ⇒ refusal 12
    ∷ add_server 63 ⇒ refusal 17
    ∷ add_server 0x100000000 ⇒ refusal 22
    ∷ add_source 64 63 ⇒ refusal 12
    ∷ add_source 64 64 ⇒ refusal 2
    ∷ add_source 63 64 ⇒ refusal 17
    ∷ add_source 0x100000 63 ⇒ refusal 22
    ∷ add_source 64 0x100000000 ⇒ refusal 22
    ∷ []

-- §14.2, §14.4: registering and setting on bytes of ones, and the bytes that these calls leave
abbrev pub made : List Turn
made =
    xics_setup ⇒ done 0
    ∷ add_server 5 ⇒ done 0
    ∷ add_source 6 5 ⇒ done 0
    ∷ add_server 7 ⇒ done 0
    ∷ set (set_server 5) 0x0900000300010203 (done 0)
    ∷ []

abbrev pub made_of : List ℕ
made_of = laid 2 1 (5 ∷ 0x0900000300010000 ∷ 7 ∷ 0x00000000FFFF0000 ∷ []) (6 ∷ 0x000002FF00000005 ∷ [])
