-- §14.9 to §14.11: words.
use Rattle.std.specs.Prelude.{List, [], ◌∷◌}
use Rattle.answers.specs.Answer.{refusal, done}
use Rattle.xics.specs.XicsStep.{xics_setup, add_server, add_source, set_source, set_server, get_source, get_server}
use Rattle.xicsruns.specs.XicsRun.{Turn, ◌⇒◌, set, stays, gives}

-- Notation: servers 1 and 2, sources 7 and 8 of server 1
abbrev pub registered : List Turn
registered =
    xics_setup ⇒ done 0
    ∷ add_server 1 ⇒ done 0
    ∷ add_server 2 ⇒ done 0
    ∷ add_source 7 1 ⇒ done 0
    ∷ add_source 8 1 ⇒ done 0
    ∷ []

-- §14.9: width, number, then the word: bit 43, or a destination that is no server, masked and at priority 255 too
abbrev pub sources : List Turn
sources =
    stays (set_source 9) 4 (refusal 14)
    ∷ stays (set_source 7) 16 (refusal 14)
    ∷ set (set_source 9) 0x0000080000000003 (refusal 2)
    ∷ set (set_source 7) 0x0000080000000001 (refusal 22)
    ∷ set (set_source 7) 0x8000000000000001 (refusal 22)
    ∷ set (set_source 7) 0x000002FF00000003 (refusal 22)
    ∷ gives (get_source 7) (done 0) 0x000002FF00000001
    ∷ set (set_source 7) 0x000007AB00000002 (done 0)
    ∷ gives (get_source 7) (done 0) 0x000007AB00000002
    -- the others stay
    ∷ gives (get_source 8) (done 0) 0x000002FF00000001
    ∷ gives (get_server 1) (done 0) 0x00000000FFFF0000
    ∷ gives (get_server 2) (done 0) 0x00000000FFFF0000
    ∷ []

-- §14.10: bits 15:0 come back as 0; source number and pending priority, both ways; any source number from 1 on
abbrev pub servers : List Turn
servers =
    stays (set_server 9) 7 (refusal 14)
    ∷ stays (set_server 1) 9 (refusal 14)
    ∷ set (set_server 9) 0 (refusal 2)
    ∷ set (set_server 1) 0x0000000000000000 (refusal 22)
    ∷ set (set_server 1) 0x0000000000FE0000 (refusal 22)
    ∷ set (set_server 1) 0x0000000700FF0000 (refusal 22)
    ∷ gives (get_server 1) (done 0) 0x00000000FFFF0000
    ∷ set (set_server 1) 0x0000000000FFFFFF (done 0)
    ∷ gives (get_server 1) (done 0) 0x0000000000FF0000
    ∷ set (set_server 2) 0x33FFFFFF12FE8001 (done 0)
    ∷ gives (get_server 2) (done 0) 0x33FFFFFF12FE0000
    ∷ set (set_server 2) 0xFF00000200000000 (done 0)
    ∷ gives (get_server 2) (done 0) 0xFF00000200000000
    -- the others stay
    ∷ gives (get_server 1) (done 0) 0x0000000000FF0000
    ∷ gives (get_source 7) (done 0) 0x000002FF00000001
    ∷ gives (get_source 8) (done 0) 0x000002FF00000001
    ∷ []
