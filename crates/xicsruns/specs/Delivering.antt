-- §14.11: deliverable. Servers 1 and 2, sources 7 and 8 of server 1.
use Rattle.std.specs.Prelude.{List, [], ◌∷◌}
use Rattle.answers.specs.Answer.{refusal, done}
use Rattle.xics.specs.XicsStep.{set_source, set_server, deliverable}
use Rattle.xicsruns.specs.XicsRun.{Turn, ◌⇒◌, set}

abbrev pub delivering : List Turn
delivering =
    deliverable 9 ⇒ refusal 2
    ∷ deliverable 1 ⇒ refusal 2
    ∷ deliverable 0x100000 ⇒ refusal 2
    -- fresh: not pending, masked
    ∷ deliverable 7 ⇒ done 0
    -- server 1: current priority 5; a pending priority and a source number that play no part
    ∷ set (set_server 1) 0x0500000803FF0000 (refusal 22)
    ∷ set (set_server 1) 0x0500000803010000 (done 0)
    -- source 7: pending, not masked: priority 4 is below 5; 5 and 6 are not
    ∷ set (set_source 7) 0x0000040400000001 (done 0)
    ∷ deliverable 7 ⇒ done 1
    ∷ set (set_source 7) 0x0000040500000001 (done 0)
    ∷ deliverable 7 ⇒ done 0
    ∷ set (set_source 7) 0x0000040600000001 (done 0)
    ∷ deliverable 7 ⇒ done 0
    -- level plays no part
    ∷ set (set_source 7) 0x0000050400000001 (done 0)
    ∷ deliverable 7 ⇒ done 1
    -- masked, with level and without; not pending
    ∷ set (set_source 7) 0x0000060400000001 (done 0)
    ∷ deliverable 7 ⇒ done 0
    ∷ set (set_source 7) 0x0000070400000001 (done 0)
    ∷ deliverable 7 ⇒ done 0
    ∷ set (set_source 7) 0x0000010400000001 (done 0)
    ∷ deliverable 7 ⇒ done 0
    -- the destination that the word names now: server 2, whose current priority is 0; then 255
    ∷ set (set_source 7) 0x0000040400000002 (done 0)
    ∷ deliverable 7 ⇒ done 0
    ∷ set (set_server 2) 0xFF00000000FF0000 (done 0)
    ∷ deliverable 7 ⇒ done 1
    ∷ set (set_source 7) 0x000004FF00000002 (done 0)
    ∷ deliverable 7 ⇒ done 0
    -- source 8 by itself
    ∷ deliverable 8 ⇒ done 0
    ∷ []
