-- Guests that several runs begin with. Memory starts at 0x40000000.
use Rattle.std.specs.Prelude.{ℕ, List, [], ◌∷◌, ◌++◌}
use Rattle.answers.specs.Answer.{done}
use Rattle.step.specs.Step.{setup, vcpu_add, vgic_set, its_set, its_place}
use Rattle.step.specs.Run.{Row, ◌⇒◌, with, long}

-- §1.4, §3.1, §3.5, §3.11, §5.2: the calls that make a guest with two VCPUs and both INITs done
abbrev pub its : ℕ → List Row
its len =
    setup 40 0x40000000 len ⇒ done 0
    ∷ vcpu_add 5 ⇒ done 0
    ∷ vcpu_add 6 ⇒ done 0
    ∷ with (vgic_set 0 2) (long 0x08000000) (done 0)
    ∷ with (vgic_set 0 3) (long 0x08080000) (done 0)
    ∷ vgic_set 4 0 ⇒ done 0
    ∷ with (its_set 0 4) (long 0x09000000) (done 0)
    ∷ its_set 4 0 ⇒ done 0
    ∷ []

-- §5.4: the same, and its tables placed, a page each
abbrev pub placed : ℕ → List Row
placed len = its len ++ its_place 0x40000000 1 0x40001000 1 ⇒ done 0 ∷ []
