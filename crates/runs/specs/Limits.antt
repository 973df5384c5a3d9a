-- Two limits of §1.6: 64 VCPUs and 32 regions, and one more of each.
use Rattle.std.specs.Prelude.{◌+◌, ◌*◌, List, [], ◌∷◌, ◌++◌}
use Rattle.answers.specs.Answer.{refusal, done}
use Rattle.step.specs.Step.{setup, vcpu_add, vgic_set}
use Rattle.step.specs.Run.{Row, ◌⇒◌, with, many, long}

-- §1.6, §3.1: a 65th VCPU
abbrev pub vcpu_limit : List Row
vcpu_limit =
    (setup 40 0x40000000 0x4000 ⇒ done 0 ∷ [])
    ++ many 64 (λ k. vcpu_add k ⇒ done 0)
    -- §3.1: a taken affinity first; then the limit
    ++ vcpu_add 63 ⇒ refusal 22
    ∷ vcpu_add 64 ⇒ refusal 12
    ∷ []

-- §1.6, §3.8: a 33rd region; regions of one redistributor, one behind the other
abbrev pub region_limit : List Row
region_limit =
    (setup 40 0x40000000 0x4000 ⇒ done 0 ∷ [])
    ++ many 32 (λ k. with (vgic_set 0 5) (long (0x0010000010000000 + 131072 * k + k)) (done 0))
    -- §3.8: another index, and no count, come first; then the limit; an end above 2^p comes after it
    ++ with (vgic_set 0 5) (long 0x0010010000000021) (refusal 22)
    ∷ with (vgic_set 0 5) (long 0x0000010000010020) (refusal 22)
    ∷ with (vgic_set 0 5) (long 0x0010010000000020) (refusal 12)
    ∷ []

-- Notation: the two lists, one behind the other, each from set-up on
abbrev pub limits : List Row
limits = vcpu_limit ++ region_limit
