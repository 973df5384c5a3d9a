-- Part 3. 2^40 is 0x10000000000; the distributor takes 0x10000 bytes, the ITS frame and a redistributor 0x20000 (§3.3).
use Rattle.std.specs.Prelude.{List, [], ◌∷◌, ◌++◌}
use Rattle.answers.specs.Answer.{refusal, done}
use Rattle.step.specs.Step.{setup, vcpu_add, redist_base, vgic_set, its_set, vgic_get, its_get}
use Rattle.step.specs.Run.{Row, ◌⇒◌, with, writes, word, long}

-- Two faults at once, where their numbers differ: the row's comment names the later one in brackets.

-- §3.5, §3.6, §3.11: the single run, before INIT
abbrev pub single : List Row
single =
    setup 40 0x40000000 0x4000 ⇒ done 0
    -- §3.11: no VCPU (and no distributor)
    ∷ vgic_set 4 0 ⇒ refusal 19
    -- §3.1: an affinity that another VCPU has; the largest affinity
    ∷ vcpu_add 5 ⇒ done 0
    ∷ vcpu_add 6 ⇒ done 0
    ∷ vcpu_add 5 ⇒ refusal 22
    ∷ vcpu_add 0xFFFFFFFF ⇒ done 0
    -- §3.5: the distributor: not divisible by 65,536 (and above 2^p); above 2^p; up to 2^p (§2.10); set already (and not divisible). §3.9:
    -- its get
    ∷ with (vgic_set 0 2) (long 0x10000000001) (refusal 22)
    ∷ with (vgic_set 0 2) (long 0x10000000000) (refusal 7)
    ∷ with (vgic_set 0 2) (long 0xFFFFFF0000) (done 0)
    ∷ with (vgic_set 0 2) (long 0x10000000001) (refusal 17)
    ∷ writes (vgic_get 0 2) (long 7) (done 0) (long 0xFFFFFF0000)
    -- §3.11: neither a single run nor a region
    ∷ vgic_set 4 0 ⇒ refusal 6
    -- §3.5: the single run: the same; above 2^p (and over the distributor); over the distributor; set already. §3.9: its get
    ∷ with (vgic_set 0 3) (long 0x10000000001) (refusal 22)
    ∷ with (vgic_set 0 3) (long 0xFFFFFF0000) (refusal 7)
    ∷ with (vgic_set 0 3) (long 0xFFFFFE0000) (refusal 22)
    ∷ with (vgic_set 0 3) (long 0x08080000) (done 0)
    ∷ with (vgic_set 0 3) (long 0x10000000001) (refusal 17)
    ∷ writes (vgic_get 0 3) (long 7) (done 0) (long 0x08080000)
    -- §3.5: the ITS frame: the same; over the run from either side. §3.6: it may stand in the run's later part, which does not count before
    -- INIT. §3.9: its get
    ∷ with (its_set 0 4) (long 0x10000000001) (refusal 22)
    ∷ with (its_set 0 4) (long 0xFFFFFF0000) (refusal 7)
    ∷ with (its_set 0 4) (long 0x08070000) (refusal 22)
    ∷ with (its_set 0 4) (long 0x08090000) (refusal 22)
    ∷ with (its_set 0 4) (long 0x080A0000) (done 0)
    ∷ with (its_set 0 4) (long 0x10000000001) (refusal 17)
    ∷ writes (its_get 0 4) (long 7) (done 0) (long 0x080A0000)
    -- §3.8: a region while the run stands (and above 2^p). §3.10: its get (and none there)
    ∷ with (vgic_set 0 5) (long 0x0010010000000000) (refusal 22)
    ∷ with (vgic_get 0 5) (long 0) (refusal 22)
    -- §3.11: the whole run is over the ITS frame
    ∷ vgic_set 4 0 ⇒ refusal 6
    -- §3.11: the whole run ends above 2^p
    ∷ setup 40 0x40000000 0x4000 ⇒ done 0
    ∷ vcpu_add 0 ⇒ done 0
    ∷ vcpu_add 1 ⇒ done 0
    ∷ with (vgic_set 0 2) (long 0x08000000) (done 0)
    ∷ with (vgic_set 0 3) (long 0xFFFFFE0000) (done 0)
    ∷ vgic_set 4 0 ⇒ refusal 6
    ∷ []

-- §3.8, §3.10 to §3.13: regions; §3.14: the interrupt count after INIT
abbrev pub regions : List Row
regions =
    setup 40 0x40000000 0x4000 ⇒ done 0
    ∷ vcpu_add 0 ⇒ done 0
    ∷ vcpu_add 1 ⇒ done 0
    -- §3.8: flags (and above 2^p); count 0 (§12.12; and above 2^p); index 1 where no region stands (and above 2^p); above 2^p
    ∷ with (vgic_set 0 5) (long 0x0010010000001000) (refusal 22)
    ∷ with (vgic_set 0 5) (long 0x0000010000010000) (refusal 22)
    ∷ with (vgic_set 0 5) (long 0x0010010000000001) (refusal 22)
    ∷ with (vgic_set 0 5) (long 0x0010010000000000) (refusal 7)
    -- §3.8: one redistributor at 0x08080000; the next over it; one more that ends at 2^p (§2.10); the next above 2^p (and over that)
    ∷ with (vgic_set 0 5) (long 0x0010000008080000) (done 0)
    ∷ with (vgic_set 0 5) (long 0x0010000008080001) (refusal 22)
    ∷ with (vgic_set 0 5) (long 0x001000FFFFFE0001) (done 0)
    ∷ with (vgic_set 0 5) (long 0x002000FFFFFE0002) (refusal 7)
    -- §3.5: the single run where regions stand (and above 2^p). §3.9: its get (and not set)
    ∷ with (vgic_set 0 3) (long 0x10000000000) (refusal 22)
    ∷ with (vgic_get 0 3) (long 7) (refusal 22)
    -- §3.10: of the lent value only the index is read, and flags are 0; no region 2
    ∷ writes (vgic_get 0 5) (long 0xFFFFFFFFFFFFF001) (done 0) (long 0x001000FFFFFE0001)
    ∷ with (vgic_get 0 5) (long 2) (refusal 2)
    -- §3.11: places for both VCPUs, but no distributor
    ∷ vgic_set 4 0 ⇒ refusal 6
    -- §3.5: the distributor over a region; elsewhere
    ∷ with (vgic_set 0 2) (long 0x08080000) (refusal 22)
    ∷ with (vgic_set 0 2) (long 0x08000000) (done 0)
    -- §3.11: two places for three VCPUs; then six; done earlier
    ∷ vcpu_add 2 ⇒ done 0
    ∷ vgic_set 4 0 ⇒ refusal 6
    ∷ with (vgic_set 0 5) (long 0x00400000080A0002) (done 0)
    ∷ vgic_set 4 0 ⇒ done 0
    ∷ vgic_set 4 0 ⇒ done 0
    -- §3.1: no VCPU after INIT (and affinity taken)
    ∷ vcpu_add 0 ⇒ refusal 16
    -- §3.12: where each VCPU's frame is. §3.13: no VCPU 3
    ∷ redist_base 0 ⇒ done 0x08080000
    ∷ redist_base 1 ⇒ done 0xFFFFFE0000
    ∷ redist_base 2 ⇒ done 0x080A0000
    ∷ redist_base 3 ⇒ refusal 22
    -- §3.8: a region after INIT
    ∷ with (vgic_set 0 5) (long 0x0010000009000003) (done 0)
    -- §3.14: the count after INIT: a bad value (and fixed), a good one
    ∷ with (vgic_set 3 0) (word 63) (refusal 22)
    ∷ with (vgic_set 3 0) (word 64) (refusal 16)
    ∷ []

-- §3.14, §3.15: the interrupt count before INIT; §3.6: the whole single run after it; §5.2: ITS INIT
abbrev pub whole : List Row
whole =
    setup 40 0x40000000 0x4000 ⇒ done 0
    -- §3.14: below 64, between two steps of 32, above 1,024. §3.15: get; the refused ones set nothing, 1,024 is taken
    ∷ with (vgic_set 3 0) (word 32) (refusal 22)
    ∷ with (vgic_set 3 0) (word 80) (refusal 22)
    ∷ with (vgic_set 3 0) (word 1056) (refusal 22)
    ∷ writes (vgic_get 3 0) (word 0) (done 0) (word 64)
    ∷ with (vgic_set 3 0) (word 1024) (done 0)
    -- §3.14: set before: a good value, a bad one (and fixed)
    ∷ with (vgic_set 3 0) (word 64) (refusal 16)
    ∷ with (vgic_set 3 0) (word 63) (refusal 22)
    ∷ writes (vgic_get 3 0) (word 0) (done 0) (word 1024)
    -- §3.14: 64, which a fresh guest has, counts as set too
    ∷ setup 40 0x40000000 0x4000 ⇒ done 0
    ∷ with (vgic_set 3 0) (word 64) (done 0)
    ∷ with (vgic_set 3 0) (word 64) (refusal 16)
    ∷ with (vgic_set 3 0) (word 96) (refusal 16)
    ∷ vcpu_add 0 ⇒ done 0
    ∷ vcpu_add 1 ⇒ done 0
    ∷ vcpu_add 2 ⇒ done 0
    ∷ with (vgic_set 0 2) (long 0x08000000) (done 0)
    ∷ with (vgic_set 0 3) (long 0x08080000) (done 0)
    -- §5.2: ITS INIT before the VGIC's; after it; done earlier. The ITS frame begins where the whole run ends, which is no overlap (§3.4).
    ∷ with (its_set 0 4) (long 0x080E0000) (done 0)
    ∷ its_set 4 0 ⇒ refusal 6
    ∷ vgic_set 4 0 ⇒ done 0
    ∷ its_set 4 0 ⇒ done 0
    ∷ its_set 4 0 ⇒ done 0
    -- §3.12: the single run counts as one region
    ∷ redist_base 2 ⇒ done 0x080C0000
    ∷ setup 40 0x40000000 0x4000 ⇒ done 0
    ∷ vcpu_add 0 ⇒ done 0
    ∷ vcpu_add 1 ⇒ done 0
    ∷ with (vgic_set 0 2) (long 0x08000000) (done 0)
    ∷ with (vgic_set 0 3) (long 0x08080000) (done 0)
    ∷ vgic_set 4 0 ⇒ done 0
    -- §5.2: ITS INIT without the ITS base
    ∷ its_set 4 0 ⇒ refusal 6
    -- §3.6: over the run's second redistributor, which counts after INIT; behind it
    ∷ with (its_set 0 4) (long 0x080A0000) (refusal 22)
    ∷ with (its_set 0 4) (long 0x080C0000) (done 0)
    ∷ []

-- Notation: the three lists, one behind the other, each from set-up on
abbrev pub frames : List Row
frames = single ++ regions ++ whole
