-- Part 1: the state's own refusals, set-up, and the fresh guest.
use Rattle.std.specs.Prelude.{List, [], ◌∷◌, ℤ}
use Rattle.answers.specs.Answer.{refusal, done}
use Rattle.step.specs.Step.{state_len, vcpus_start, vcpus_stop, setup, vcpu_add, redist_base, vgic_set, its_set, vgic_get, its_get, irq_pending, irq_set_pending, irq_clear_pending, irq_activate, irq_line, irq_trigger, its_place, its_map_event, its_map_device, its_move, its_map_collection, its_discard, its_lookup, its_unmap_device, its_unmap_collection, its_save, its_restore, its_explain}
use Rattle.step.specs.Run.{Row, ◌⇒◌, with, writes, word, long, zeros}

-- §1.3: every call but set-up, RESET too, with names, widths and numbers that are refused in other ways further on
abbrev pub every : ℤ → List Row
every n =
    vcpu_add 0 ⇒ n
    ∷ vcpus_start ⇒ n
    ∷ vcpus_stop ⇒ n
    ∷ with (vgic_set 9 9) (zeros 3) n
    ∷ with (vgic_get 9 9) (zeros 3) n
    ∷ with (its_set 9 9) (zeros 3) n
    ∷ with (its_set 4 4) (zeros 3) n
    ∷ with (its_get 9 9) (zeros 3) n
    ∷ redist_base 0 ⇒ n
    ∷ irq_pending 0 1024 ⇒ n
    ∷ irq_set_pending 0 1024 ⇒ n
    ∷ irq_clear_pending 0 1024 ⇒ n
    ∷ irq_activate 0 1024 ⇒ n
    ∷ irq_line 0 1024 2 ⇒ n
    ∷ irq_trigger 0 1024 0 ⇒ n
    ∷ its_place 1 0 1 0 ⇒ n
    ∷ its_map_device 0 1 0 ⇒ n
    ∷ its_unmap_device 0 ⇒ n
    ∷ its_map_collection 65536 0 ⇒ n
    ∷ its_unmap_collection 0 ⇒ n
    ∷ its_map_event 0 0 0 0 ⇒ n
    ∷ its_discard 0 0 ⇒ n
    ∷ its_move 0 0 0 ⇒ n
    ∷ its_lookup 0 0 ⇒ n
    ∷ with its_save (zeros 3) n
    ∷ with its_restore (zeros 3) n
    ∷ with its_explain (zeros 3) n
    ∷ []

-- §1.2, §1.3, §1.4: a state of a wrong length, -14: set-up too, before it looks at its numbers; the length itself can always be asked
abbrev pub wrong_length : List Row
wrong_length =
    state_len ⇒ done 11400
    ∷ setup 40 0x40000000 0x4000 ⇒ refusal 14
    ∷ setup 35 0 0 ⇒ refusal 14
    ∷ every (refusal 14)

-- §1.3: bytes that are no guest, of the right length, -22: set-up alone gets further. They are all 0, which is no width (§1.9).
abbrev pub no_guest : List Row
no_guest = every (refusal 22)

-- §1.4, §1.5: what set-up refuses and takes, and the guest that it makes
abbrev pub setting_up : List Row
setting_up =
    -- §1.4: width 36 to 52
    setup 35 0x40000000 0x4000 ⇒ refusal 22
    ∷ setup 53 0x40000000 0x4000 ⇒ refusal 22
    -- §1.4: start, length not divisible by 4,096
    ∷ setup 40 0x40000800 0x4000 ⇒ refusal 22
    ∷ setup 40 0x40000000 0x4800 ⇒ refusal 22
    -- §1.4: length 4,096 to 2^30
    ∷ setup 40 0x40000000 0 ⇒ refusal 22
    ∷ setup 40 0x40000000 0x40001000 ⇒ refusal 22
    -- §1.4: one page past 2^36
    ∷ setup 36 0xFFFFFF000 0x2000 ⇒ refusal 22
    -- §2.4: none of these made a guest, so that the state is refused still
    ∷ with (vgic_get 3 0) (word 0) (refusal 22)
    -- §1.4, §2.10: up to 2^36 exactly; the largest memory, the largest width
    ∷ setup 36 0xFFFFFF000 0x1000 ⇒ done 0
    ∷ setup 52 0x40000000 0x40000000 ⇒ done 0
    -- §1.5: a fresh guest has 64 interrupts (§3.15), no base (§3.9), no region (§3.10) and no VCPU (§3.11)
    ∷ writes (vgic_get 3 0) (word 0) (done 0) (word 64)
    ∷ with (vgic_get 0 2) (long 7) (refusal 2)
    ∷ with (vgic_get 0 3) (long 7) (refusal 2)
    ∷ with (vgic_get 0 5) (long 0) (refusal 2)
    ∷ with (its_get 0 4) (long 7) (refusal 2)
    ∷ vgic_set 4 0 ⇒ refusal 19
    -- §1.4: what the bytes hold is not looked at, so that a guest in use becomes a fresh one: the affinity is free again
    ∷ vcpu_add 5 ⇒ done 0
    ∷ setup 40 0x40000000 0x4000 ⇒ done 0
    ∷ vcpu_add 5 ⇒ done 0
    ∷ []
