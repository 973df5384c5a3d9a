-- Part 2, and the order of §2.5: unknown names, then widths, then what is not ready, then running, then the rest.
use Rattle.std.specs.Prelude.{List, [], ◌∷◌, ◌++◌}
use Rattle.answers.specs.Answer.{refusal, done}
use Rattle.step.specs.Step.{vcpus_start, vcpus_stop, setup, vcpu_add, redist_base, vgic_set, its_set, vgic_get, its_get, irq_pending, irq_set_pending, irq_clear_pending, irq_activate, irq_line, irq_trigger, its_place, its_map_event, its_map_device, its_move, its_map_collection, its_discard, its_lookup, its_unmap_device, its_unmap_collection, its_save, its_restore, its_explain}
use Rattle.step.specs.Run.{Row, ◌⇒◌, with, writes, word, long, zeros}

-- §2.6, §2.7: unknown groups, attributes and offsets, with values of 3 bytes, which no attribute has (§2.5)
abbrev pub names : List Row
names =
    setup 40 0x40000000 0x2000 ⇒ done 0
    -- §2.7: groups that the VGIC does not know
    ∷ with (vgic_set 2 0) (zeros 3) (refusal 6)
    ∷ with (vgic_set 6 0) (zeros 3) (refusal 6)
    -- §2.6: compared with all 64 bits, not with the low 32
    ∷ with (vgic_set 0x100000000 2) (long 0x08000000) (refusal 6)
    ∷ with (vgic_set 0 0x100000002) (long 0x08000000) (refusal 6)
    -- §2.7: attributes; 4 is the ITS's. §4.11, §4.12: offsets, 0x14 in groups 1 and 5
    ∷ with (vgic_set 0 4) (zeros 3) (refusal 6)
    ∷ with (vgic_set 1 0x14) (zeros 3) (refusal 6)
    ∷ with (vgic_set 3 1) (zeros 3) (refusal 6)
    ∷ with (vgic_set 4 1) (zeros 3) (refusal 6)
    ∷ with (vgic_set 5 0x14) (zeros 3) (refusal 6)
    -- the same for gets: a group, attributes, offsets
    ∷ with (vgic_get 2 0) (zeros 3) (refusal 6)
    ∷ with (vgic_get 0 4) (zeros 3) (refusal 6)
    ∷ with (vgic_get 1 0x14) (zeros 3) (refusal 6)
    ∷ with (vgic_get 3 1) (zeros 3) (refusal 6)
    ∷ with (vgic_get 5 0x14) (zeros 3) (refusal 6)
    -- §2.9: group 4 has no get
    ∷ vgic_get 4 0 ⇒ refusal 6
    ∷ with (vgic_get 4 0) (zeros 3) (refusal 6)
    -- §2.7: the ITS's groups and attributes; in its group 0 (§2.6) -19
    ∷ with (its_set 1 0) (zeros 3) (refusal 6)
    ∷ with (its_set 4 3) (zeros 3) (refusal 6)
    ∷ with (its_set 0 2) (zeros 3) (refusal 19)
    ∷ with (its_get 1 0) (zeros 3) (refusal 6)
    ∷ with (its_get 0 2) (zeros 3) (refusal 19)
    -- §2.9: no get here either
    ∷ its_get 4 0 ⇒ refusal 6
    ∷ with (its_get 4 0) (zeros 3) (refusal 6)
    ∷ []

-- §2.8: known names with a value of another width, of a guest that is not ready for most of them (§2.5)
abbrev pub widths : List Row
widths =
    -- the widths of §2.7: 4 bytes for 8 in group 0, 8 for 4 in groups 1, 3, 5 (§4.10) and 7 (§4.15), 1 for none in group 4 (§2.9)
    with (vgic_set 0 2) (word 0) (refusal 14)
    ∷ with (vgic_set 0 3) (word 0) (refusal 14)
    ∷ with (vgic_set 0 5) (word 0) (refusal 14)
    ∷ with (vgic_set 1 0x10) (long 0) (refusal 14)
    ∷ with (vgic_set 3 0) (long 64) (refusal 14)
    ∷ with (vgic_set 4 0) (zeros 1) (refusal 14)
    ∷ with (vgic_set 5 0x10) (long 0) (refusal 14)
    ∷ with (vgic_set 7 16) (long 0) (refusal 14)
    ∷ with (vgic_get 0 2) (word 0) (refusal 14)
    ∷ with (vgic_get 0 3) (word 0) (refusal 14)
    ∷ with (vgic_get 0 5) (word 0) (refusal 14)
    ∷ with (vgic_get 1 0x10) (long 0) (refusal 14)
    ∷ with (vgic_get 3 0) (long 0) (refusal 14)
    ∷ with (vgic_get 5 0x10) (long 0) (refusal 14)
    ∷ with (vgic_get 7 16) (long 0) (refusal 14)
    ∷ with (its_set 0 4) (word 0) (refusal 14)
    ∷ with (its_get 0 4) (word 0) (refusal 14)
    ∷ with (its_set 4 0) (zeros 1) (refusal 14)
    -- §2.9: save and restore as attributes, which lend no memory; RESET (§5.14) with a value
    ∷ its_set 4 1 ⇒ refusal 14
    ∷ its_set 4 2 ⇒ refusal 14
    ∷ with (its_set 4 4) (zeros 1) (refusal 14)
    -- §7.1, §9.1, §13.2: memory of another length
    ∷ with its_save (zeros 0x1fff) (refusal 14)
    ∷ with its_restore (zeros 0x2001) (refusal 14)
    ∷ with its_explain (zeros 0x2001) (refusal 14)
    ∷ []

-- §2.5: not ready, with VCPUs, INTIDs, affinities and tables that would be faults further on
abbrev pub not_ready : List Row
not_ready =
    -- §4.10: groups 1 and 5; no VCPU has the affinity
    with (vgic_set 1 0x10) (word 0) (refusal 6)
    ∷ with (vgic_get 1 0x10) (word 0) (refusal 6)
    ∷ with (vgic_set 5 0x10) (word 0) (refusal 6)
    ∷ with (vgic_get 5 0x10) (word 0) (refusal 6)
    -- §4.15: group 7; vINTID 16
    ∷ with (vgic_set 7 16) (word 0) (refusal 6)
    ∷ with (vgic_get 7 16) (word 0) (refusal 6)
    -- §3.2, §3.13: start, stop, a redistributor's place; there is no VCPU 0
    ∷ vcpus_start ⇒ refusal 6
    ∷ vcpus_stop ⇒ refusal 6
    ∷ redist_base 0 ⇒ refusal 6
    -- §4.8: the six calls; no VCPU 0, no INTID 1,024, no level 2
    ∷ irq_pending 0 1024 ⇒ refusal 6
    ∷ irq_set_pending 0 1024 ⇒ refusal 6
    ∷ irq_clear_pending 0 1024 ⇒ refusal 6
    ∷ irq_activate 0 1024 ⇒ refusal 6
    ∷ irq_line 0 1024 2 ⇒ refusal 6
    ∷ irq_trigger 0 1024 0 ⇒ refusal 6
    -- §5.2, §5.14: ITS INIT and RESET
    ∷ its_set 4 0 ⇒ refusal 6
    ∷ its_set 4 4 ⇒ refusal 6
    -- §5.3, §13.2: placing, the commands, lookup, save, restore and explain
    ∷ its_place 1 0 1 0 ⇒ refusal 6
    ∷ its_map_device 0 1 0 ⇒ refusal 6
    ∷ its_unmap_device 0 ⇒ refusal 6
    ∷ its_map_collection 65536 0 ⇒ refusal 6
    ∷ its_unmap_collection 0 ⇒ refusal 6
    ∷ its_map_event 0 0 0 0 ⇒ refusal 6
    ∷ its_discard 0 0 ⇒ refusal 6
    ∷ its_move 0 0 0 ⇒ refusal 6
    ∷ its_lookup 0 0 ⇒ refusal 6
    ∷ with its_save (zeros 0x2000) (refusal 6)
    ∷ with its_restore (zeros 0x2000) (refusal 6)
    ∷ with its_explain (zeros 0x2000) (refusal 6)
    ∷ []

-- §2.5: a guest that runs: what is -16 then, and what goes on
abbrev pub running : List Row
running =
    vcpu_add 5 ⇒ done 0
    ∷ with (vgic_set 0 2) (long 0x08000000) (done 0)
    ∷ with (vgic_set 0 3) (long 0x08010000) (done 0)
    ∷ vgic_set 4 0 ⇒ done 0
    ∷ vcpus_start ⇒ done 0
    -- §4.10: groups 1 and 5 are -16, name and width come first; §4.12: an unknown affinity comes after
    ∷ with (vgic_set 1 0x14) (word 0) (refusal 6)
    ∷ with (vgic_set 1 0x10) (long 0) (refusal 14)
    ∷ with (vgic_set 1 0x10) (word 0) (refusal 16)
    ∷ with (vgic_get 1 0x10) (word 0) (refusal 16)
    ∷ with (vgic_set 5 0x500000014) (word 0) (refusal 6)
    ∷ with (vgic_set 5 0x500000010) (long 0) (refusal 14)
    ∷ with (vgic_set 5 0x600000010) (word 0) (refusal 16)
    ∷ with (vgic_get 5 0x600000010) (word 0) (refusal 16)
    -- what tests no running mark goes on: start (§3.2) and INIT (§3.11) again, group 7 (§4.15), group 3 (§3.15), the interrupt calls
    -- (§4.8), group 0 (§3.5)
    ∷ vcpus_start ⇒ done 0
    ∷ vgic_set 4 0 ⇒ done 0
    ∷ with (vgic_set 7 32) (word 1) (done 0)
    ∷ writes (vgic_get 7 32) (word 0) (done 0) (word 1)
    ∷ writes (vgic_get 3 0) (word 0) (done 0) (word 64)
    ∷ irq_set_pending 0 3 ⇒ done 0
    ∷ irq_pending 0 3 ⇒ done 1
    ∷ with (its_set 0 4) (long 0x09000000) (done 0)
    -- §5.14: RESET before ITS INIT; ITS INIT (§5.2) goes on; RESET's width, then running
    ∷ its_set 4 4 ⇒ refusal 6
    ∷ its_set 4 0 ⇒ done 0
    ∷ with (its_set 4 4) (zeros 1) (refusal 14)
    ∷ its_set 4 4 ⇒ refusal 16
    -- §7.1, §9.1, §13.2: save, restore and explain: not ready, as no table is placed (§5.3)
    ∷ with its_save (zeros 0x2000) (refusal 6)
    ∷ with its_restore (zeros 0x2000) (refusal 6)
    ∷ with its_explain (zeros 0x2000) (refusal 6)
    -- §5.3: placing and commands go on
    ∷ its_place 0x40000000 1 0x40001000 1 ⇒ done 0
    ∷ its_map_collection 7 0 ⇒ done 0
    -- §7.1, §9.1, §13.2: save, restore and explain: the length of memory, then running
    ∷ with its_save (zeros 0x1000) (refusal 14)
    ∷ with its_save (zeros 0x2000) (refusal 16)
    ∷ with its_restore (zeros 0x1000) (refusal 14)
    ∷ with its_explain (zeros 0x1000) (refusal 14)
    ∷ with its_restore (zeros 0x2000) (refusal 16)
    ∷ with its_explain (zeros 0x2000) (refusal 16)
    -- §3.2: stop, and stop again; then a get of group 1, whose STATUSR is 0 as at set-up (§1.5), and RESET (§5.14) are done
    ∷ vcpus_stop ⇒ done 0
    ∷ vcpus_stop ⇒ done 0
    ∷ writes (vgic_get 1 0x10) (word 7) (done 0) (word 0)
    ∷ its_set 4 4 ⇒ done 0
    ∷ []

-- Notation: the four lists, one behind the other on one guest
abbrev pub order : List Row
order = names ++ widths ++ not_ready ++ running
