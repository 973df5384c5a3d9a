-- Each call does its own work on its own arguments: a short run in which no two calls, and no two arguments of a call, can be exchanged.
use Rattle.std.specs.Prelude.{List, [], ◌∷◌, ◌++◌}
use Rattle.answers.specs.Answer.{refusal, done}
use Rattle.step.specs.Step.{state_len, vcpus_start, vcpus_stop, setup, vcpu_add, redist_base, vgic_set, its_set, vgic_get, its_get, irq_pending, irq_set_pending, irq_clear_pending, irq_activate, irq_line, irq_trigger, its_place, its_map_event, its_map_device, its_move, its_map_collection, its_discard, its_lookup, its_unmap_device, its_unmap_collection, its_save, its_restore, its_explain}
use Rattle.step.specs.Run.{Row, Runs, ◌⇒◌, with, writes, word, long, zeros, unmade}

-- §1.2, §1.4, §3.1, §3.5, §3.9, §3.11, §3.12, §5.2: set-up, three VCPUs, frames, both INITs; a get where a set would be -17
abbrev pub made : List Row
made =
    state_len ⇒ done 11400
    ∷ setup 40 0x40000000 0x10000 ⇒ done 0
    ∷ vcpu_add 5 ⇒ done 0
    ∷ vcpu_add 6 ⇒ done 0
    ∷ vcpu_add 9 ⇒ done 0
    ∷ with (vgic_set 0 2) (long 0x08000000) (done 0)
    ∷ with (vgic_set 0 3) (long 0x08010000) (done 0)
    ∷ vgic_set 4 0 ⇒ done 0
    ∷ writes (vgic_get 0 3) (long 0) (done 0) (long 0x08010000)
    ∷ with (its_set 0 4) (long 0x09000000) (done 0)
    ∷ writes (its_get 0 4) (long 0) (done 0) (long 0x09000000)
    ∷ its_set 4 0 ⇒ done 0
    ∷ redist_base 2 ⇒ done 0x08050000
    ∷ []

-- §3.2, §4.10: start stops the register accesses, stop lets them go on. §4.4, §4.5, §4.6, §4.7: 20 of VCPU 2 is made edge, its line rises
-- and falls, and the latch stays until activation; set and clear of 3 of VCPU 1
abbrev pub raised : List Row
raised =
    vcpus_start ⇒ done 0
    ∷ with (vgic_get 1 0x10) (word 7) (refusal 16)
    ∷ vcpus_stop ⇒ done 0
    ∷ writes (vgic_get 1 0x10) (word 7) (done 0) (word 0)
    ∷ irq_trigger 2 20 0x100000 ⇒ done 0
    ∷ irq_line 2 20 1 ⇒ done 0
    ∷ irq_line 2 20 0 ⇒ done 0
    ∷ irq_pending 2 20 ⇒ done 1
    ∷ irq_activate 2 20 ⇒ done 0
    ∷ irq_pending 2 20 ⇒ done 0
    ∷ irq_set_pending 1 3 ⇒ done 0
    ∷ irq_pending 1 3 ⇒ done 1
    ∷ irq_clear_pending 1 3 ⇒ done 0
    ∷ irq_pending 1 3 ⇒ done 0
    ∷ []

-- §5.4, §5.6: two pages of devices before one of collections: device 600 needs the second page, and its ITT starts
-- where the collections end. §5.7, §5.8, §5.9, §5.10, §5.11, §5.12, §5.13: the event moves from PE 1 to PE 2, so that
-- collection 7 can go and collection 9 could not
abbrev pub mapped : List Row
mapped =
    its_place 0x40000000 2 0x40002000 1 ⇒ done 0
    ∷ its_map_device 600 0x40003000 5 ⇒ done 0
    ∷ its_map_device 9 0x40004000 4 ⇒ done 0
    ∷ its_map_collection 7 1 ⇒ done 0
    ∷ its_map_collection 9 2 ⇒ done 0
    ∷ its_map_event 600 3 8195 7 ⇒ done 0
    ∷ its_lookup 600 3 ⇒ done 73731
    ∷ its_move 600 3 9 ⇒ done 0
    ∷ its_lookup 600 3 ⇒ done 139267
    ∷ its_unmap_collection 7 ⇒ done 0
    ∷ its_unmap_device 9 ⇒ done 0
    ∷ its_discard 600 3 ⇒ done 0
    ∷ its_lookup 600 3 ⇒ refusal 2
    ∷ []

-- §7.4, §9.4: a new guest, with memory for two tables of one page: save writes a collection's entry; restore is refused
-- where one names PE 1 of one, and explain names that fault, 2^40 + 2^32 (§13.6)
abbrev pub saved_and_restored : List Row
saved_and_restored =
    setup 36 0 0x2000 ⇒ done 0
    ∷ vcpu_add 0 ⇒ done 0
    ∷ with (vgic_set 0 2) (long 0x08000000) (done 0)
    ∷ with (vgic_set 0 3) (long 0x08010000) (done 0)
    ∷ vgic_set 4 0 ⇒ done 0
    ∷ with (its_set 0 4) (long 0x09000000) (done 0)
    ∷ its_set 4 0 ⇒ done 0
    ∷ its_place 0 1 0x1000 1 ⇒ done 0
    ∷ its_map_collection 7 0 ⇒ done 0
    ∷ writes its_save (zeros 0x2000) (done 0) (zeros 0x1000 ++ long 0x8000000000000007 ++ zeros 0xFF8)
    ∷ with its_restore (zeros 0x1000 ++ long 0x8000000000010007 ++ zeros 0xFF8) (refusal 22)
    ∷ with its_explain (zeros 0x1000 ++ long 0x8000000000010007 ++ zeros 0xFF8) (done 0x10100000000)
    ∷ []

-- §10.9: the whole run, from bytes that are no guest yet
abbrev pub Routing : Type 0
Routing = Runs (made ++ raised ++ mapped ++ saved_and_restored) unmade
