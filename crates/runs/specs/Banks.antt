-- Part 4. Two VCPUs, of affinities 5 and 6.
use Rattle.std.specs.Prelude.{ℕ, ◌+◌, ◌-◌, ◌/◌, List, [], ◌∷◌, ◌++◌}
use Rattle.answers.specs.Answer.{refusal, done}
use Rattle.step.specs.Step.{setup, vcpu_add, vgic_set, vgic_get, irq_pending, irq_set_pending, irq_clear_pending, irq_activate, irq_line, irq_trigger}
use Rattle.step.specs.Run.{Row, ◌⇒◌, with, writes, word, long}

-- Notation: the calls after set-up that lead to such a guest, with VGIC INIT done
abbrev pub ready : List Row
ready =
    vcpu_add 5 ⇒ done 0
    ∷ vcpu_add 6 ⇒ done 0
    ∷ with (vgic_set 0 2) (long 0x08000000) (done 0)
    ∷ with (vgic_set 0 3) (long 0x08080000) (done 0)
    ∷ vgic_set 4 0 ⇒ done 0
    ∷ []

-- §4.8: the six calls: no VCPU 2, also where the VCPU has no effect; INTID 1,024. §4.9: INTID 1,023, past the count, is no fault.
abbrev pub refusals : List Row
refusals =
    irq_pending 2 40 ⇒ refusal 22
    ∷ irq_pending 0 1024 ⇒ refusal 22
    ∷ irq_pending 0 1023 ⇒ done 0
    ∷ irq_set_pending 2 40 ⇒ refusal 22
    ∷ irq_set_pending 0 1024 ⇒ refusal 22
    ∷ irq_set_pending 0 1023 ⇒ done 0
    ∷ irq_clear_pending 2 40 ⇒ refusal 22
    ∷ irq_clear_pending 0 1024 ⇒ refusal 22
    ∷ irq_clear_pending 0 1023 ⇒ done 0
    ∷ irq_activate 2 40 ⇒ refusal 22
    ∷ irq_activate 0 1024 ⇒ refusal 22
    ∷ irq_activate 0 1023 ⇒ done 0
    ∷ irq_line 2 40 1 ⇒ refusal 22
    ∷ irq_line 0 1024 1 ⇒ refusal 22
    -- §4.8: a line is 0 or 1, an SGI's and one past the count too
    ∷ irq_line 0 40 2 ⇒ refusal 22
    ∷ irq_line 0 3 2 ⇒ refusal 22
    ∷ irq_line 0 1023 2 ⇒ refusal 22
    ∷ irq_line 0 1023 1 ⇒ done 0
    -- §4.8: the trigger's VCPU and INTID
    ∷ irq_trigger 2 40 0 ⇒ refusal 22
    ∷ irq_trigger 0 1024 0 ⇒ refusal 22
    ∷ irq_trigger 0 1023 0 ⇒ done 0
    ∷ []

-- §4.2, §4.9: n interrupts, up to 992: n - 1 is the last, shared by all VCPUs; n and above read 0 and ignore writes
abbrev pub counted : ℕ → List Row
counted n =
    irq_set_pending 0 (n - 1) ⇒ done 0
    ∷ irq_pending 1 (n - 1) ⇒ done 1
    ∷ irq_set_pending 0 n ⇒ done 0
    ∷ irq_line 0 n 1 ⇒ done 0
    ∷ irq_pending 0 n ⇒ done 0
    ∷ irq_set_pending 0 1023 ⇒ done 0
    ∷ irq_pending 0 1023 ⇒ done 0
    -- §4.11, §4.13: the latch word of the last bank, four bytes before that of INTID n; §4.9: latch and level word (§4.15) of the next
    ∷ with (vgic_set 1 (0x200 + n / 8 - 4)) (word 0xFFFFFFFF) (done 0)
    ∷ writes (vgic_get 1 (0x200 + n / 8 - 4)) (word 7) (done 0) (word 0xFFFFFFFF)
    ∷ with (vgic_set 1 (0x200 + n / 8)) (word 0xFFFFFFFF) (done 0)
    ∷ writes (vgic_get 1 (0x200 + n / 8)) (word 7) (done 0) (word 0)
    ∷ with (vgic_set 7 n) (word 0xFFFFFFFF) (done 0)
    ∷ writes (vgic_get 7 n) (word 7) (done 0) (word 0)
    ∷ with (vgic_set 1 (0x200 + n / 8 - 4)) (word 0) (done 0)
    ∷ irq_pending 0 (n - 1) ⇒ done 0
    ∷ []

-- §4.4 to §4.7: 40 as level and as edge; the latch word of its bank, bit 8 (§4.2), is read at 0x204 (§4.11)
abbrev pub latches : List Row
latches =
    -- §4.3: fresh, so level. §4.4, §4.6: pending while the line is up, latched never; §4.5: with the latch cleared it is pending still
    irq_line 0 40 1 ⇒ done 0
    ∷ irq_pending 0 40 ⇒ done 1
    ∷ writes (vgic_get 1 0x204) (word 7) (done 0) (word 0)
    ∷ irq_clear_pending 0 40 ⇒ done 0
    ∷ irq_pending 0 40 ⇒ done 1
    ∷ irq_line 0 40 0 ⇒ done 0
    ∷ irq_pending 0 40 ⇒ done 0
    -- §4.4, §4.5: or while it is latched
    ∷ irq_set_pending 0 40 ⇒ done 0
    ∷ irq_pending 0 40 ⇒ done 1
    ∷ writes (vgic_get 1 0x204) (word 7) (done 0) (word 0x100)
    ∷ irq_activate 0 40 ⇒ done 0
    ∷ irq_pending 0 40 ⇒ done 0
    -- §4.7: edge by a write through another INTID of the bank. §4.6: a rise latches, a fall leaves that. §4.4: the level alone is not
    -- pending
    ∷ irq_trigger 1 63 0x100 ⇒ done 0
    ∷ irq_line 0 40 1 ⇒ done 0
    ∷ irq_pending 0 40 ⇒ done 1
    ∷ writes (vgic_get 1 0x204) (word 7) (done 0) (word 0x100)
    ∷ irq_line 0 40 0 ⇒ done 0
    ∷ irq_pending 0 40 ⇒ done 1
    ∷ irq_line 0 40 1 ⇒ done 0
    ∷ irq_clear_pending 0 40 ⇒ done 0
    ∷ irq_pending 0 40 ⇒ done 0
    -- §4.6: up and up again is no rise
    ∷ irq_line 0 40 1 ⇒ done 0
    ∷ irq_pending 0 40 ⇒ done 0
    -- §4.15: a level word is stored as it is, without a latch. §4.6: a line after it sees that level
    ∷ with (vgic_set 7 32) (word 0) (done 0)
    ∷ with (vgic_set 7 32) (word 0x100) (done 0)
    ∷ writes (vgic_get 7 32) (word 7) (done 0) (word 0x100)
    ∷ irq_pending 0 40 ⇒ done 0
    ∷ irq_line 0 40 1 ⇒ done 0
    ∷ irq_pending 0 40 ⇒ done 0
    -- §4.7: level again: the trigger write changed neither latch nor level
    ∷ irq_trigger 0 32 0 ⇒ done 0
    ∷ irq_pending 0 40 ⇒ done 1
    ∷ irq_line 0 40 0 ⇒ done 0
    ∷ irq_pending 0 40 ⇒ done 0
    ∷ []

-- §4.2, §4.3: INTIDs below 32 are each VCPU's own; SGIs ignore lines, level words and trigger words, and are latched like any other
abbrev pub own : List Row
own =
    -- §4.6, §4.7: an SGI's line and trigger. §4.15: level words keep those of SGIs 0
    irq_line 0 3 1 ⇒ done 0
    ∷ irq_pending 0 3 ⇒ done 0
    ∷ irq_trigger 0 3 0 ⇒ done 0
    ∷ with (vgic_set 7 0x500000000) (word 0xFFFFFFFF) (done 0)
    ∷ writes (vgic_get 7 0x500000000) (word 7) (done 0) (word 0xFFFF0000)
    -- the last SGI and the first that is none; §4.16: VCPU 1 has its own
    ∷ irq_pending 0 15 ⇒ done 0
    ∷ irq_pending 0 16 ⇒ done 1
    ∷ irq_pending 1 16 ⇒ done 0
    -- §4.5: an SGI's latch; §4.16: VCPU 1's
    ∷ irq_set_pending 0 3 ⇒ done 0
    ∷ irq_pending 0 3 ⇒ done 1
    ∷ irq_pending 1 3 ⇒ done 0
    ∷ irq_activate 0 3 ⇒ done 0
    ∷ irq_pending 0 3 ⇒ done 0
    -- §4.7: a trigger word through an SGI reaches INTIDs 16 to 31 of the bank
    ∷ irq_trigger 0 3 0xFFFF0000 ⇒ done 0
    ∷ irq_pending 0 16 ⇒ done 0
    ∷ []

-- §4.11, §4.12, §4.15: groups 1, 5 and 7
abbrev pub registers : List Row
registers =
    -- §4.11: 0x200 reads 0 and ignores writes
    with (vgic_set 1 0x200) (word 0xFFFFFFFF) (done 0)
    ∷ writes (vgic_get 1 0x200) (word 7) (done 0) (word 0)
    ∷ irq_pending 0 3 ⇒ done 0
    -- §4.11: bits 63:32 are dropped; §4.13: all bits are stored
    ∷ with (vgic_set 1 0xFFFFFFFF00000204) (word 0x80000001) (done 0)
    ∷ irq_pending 0 32 ⇒ done 1
    ∷ irq_pending 0 33 ⇒ done 0
    ∷ irq_pending 0 63 ⇒ done 1
    -- §4.11: 0x280 to 0x2FC read 0 and ignore writes
    ∷ with (vgic_set 1 0x284) (word 0xFFFFFFFF) (done 0)
    ∷ writes (vgic_get 1 0x284) (word 7) (done 0) (word 0)
    ∷ writes (vgic_get 1 0x204) (word 7) (done 0) (word 0x80000001)
    ∷ writes (vgic_get 1 0x280) (word 7) (done 0) (word 0)
    ∷ writes (vgic_get 1 0x2FC) (word 7) (done 0) (word 0)
    -- §4.11: unknown offsets: in front of them, between two multiples of 4, behind them, a redistributor's
    ∷ with (vgic_set 1 0x1FC) (word 0) (refusal 6)
    ∷ with (vgic_set 1 0x206) (word 0) (refusal 6)
    ∷ with (vgic_get 1 0x300) (word 0) (refusal 6)
    ∷ with (vgic_get 1 0x10200) (word 0) (refusal 6)
    -- §4.12: the latch word of the affinity's VCPU; §4.13: SGIs too; §4.16: the other VCPU has its own
    ∷ with (vgic_set 5 0x600010200) (word 0x80000008) (done 0)
    ∷ writes (vgic_get 5 0x600010200) (word 7) (done 0) (word 0x80000008)
    ∷ writes (vgic_get 5 0x500010200) (word 7) (done 0) (word 0)
    ∷ irq_pending 1 3 ⇒ done 1
    ∷ irq_pending 0 3 ⇒ done 0
    -- §4.12: 0x10280 reads 0 and ignores writes
    ∷ with (vgic_set 5 0x600010280) (word 0xFFFFFFFF) (done 0)
    ∷ writes (vgic_get 5 0x600010280) (word 7) (done 0) (word 0)
    ∷ writes (vgic_get 5 0x600010200) (word 7) (done 0) (word 0x80000008)
    -- §4.12: unknown offsets, the distributor's too; no VCPU with the affinity 7
    ∷ with (vgic_set 5 0x600000200) (word 0) (refusal 6)
    ∷ with (vgic_get 5 0x600010204) (word 0) (refusal 6)
    ∷ with (vgic_set 5 0x700010200) (word 0) (refusal 22)
    ∷ with (vgic_get 5 0x700010200) (word 0) (refusal 22)
    -- §4.14: STATUSR, the distributor's and one for each redistributor, has four bits
    ∷ with (vgic_set 1 0x10) (word 0xFFFFFFF1) (done 0)
    ∷ with (vgic_set 5 0x500000010) (word 0x12) (done 0)
    ∷ with (vgic_set 5 0x600000010) (word 0xFF) (done 0)
    ∷ writes (vgic_get 1 0x10) (word 7) (done 0) (word 1)
    ∷ writes (vgic_get 5 0x500000010) (word 7) (done 0) (word 2)
    ∷ writes (vgic_get 5 0x600000010) (word 7) (done 0) (word 15)
    -- §4.15: info not 0; vINTID 16 (§12.11); an unknown affinity for vINTID 0, and for 32, where it is not read
    ∷ with (vgic_set 7 0x500000400) (word 0) (refusal 22)
    ∷ with (vgic_get 7 0x500000400) (word 0) (refusal 22)
    ∷ with (vgic_set 7 0x500000010) (word 0) (refusal 22)
    ∷ with (vgic_get 7 0x500000010) (word 0) (refusal 22)
    ∷ with (vgic_set 7 0x700000000) (word 0) (refusal 22)
    ∷ with (vgic_get 7 0x700000000) (word 0) (refusal 22)
    ∷ with (vgic_set 7 0x700000020) (word 2) (done 0)
    ∷ irq_pending 0 33 ⇒ done 1
    ∷ []

-- Notation: a guest whose count is set, INIT done; one with 1,024 interrupts
abbrev pub having : ℕ → List Row
having n = setup 40 0x40000000 0x4000 ⇒ done 0 ∷ with (vgic_set 3 0) (word n) (done 0) ∷ ready

abbrev pub wide : List Row
wide = having 1024

-- §4.17: with a count of 1,024 the bank of INTIDs 992 to 1,019, of which 1,020 to 1,023 are no part
abbrev pub last : List Row
last =
    wide
    -- a latch word keeps 28 bits; the bank before it keeps 32
    ++ with (vgic_set 1 0x27C) (word 0xFFFFFFFF) (done 0)
    ∷ writes (vgic_get 1 0x27C) (word 7) (done 0) (word 0xFFFFFFF)
    ∷ with (vgic_set 1 0x278) (word 0xFFFFFFFF) (done 0)
    ∷ writes (vgic_get 1 0x278) (word 7) (done 0) (word 0xFFFFFFFF)
    ∷ irq_pending 0 991 ⇒ done 1
    ∷ irq_pending 0 1019 ⇒ done 1
    ∷ irq_pending 0 1020 ⇒ done 0
    ∷ irq_pending 0 1023 ⇒ done 0
    -- set, clear and activate of the last interrupt, and of what is none
    ∷ irq_clear_pending 0 1019 ⇒ done 0
    ∷ irq_pending 0 1019 ⇒ done 0
    ∷ irq_set_pending 0 1019 ⇒ done 0
    ∷ irq_activate 0 1018 ⇒ done 0
    ∷ irq_set_pending 0 1020 ⇒ done 0
    ∷ irq_pending 0 1020 ⇒ done 0
    ∷ irq_clear_pending 0 1021 ⇒ done 0
    ∷ irq_activate 0 1022 ⇒ done 0
    ∷ irq_set_pending 0 1023 ⇒ done 0
    ∷ writes (vgic_get 1 0x27C) (word 7) (done 0) (word 0xBFFFFFF)
    -- a trigger word that names 1,021 makes 1,019 edge: its rise is latched, and a rise of 1,020 is not
    ∷ with (vgic_set 1 0x27C) (word 0) (done 0)
    ∷ irq_trigger 0 1021 0xFFFFFFFF ⇒ done 0
    ∷ irq_line 0 1019 1 ⇒ done 0
    ∷ irq_line 0 1020 1 ⇒ done 0
    ∷ irq_line 0 1019 0 ⇒ done 0
    ∷ irq_pending 0 1019 ⇒ done 1
    ∷ irq_pending 0 1020 ⇒ done 0
    ∷ writes (vgic_get 1 0x27C) (word 7) (done 0) (word 0x8000000)
    -- with trigger word 0, of level interrupts, a line of 1,023 that is up is not pending either
    ∷ irq_trigger 0 1019 0 ⇒ done 0
    ∷ irq_line 0 1023 1 ⇒ done 0
    ∷ irq_pending 0 1023 ⇒ done 0
    -- a level word keeps 28 bits, and that of the bank before it 32
    ∷ writes (vgic_get 7 0x3E0) (word 7) (done 0) (word 0)
    ∷ with (vgic_set 7 0x3E0) (word 0xFFFFFFFF) (done 0)
    ∷ writes (vgic_get 7 0x3E0) (word 7) (done 0) (word 0xFFFFFFF)
    ∷ with (vgic_set 7 0x3C0) (word 0xFFFFFFFF) (done 0)
    ∷ writes (vgic_get 7 0x3C0) (word 7) (done 0) (word 0xFFFFFFFF)
    ∷ writes (vgic_get 1 0x2FC) (word 7) (done 0) (word 0)
    -- §4.8: what is refused of the others is refused of the four
    ∷ irq_line 0 1020 2 ⇒ refusal 22
    ∷ irq_set_pending 2 1023 ⇒ refusal 22
    ∷ irq_pending 0 1024 ⇒ refusal 22
    ∷ []

-- Notation: the lists above, one behind the other: on a guest that set no count (§1.5: 64), then on one that set 256; the last has a guest of
-- its own
abbrev pub banks : List Row
banks =
    (setup 40 0x40000000 0x4000 ⇒ done 0 ∷ ready) ++ refusals ++ counted 64 ++ latches ++ own ++ registers ++ having 256 ++ counted 256
    ++ last
