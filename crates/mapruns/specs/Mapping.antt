-- Part 5 of docs/DEFINITION.md call by call: memory of 8 pages at 0x40000000, two VCPUs, one page for each table.
use Rattle.std.specs.Prelude.{List, [], ◌∷◌, ◌++◌}
use Rattle.answers.specs.Answer.{refusal, done}
use Rattle.step.specs.Step.{its_set, its_place, its_map_event, its_map_device, its_move, its_map_collection, its_discard, its_lookup, its_unmap_device, its_unmap_collection}
use Rattle.step.specs.Run.{Row, ◌⇒◌}
use Rattle.step.specs.Guests.{its}

-- §5.3, §5.4: what goes before the tables are placed, and placing
abbrev pub placing : List Row
placing =
    -- §5.3: not placed: each of these is -6
    its_map_device 0 0x40002000 5 ⇒ refusal 6
    ∷ its_unmap_device 0 ⇒ refusal 6
    ∷ its_map_collection 7 1 ⇒ refusal 6
    ∷ its_unmap_collection 7 ⇒ refusal 6
    ∷ its_map_event 0 1 8192 7 ⇒ refusal 6
    ∷ its_discard 0 1 ⇒ refusal 6
    ∷ its_move 0 1 7 ⇒ refusal 6
    ∷ its_lookup 0 1 ⇒ refusal 6
    -- §5.4: the start, no page, 129 pages (and outside memory), of either table: -22
    ∷ its_place 0x40000800 1 0x40001000 1 ⇒ refusal 22
    ∷ its_place 0x40000000 0 0x40001000 1 ⇒ refusal 22
    ∷ its_place 0x40000000 129 0x40001000 1 ⇒ refusal 22
    ∷ its_place 0x40000000 1 0x40001800 1 ⇒ refusal 22
    ∷ its_place 0x40000000 1 0x40001000 0 ⇒ refusal 22
    ∷ its_place 0x40000000 1 0x40001000 129 ⇒ refusal 22
    -- §5.4: the one not inside memory, the other with no good start: -22, which comes first over both
    ∷ its_place 0x3FFFF000 1 0x40001800 1 ⇒ refusal 22
    -- §5.4: not inside memory: before it, past its end, past its end and over each other: -14
    ∷ its_place 0x3FFFF000 1 0x40001000 1 ⇒ refusal 14
    ∷ its_place 0x40000000 1 0x40007000 2 ⇒ refusal 14
    ∷ its_place 0x40007000 2 0x40007000 2 ⇒ refusal 14
    -- §5.4: they overlap: -22
    ∷ its_place 0x40000000 2 0x40001000 1 ⇒ refusal 22
    -- §2.10: the last page of memory is inside it
    ∷ its_place 0x40007000 1 0x40000000 1 ⇒ done 0
    -- §5.4: placed a second time, while nothing is mapped
    ∷ its_place 0x40000000 1 0x40001000 1 ⇒ done 0
    ∷ []

-- §5.6, §5.7: mapping a device, and removing one that is not mapped
abbrev pub devices : List Row
devices =
    -- §5.6: an ID past the last of 512 entries; no bits; 17 bits: -22
    its_map_device 512 0x40002000 5 ⇒ refusal 22
    ∷ its_map_device 0 0x40002000 0 ⇒ refusal 22
    ∷ its_map_device 0 0x40002000 17 ⇒ refusal 22
    -- §5.6: ITT not divisible by 256, and outside memory: -22
    ∷ its_map_device 0 0x50000080 5 ⇒ refusal 22
    -- §5.6: ITT not inside memory: behind it; before it; past its end and over the tables: -14
    ∷ its_map_device 0 0x40008000 5 ⇒ refusal 14
    ∷ its_map_device 0 0x3FFFFF00 5 ⇒ refusal 14
    ∷ its_map_device 0 0x40000000 13 ⇒ refusal 14
    -- §5.6: over the device table, over the collection table: -22
    ∷ its_map_device 0 0x40000F00 1 ⇒ refusal 22
    ∷ its_map_device 0 0x40001F00 5 ⇒ refusal 22
    -- §5.6: mapped
    ∷ its_map_device 0 0x40002000 5 ⇒ done 0
    -- §5.6: mapped already: with a bad number of bits, -22 first; outside memory, -17 first
    ∷ its_map_device 0 0x40002000 0 ⇒ refusal 22
    ∷ its_map_device 0 0x50000000 5 ⇒ refusal 17
    -- §5.6: over another ITT: -22; right behind it, in the table's last entry
    ∷ its_map_device 511 0x40002000 1 ⇒ refusal 22
    ∷ its_map_device 511 0x40002100 1 ⇒ done 0
    -- §5.7: not mapped; a number that no device can have: -2
    ∷ its_unmap_device 1 ⇒ refusal 2
    ∷ its_unmap_device 65536 ⇒ refusal 2
    ∷ []

-- §5.8, §5.9: mapping a collection, and removing one that is not mapped
abbrev pub collections : List Row
collections =
    -- §5.8: ICID above 65,535; pe 2 of two VCPUs: -22; then the largest ICID
    its_map_collection 65536 1 ⇒ refusal 22
    ∷ its_map_collection 7 2 ⇒ refusal 22
    ∷ its_map_collection 7 1 ⇒ done 0
    ∷ its_map_collection 65535 0 ⇒ done 0
    -- §5.9: not mapped; a number that no collection can have: -2
    ∷ its_unmap_collection 8 ⇒ refusal 2
    ∷ its_unmap_collection 65536 ⇒ refusal 2
    ∷ []

-- §5.10, §5.11, §5.12, §5.13: events, and what §5.8 and §5.9 say of collections with events
abbrev pub events : List Row
events =
    -- §5.10: no device (and no good event, LPI or collection): -2; event 32 (and no collection): -22; LPI below, LPI above (and no
    -- collection): -22; no collection, and an ICID whose low 16 bits are a mapped one's: -2
    its_map_event 3 32 0 9 ⇒ refusal 2
    ∷ its_map_event 0 32 8192 9 ⇒ refusal 22
    ∷ its_map_event 0 1 8191 9 ⇒ refusal 22
    ∷ its_map_event 0 1 65536 9 ⇒ refusal 22
    ∷ its_map_event 0 1 8192 9 ⇒ refusal 2
    ∷ its_map_event 0 1 8192 65543 ⇒ refusal 2
    ∷ its_map_event 0 1 8192 7 ⇒ done 0
    -- §5.10: mapped already: with no collection, -2 first; by itself: -17
    ∷ its_map_event 0 1 8192 9 ⇒ refusal 2
    ∷ its_map_event 0 1 9000 65535 ⇒ refusal 17
    -- §5.10: an LPI shared; the largest event and LPI; the same event of another device
    ∷ its_map_event 0 2 8192 65535 ⇒ done 0
    ∷ its_map_event 0 31 65535 7 ⇒ done 0
    ∷ its_map_event 511 1 8193 65535 ⇒ done 0
    -- §5.13: LPI + 65,536 × pe
    ∷ its_lookup 0 1 ⇒ done 73728
    ∷ its_lookup 0 2 ⇒ done 8192
    ∷ its_lookup 0 31 ⇒ done 131071
    ∷ its_lookup 511 1 ⇒ done 8193
    -- §5.13: no event; no device; an event past the ITT: -2
    ∷ its_lookup 0 3 ⇒ refusal 2
    ∷ its_lookup 3 1 ⇒ refusal 2
    ∷ its_lookup 0 65537 ⇒ refusal 2
    -- §5.8: a mapped collection takes a new pe, and its events follow
    ∷ its_map_collection 7 0 ⇒ done 0
    ∷ its_lookup 0 1 ⇒ done 8192
    ∷ its_map_collection 7 1 ⇒ done 0
    -- §5.11: no event; no device: -2
    ∷ its_discard 0 3 ⇒ refusal 2
    ∷ its_discard 3 1 ⇒ refusal 2
    -- §5.12: no event; no device; no collection: -2
    ∷ its_move 0 3 7 ⇒ refusal 2
    ∷ its_move 3 1 7 ⇒ refusal 2
    ∷ its_move 0 1 9 ⇒ refusal 2
    -- §5.12: to the collection that it has; to another, and back
    ∷ its_move 0 1 7 ⇒ done 0
    ∷ its_move 0 1 65535 ⇒ done 0
    ∷ its_lookup 0 1 ⇒ done 8192
    ∷ its_move 0 1 7 ⇒ done 0
    -- §5.9: an event names it: -22
    ∷ its_unmap_collection 7 ⇒ refusal 22
    -- §5.11: discarded, and no other event
    ∷ its_discard 0 31 ⇒ done 0
    ∷ its_lookup 0 31 ⇒ refusal 2
    ∷ its_lookup 0 1 ⇒ done 73728
    ∷ []

-- §5.4, §5.7, §5.9: placing while something is mapped, and removing all
abbrev pub removals : List Row
removals =
    -- §5.4: placing while something is mapped (with no good start either): -16 first
    its_place 0x40000800 1 0x40001000 1 ⇒ refusal 16
    -- §5.7: a device with its events, and no other's
    ∷ its_unmap_device 0 ⇒ done 0
    ∷ its_lookup 0 1 ⇒ refusal 2
    ∷ its_lookup 511 1 ⇒ done 8193
    ∷ its_map_device 0 0x40002000 5 ⇒ done 0
    ∷ its_lookup 0 1 ⇒ refusal 2
    ∷ its_unmap_device 0 ⇒ done 0
    ∷ its_unmap_device 511 ⇒ done 0
    -- §5.9: no event names it any more; §5.4: a collection alone is something mapped: -16
    ∷ its_unmap_collection 7 ⇒ done 0
    ∷ its_place 0x40000000 1 0x40001000 1 ⇒ refusal 16
    ∷ its_unmap_collection 65535 ⇒ done 0
    ∷ its_place 0x40000000 1 0x40001000 1 ⇒ done 0
    ∷ []

-- §5.14: RESET of a mapping; of none, with no table placed; what it leaves
abbrev pub resets : List Row
resets =
    its_map_device 0 0x40002000 5 ⇒ done 0
    ∷ its_map_collection 7 1 ⇒ done 0
    ∷ its_map_event 0 1 8192 7 ⇒ done 0
    ∷ its_set 4 4 ⇒ done 0
    -- §5.3: no table is placed: -6; RESET needs none
    ∷ its_lookup 0 1 ⇒ refusal 6
    ∷ its_map_collection 7 1 ⇒ refusal 6
    ∷ its_set 4 4 ⇒ done 0
    -- §5.14: ITS INIT still stands, so placing goes; nothing is mapped: -2 (§5.13, §5.7, §5.9)
    ∷ its_place 0x40000000 1 0x40001000 1 ⇒ done 0
    ∷ its_lookup 0 1 ⇒ refusal 2
    ∷ its_unmap_device 0 ⇒ refusal 2
    ∷ its_unmap_collection 7 ⇒ refusal 2
    ∷ []

-- §10.9: the whole run
abbrev pub mapping : List Row
mapping = its 0x8000 ++ placing ++ devices ++ collections ++ events ++ removals ++ resets
