-- Part 9 of docs/DEFINITION.md, each fault with its number. Memory starts at 0x40000000: device table, collection table, then ITTs from
-- 0x40002000 on.
use Rattle.std.specs.Prelude.{ℕ, ◌+◌, ◌*◌, ◌^◌, List, [], ◌∷◌, ◌++◌, ℤ}
use Rattle.answers.specs.Answer.{refusal, done}
use Rattle.step.specs.Step.{its_lookup, its_unmap_device, its_restore}
use Rattle.step.specs.Run.{Row, ◌⇒◌, with, zeros}
use Rattle.step.specs.Tables.{device, collection, event, words, image}
use Rattle.step.specs.Guests.{placed}

-- Notation: a restore from devices, collections and, in the ITT at 0x40002000, events
abbrev pub from : List ℕ → List ℕ → List ℕ → ℤ → Row
from ds cs es n = with its_restore (image 512 ds cs es) n

-- Notation: the device and the collection that most rows have
abbrev pub d0 : ℕ
d0 = device 0 0x40002000 5

abbrev pub c7 : ℕ
c7 = collection 1 7

-- §9.2: restores that are accepted
abbrev pub accepted : List Row
accepted =
    -- §12.10: nothing but zeros: the empty mapping, so that a lookup is -2 (§5.13)
    with its_restore (zeros 0x3000) (done 0)
    ∷ its_lookup 0 1 ⇒ refusal 2
    -- §8.8: what is not read: an entry jumped over, one behind the last ID, bits [62:52] of a collection, the fields of blank entries;
    -- §8.2: all collections behind a blank one
    ∷ from (device 2 0x40002000 5 ∷ device 0 0 32 ∷ device 0 0x40002100 1 ∷ device 0 0 32 ∷ [])
    ((c7 + 5 * 2 ^ 52) ∷ 0x7FFFFFFFFFFFFFFF ∷ collection 2 7 ∷ []) (0xFFFF00000000FFFF ∷ event 0 8193 7 ∷ event 1 1 1 ∷ []) (done 0)
    -- §9.2: the mapping is that of the bytes: event 1 and no 2; devices 0 and 2 and no 1 (-2: §5.13, §5.7)
    ∷ its_lookup 0 1 ⇒ done 73729
    ∷ its_lookup 0 2 ⇒ refusal 2
    ∷ its_unmap_device 1 ⇒ refusal 2
    ∷ its_unmap_device 2 ⇒ done 0
    -- §9.5: the mapping that stood does not count: its ITT is taken again
    ∷ from (d0 ∷ []) (c7 ∷ []) (0 ∷ event 0 8192 7 ∷ []) (done 0)
    ∷ []

-- §9.4: a collection's faults
abbrev pub collection_faults : List Row
collection_faults =
    -- §9.4: pe 2 of two VCPUs; a pe whose low 16 bits are good (§6.3); an ICID met before: -22
    from [] (collection 2 7 ∷ []) [] (refusal 22)
    ∷ from [] (collection 65537 7 ∷ []) [] (refusal 22)
    ∷ from [] (c7 ∷ collection 0 7 ∷ []) [] (refusal 22)
    -- §9.4: a 17th: -12; one with a bad pe, one that repeats an ICID: -22 first
    ∷ from [] (words 17 (collection 1)) [] (refusal 12)
    ∷ from [] (words 16 (collection 1) ++ collection 2 16 ∷ []) [] (refusal 22)
    ∷ from [] (words 16 (collection 1) ++ collection 1 0 ∷ []) [] (refusal 22)
    -- §9.3: met before any device, whose next is a fault: -12 first
    ∷ from (device 3 0x40002000 5 ∷ []) (words 17 (collection 1)) [] (refusal 12)
    ∷ []

-- §9.5, §9.6: a device's faults
abbrev pub device_faults : List Row
device_faults =
    -- §9.6: a next that leads past the table's last entry; to a blank entry; and an ITT outside memory besides (§9.5): -22
    from (device 512 0x40002000 5 ∷ []) [] [] (refusal 22)
    ∷ from (device 3 0x40002000 5 ∷ []) [] [] (refusal 22)
    ∷ from (device 3 0x50000000 5 ∷ []) [] [] (refusal 22)
    -- §9.5: 17 bits, and the ITT not inside memory: -22 first
    ∷ from (device 0 0x40002000 17 ∷ []) [] [] (refusal 22)
    -- §9.5: an ITT not inside memory; and over the tables besides: -14
    ∷ from (device 0 0x40003000 5 ∷ []) [] [] (refusal 14)
    ∷ from (device 0 0x40000000 13 ∷ []) [] [] (refusal 14)
    -- §9.5: over the device table, the collection table, the ITT of a device met before: -22
    ∷ from (device 0 0x40000F00 1 ∷ []) [] [] (refusal 22)
    ∷ from (device 0 0x40001F00 5 ∷ []) [] [] (refusal 22)
    ∷ from (device 1 0x40002000 5 ∷ d0 ∷ []) [] [] (refusal 22)
    -- §9.3, §9.5: a good next onto a device with a fault of its own, which gives the number: -14
    ∷ from (device 1 0x40002000 5 ∷ device 0 0x50000000 5 ∷ []) [] [] (refusal 14)
    ∷ []

-- §9.7: an event's faults
abbrev pub event_faults : List Row
event_faults =
    -- §9.7: the LPI below, above, and one whose low 16 bits are good (§6.4): -22
    from (d0 ∷ []) (c7 ∷ []) (event 0 8191 7 ∷ []) (refusal 22)
    ∷ from (d0 ∷ []) (c7 ∷ []) (event 0 65536 7 ∷ []) (refusal 22)
    ∷ from (d0 ∷ []) (c7 ∷ []) (event 0 73728 7 ∷ []) (refusal 22)
    -- §9.7, §9.6: a next that leads past the ITT's last entry; to a blank entry: -22
    ∷ from (d0 ∷ []) (c7 ∷ []) (event 32 8192 7 ∷ []) (refusal 22)
    ∷ from (d0 ∷ []) (c7 ∷ []) (event 3 8192 7 ∷ []) (refusal 22)
    -- §9.7: an ICID that is not among the collections: -22
    ∷ from (d0 ∷ []) (c7 ∷ []) (event 0 8192 8 ∷ []) (refusal 22)
    -- §9.3: a device's events come before the next device, whose fault would be -14
    ∷ from (device 1 0x40002000 5 ∷ device 0 0x50000000 5 ∷ []) (c7 ∷ []) (event 0 8191 7 ∷ []) (refusal 22)
    -- §9.2: and no refused restore changed the mapping
    ∷ its_lookup 0 1 ⇒ done 73728
    ∷ []

-- §10.9: the whole run
abbrev pub restoring : List Row
restoring = placed 0x3000 ++ accepted ++ collection_faults ++ device_faults ++ event_faults
