-- Part 13 of docs/DEFINITION.md, each fault with its code. Memory starts at 0x40000000: device table, collection table, then ITTs from
-- 0x40002000 on. The 33rd device and the 1,025th event are in crates/limitruns.
use Rattle.std.specs.Prelude.{ℕ, List, [], ◌∷◌, ◌++◌, ℤ}
use Rattle.answers.specs.Answer.{done}
use Rattle.step.specs.Step.{its_map_collection, its_map_device, its_map_event, its_lookup, its_explain}
use Rattle.step.specs.Run.{Row, Runs, ◌⇒◌, with, zeros, unmade}
use Rattle.step.specs.Tables.{device, collection, event, words, image, names}
use Rattle.step.specs.Guests.{placed}

-- Notation: what is said of devices, collections and, in the ITT at 0x40002000, events
abbrev pub of : List ℕ → List ℕ → List ℕ → ℤ → Row
of ds cs es n = with its_explain (image 512 ds cs es) n

-- Notation: the device and the collection that most rows have
abbrev pub d0 : ℕ
d0 = device 0 0x40002000 5

abbrev pub c7 : ℕ
c7 = collection 1 7

-- §13.3: 0 for what is described: zeros; the mapping that stands does not count (§13.1), so that its ITT may be taken; faults in entries
-- that are not read are none (§13.7): behind the first blank collection, jumped over, behind the last
abbrev pub described : List Row
described =
    its_map_collection 3 0 ⇒ done 0
    ∷ its_map_device 3 0x40002000 5 ⇒ done 0
    ∷ its_map_event 3 1 8200 3 ⇒ done 0
    ∷ with its_explain (zeros 0x3000) (done 0)
    ∷ of (d0 ∷ []) (c7 ∷ 0 ∷ collection 2 7 ∷ []) (event 2 8192 7 ∷ event 31 1 1 ∷ event 0 8192 7 ∷ event 0 1 1 ∷ []) (done 0)
    ∷ of (device 2 0x40002000 5 ∷ device 9 0x40002000 32 ∷ device 0 0x40002100 1 ∷ device 9 0 32 ∷ []) [] [] (done 0)
    -- §13.1: the state stays
    ∷ its_lookup 3 1 ⇒ done 8200
    ∷ []

-- §13.8, §13.9: the collection table
abbrev pub collections : List Row
collections =
    -- pe, in the entry that has it; an ICID for the second time, in the later entry
    of [] (c7 ∷ collection 2 8 ∷ []) [] (names 1 1 0 1)
    ∷ of [] (c7 ∷ collection 0 9 ∷ collection 0 7 ∷ []) [] (names 2 1 0 2)
    -- pe before repeat; 17th, and pe and repeat before it
    ∷ of [] (c7 ∷ collection 2 7 ∷ []) [] (names 1 1 0 1)
    ∷ of [] (words 17 (collection 1)) [] (names 3 1 0 16)
    ∷ of [] (words 16 (collection 1) ++ collection 2 16 ∷ []) [] (names 1 1 0 16)
    ∷ of [] (words 16 (collection 1) ++ collection 1 0 ∷ []) [] (names 2 1 0 16)
    -- before any device's fault
    ∷ of (device 3 0x40002000 5 ∷ []) (c7 ∷ collection 2 8 ∷ []) [] (names 1 1 0 1)
    ∷ []

-- §13.8, §13.9: the device table
abbrev pub devices : List Row
devices =
    -- next, at the entry that holds it: past the last entry; onto a blank one; before size and outside
    of (0 ∷ device 511 0x40002000 5 ∷ []) [] [] (names 4 2 0 1)
    ∷ of (device 3 0x40002000 5 ∷ []) [] [] (names 4 2 0 0)
    ∷ of (device 3 0x50000000 17 ∷ []) [] [] (names 4 2 0 0)
    -- size, before outside; outside, before overlap
    ∷ of (device 0 0x50000000 17 ∷ []) [] [] (names 5 2 0 0)
    ∷ of (device 0 0x40003000 5 ∷ []) [] [] (names 7 2 0 0)
    ∷ of (device 0 0x40000000 13 ∷ []) [] [] (names 7 2 0 0)
    -- overlap with the device table, the collection table, and the ITT of a device before it: at the later one
    ∷ of (device 0 0x40000F00 1 ∷ []) [] [] (names 8 2 0 0)
    ∷ of (device 0 0x40001F00 5 ∷ []) [] [] (names 8 2 0 0)
    ∷ of (device 1 0x40002000 5 ∷ d0 ∷ []) [] [] (names 8 2 0 1)
    -- a device's own faults come before its events: next; overlap, where the entry itself, read as an event, would have LPI 2,048
    ∷ of (device 3 0x40002000 5 ∷ []) (c7 ∷ []) (event 0 8191 7 ∷ []) (names 4 2 0 0)
    ∷ of (device 0 0x40000000 1 ∷ []) (c7 ∷ []) [] (names 8 2 0 0)
    ∷ []

-- §13.8, §13.9: an ITT, with the ID of its device
abbrev pub events : List Row
events =
    -- the LPI below and above; before next and ICID; next onto a blank entry, before ICID; next past the last entry; ICID, with its device
    of (d0 ∷ []) (c7 ∷ []) (0 ∷ event 0 8191 7 ∷ []) (names 9 3 0 1)
    ∷ of (d0 ∷ []) (c7 ∷ []) (event 0 65536 7 ∷ []) (names 9 3 0 0)
    ∷ of (d0 ∷ []) (c7 ∷ []) (event 3 8191 8 ∷ []) (names 9 3 0 0)
    ∷ of (d0 ∷ []) (c7 ∷ []) (event 3 8192 8 ∷ []) (names 4 3 0 0)
    ∷ of (d0 ∷ []) (c7 ∷ []) (event 32 8192 7 ∷ []) (names 4 3 0 0)
    ∷ of (0 ∷ 0 ∷ d0 ∷ []) (c7 ∷ []) (event 1 8192 7 ∷ event 0 8192 8 ∷ []) (names 10 3 2 1)
    -- a device's events come before the following device
    ∷ of (device 1 0x40002000 5 ∷ device 0 0x50000000 5 ∷ []) (c7 ∷ []) (event 0 8191 7 ∷ []) (names 9 3 0 0)
    ∷ []

-- §10.9: the whole run does what is written beside it
abbrev pub FaultRuns : Type 0
FaultRuns = Runs (placed 0x3000 ++ described ++ collections ++ devices ++ events) unmade
