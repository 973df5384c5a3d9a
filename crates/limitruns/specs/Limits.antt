-- Three limits of §1.6: 16 collections, 32 devices and 1,024 events, and one more of each, by the commands; of devices and events by a
-- restore as well (of collections: crates/mapruns).
use Rattle.std.specs.Prelude.{ℕ, zero, suc, ◌+◌, ◌-◌, ◌*◌, List, [], ◌∷◌, ◌++◌}
use Rattle.answers.specs.Answer.{refusal, done}
use Rattle.step.specs.Step.{its_map_event, its_map_device, its_map_collection, its_restore, its_explain}
use Rattle.step.specs.Run.{Row, Runs, ◌⇒◌, with, many, unmade}
use Rattle.step.specs.Tables.{device, collection, event, entries, words, image, names}
use Rattle.step.specs.Guests.{placed}

-- §5.8, §5.6: a 17th collection and a 33rd device by the commands
abbrev pub map_limit : List Row
map_limit =
    placed 0x8000
    ++ many 16 (λ k. its_map_collection k 1 ⇒ done 0)
    -- §5.8: a bad pe first; then the limit; one that is mapped is no 17th
    ++ its_map_collection 16 2 ⇒ refusal 22
    ∷ its_map_collection 16 1 ⇒ refusal 12
    ∷ its_map_collection 15 0 ⇒ done 0
    ∷ many 32 (λ k. its_map_device k (0x40002000 + 256 * k) 1 ⇒ done 0)
    -- §5.6: mapped already comes first; outside memory after the limit
    ++ its_map_device 31 0x50000000 1 ⇒ refusal 17
    ∷ its_map_device 32 0x50000000 1 ⇒ refusal 12
    ∷ []

-- Notation: the entry of device k, which leads to the next one
abbrev pub full : ℕ → ℕ
full k = device 1 (0x40002000 + 256 * k) 1

-- §9.5: 33 devices in memory: the last, whose ITT is outside memory besides, is -12; a bad next (§9.6) and 17 bits come first, -22.
-- §13.5: it is the entry of ID 32
abbrev pub restored_devices : List Row
restored_devices =
    placed 0x5000
    ++ with its_restore (image 1536 (words 32 full ++ device 0 0x50000000 1 ∷ []) [] []) (refusal 12)
    ∷ with its_explain (image 1536 (words 32 full ++ device 0 0x50000000 1 ∷ []) [] []) (names 6 2 0 32)
    ∷ with its_restore (image 1536 (words 32 full ++ device 3 0x50000000 1 ∷ []) [] []) (refusal 22)
    ∷ with its_restore (image 1536 (words 32 full ++ device 0 0x50000000 17 ∷ []) [] []) (refusal 22)
    ∷ []

-- Notation: n events; a memory with 31 devices of 33 events each, which are 1,023, and one with the events es
abbrev pub chain : ℕ → List ℕ
chain n = words (n - 1) (λ k. event 1 8192 7) ++ event 0 8192 7 ∷ []

abbrev pub itts : ℕ → List ℕ
itts zero = []
itts (suc k) = entries 64 (chain 33) ++ itts k

abbrev pub crowded : List ℕ → List ℕ
crowded es =
    entries 512 (words 31 (λ k. device 1 (0x40002000 + 512 * k) 6) ++ device 0 0x40005E00 6 ∷ [])
    ++ entries 512 (collection 1 7 ∷ []) ++ itts 31 ++ entries 64 es

-- §9.7, §5.10: a 1,025th event by a restore and by the command; several events with one LPI are no fault
abbrev pub event_limit : List Row
event_limit =
    placed 0x6000
    -- §9.7: one too many; just as many as may be
    ++ with its_restore (crowded (chain 2)) (refusal 12)
    ∷ with its_restore (crowded (chain 1)) (done 0)
    -- §5.10: mapped already comes first
    ∷ its_map_event 31 0 8192 7 ⇒ refusal 17
    ∷ its_map_event 31 1 8192 7 ⇒ refusal 12
    ∷ []

-- §13.5, §13.8: the 1,025th event is the second one of device 31; §13.9: its ICID comes before that
abbrev pub explained_events : List Row
explained_events =
    placed 0x6000
    ++ with its_explain (crowded (chain 2)) (names 11 3 31 1)
    ∷ with its_explain (crowded (event 1 8192 7 ∷ event 0 8192 8 ∷ [])) (names 10 3 31 1)
    ∷ []

-- §10.9: each list of calls does what is written beside it
pub record LimitRuns : Type 0 where
  pub commands : Runs map_limit unmade
  pub devices : Runs restored_devices unmade
  pub events : Runs event_limit unmade
  pub explained : Runs explained_events unmade
