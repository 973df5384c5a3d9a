-- The whole way, from set-up to a lookup, a save and a restore of what was saved, with the numbers of part 12; and the state at its end,
-- which is ready for a save and a restore.
use Rattle.std.specs.Prelude.{ℕ, List, [], ◌∷◌, ◌++◌, ◌≡◌, replicate}
use Rattle.maplayout.specs.MapLayout.{decode_map}
use Rattle.claims.specs.Demand3.{Ready}
use Rattle.answers.specs.Answer.{refusal, done}
use Rattle.step.specs.Step.{setup, vcpu_add, redist_base, vgic_set, its_set, its_place, its_map_event, its_map_device, its_map_collection, its_lookup, its_save, its_restore}
use Rattle.step.specs.Run.{Row, ◌⇒◌, with, writes, after, long, zeros, unmade}

-- §1.4, §3.1, §3.5, §3.8: set-up, VCPUs, the distributor, the regions of §12.5, of which the second is §12.1; §3.11, §3.12: VGIC INIT and
-- VCPU 2's frame; §5.2, §5.4: ITS INIT and the tables
abbrev pub begun : List Row
begun =
    setup 40 0x40000000 0x4000 ⇒ done 0
    ∷ vcpu_add 0 ⇒ done 0
    ∷ vcpu_add 1 ⇒ done 0
    ∷ vcpu_add 2 ⇒ done 0
    ∷ with (vgic_set 0 2) (long 0x08000000) (done 0)
    ∷ with (vgic_set 0 5) (long 0x0010000008080000) (done 0)
    ∷ with (vgic_set 0 5) (long 0x00400000080A0001) (done 0)
    ∷ vgic_set 4 0 ⇒ done 0
    ∷ redist_base 2 ⇒ done 0x080C0000
    ∷ with (its_set 0 4) (long 0x09000000) (done 0)
    ∷ its_set 4 0 ⇒ done 0
    ∷ its_place 0x40000000 1 0x40001000 1 ⇒ done 0
    ∷ []

-- §5.6, §5.8, §5.10: the device of §12.2, the collection of §12.3, the event of §12.4; §5.13: a lookup, and one of an
-- event that is not mapped
abbrev pub mapped : List Row
mapped =
    its_map_device 0 0x40002000 5 ⇒ done 0
    ∷ its_map_collection 7 1 ⇒ done 0
    ∷ its_map_event 0 1 8192 7 ⇒ done 0
    ∷ its_lookup 0 1 ⇒ done 73728
    ∷ its_lookup 0 2 ⇒ refusal 2
    ∷ []

-- Notation: memory full of a byte that no entry has
abbrev pub dirty : List ℕ
dirty = replicate 0x4000 0xA5

-- §7.3, §7.4, §7.5, §7.6: what a save leaves in it: as device 0 the entry of §12.2, but with next 0, as the first
-- collection that of §12.3, as event 1 that of §12.4, but with next 0; zeros in the rest of the two tables and of the
-- ITT's 32 entries; all other bytes as they were
abbrev pub saved : List ℕ
saved =
    long 0x8000000008000404 ++ zeros 0xFF8
    ++ long 0x8000000000010007 ++ zeros 0xFF8
    ++ zeros 8 ++ long 0x0000000020000007 ++ zeros 0xF0
    ++ replicate 0x1F00 0xA5

-- §7.1, §5.14, §9.2: save, RESET, and a restore of just that memory: the lookup answers as before
abbrev pub again : List Row
again =
    writes its_save dirty (done 0) saved
    ∷ its_set 4 4 ⇒ done 0
    ∷ its_place 0x40000000 1 0x40001000 1 ⇒ done 0
    ∷ its_lookup 0 1 ⇒ refusal 2
    ∷ with its_restore saved (done 0)
    ∷ its_lookup 0 1 ⇒ done 73728
    ∷ []

-- §5.14, §5.3: after a RESET no table is placed
abbrev pub ended : List Row
ended =
    its_set 4 4 ⇒ done 0
    ∷ its_map_collection 7 1 ⇒ refusal 6
    ∷ []

-- §10.9: the whole run
abbrev pub main : List Row
main = begun ++ mapped ++ again ++ ended

-- Notation: the state before the last RESET
abbrev pub end : List ℕ
end = after (begun ++ mapped ++ again) unmade

-- §10.6: there are guests of the kind that the demand is about, with the memory that the save left and with another of its length; this
-- one's mapping is not empty
pub record Witness : Type 0 where
  pub ready : Ready end saved
  pub dirtied : Ready end dirty
  pub mapping : decode_map end ≡ record {
    collections = record { icid = 7; pe = 1 } ∷ [];
    devices = record { id = 0; itt = 0x40002000; bits = 5 } ∷ [];
    events = record { device = 0; event = 1; lpi = 8192; icid = 7 } ∷ [];
  }
