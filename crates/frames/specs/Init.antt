-- VGIC INIT (§3.11) and where each VCPU's redistributor frame lies (§3.12, §3.13).
use Rattle.std.specs.Prelude.{ℕ, ◌+◌, ◌-◌, ◌*◌, Bool, true, false, List, [], ◌∷◌, length, ltb, leb, eqb}
use Rattle.lists.specs.Rows.{choose}
use Rattle.areas.specs.declared.Area.{Area}
use Rattle.areas.specs.Area.{ends_by, strikes}
use Rattle.guest.specs.declared.Region.{Region}
use Rattle.guest.specs.Machine.{Reading}
use Rattle.guest.specs.Machine.{Machine, Result, refuse, accept, initialised, is_set, with_control}
use Rattle.rules.specs.Standing.{others, total, whole_run, redistributor_size}
use Rattle.rules.specs.Rules.{limit_of}
use Rattle.frames.specs.Vcpus.{with_init}

-- §3.6: the single run as INIT tests it, with 131,072 bytes for every VCPU
abbrev pub run_area : Machine → Area
run_area m = record { start = m.frames.single.base; size = whole_run m }

-- §3.11: the run ends at or below 2^p and overlaps no other frame
abbrev pub run_fits : Area → Machine → Bool
run_fits a m = choose (ends_by (limit_of m) a) (choose (strikes (others m) a) false true) false

-- §3.11: there is a place for every redistributor, in the single run where it stands, else in the regions. Neither run nor region is
-- the sum 0, which is less than the one VCPU that was tested for before.
unfoldable pub has_places : Machine → Bool
has_places m =
    choose (is_set m.frames.single) (run_fits (run_area m) m) (leb (length m.vcpus) (total m.regions))

-- §3.11: INIT. Done earlier it is 0 and changes nothing; then -19, then -6 for whatever is missing. It sets its mark and nothing else.
unfoldable pub vgic_init : Machine → Result
vgic_init m =
    choose (initialised m) (accept m)
    (choose (eqb (length m.vcpus) 0) (refuse m 19)
    (choose (is_set m.frames.distributor)
    (choose (has_places m) (accept (with_control (with_init m.control) m)) (refuse m 6))
    (refuse m 6)))

-- §3.12: the address of redistributor k in a list of regions. Where k is not below the first count, that count is taken off and the
-- rest of the list is asked. With too few regions it is 0: after INIT no VCPU's number gets there (§1.11).
unfoldable pub locate : List Region → ℕ → ℕ
locate [] k = 0
locate (r ∷ rs) k =
    let rest = locate rs (k - r.count) in
    choose (ltb k r.count) (r.base + redistributor_size * k) rest

-- §3.12: the single run counts as one region, and it holds every VCPU
abbrev pub redistributor_of : ℕ → Machine → ℕ
redistributor_of k m =
    choose (is_set m.frames.single) (m.frames.single.base + redistributor_size * k) (locate m.regions k)

-- §3.13: asking for the address; before INIT -6, then -22 where no VCPU has the number k
unfoldable pub redist_base : ℕ → Machine → Reading
redist_base k m =
    choose (initialised m)
    (choose (ltb k (length m.vcpus))
    (record { errno = 0; number = redistributor_of k m })
    (record { errno = 22; number = 0 }))
    (record { errno = 6; number = 0 })
