-- The frames that stand, as areas: distributor first, then single run, regions and the ITS.
use Rattle.std.specs.Prelude.{ℕ, ◌+◌, ◌*◌, ◌≡◌, Bool, true, List, [], ◌∷◌, ◌++◌, map, length, ltb}
use Rattle.lists.specs.Rows.{choose, all}
use Rattle.areas.specs.declared.Area.{Area}
use Rattle.guest.specs.declared.Frame.{Frame}
use Rattle.guest.specs.declared.Region.{Region}
use Rattle.guest.specs.declared.Guest.{Guest}
use Rattle.guest.specs.Machine.{Machine, Held, view, initialised, is_set}

-- §3.3: the sizes in bytes
abbrev pub distributor_size : ℕ
distributor_size = 65536

abbrev pub its_size : ℕ
its_size = 131072

abbrev pub redistributor_size : ℕ
redistributor_size = 131072

-- Notation: a frame's area, if its base is set
abbrev pub placed : Frame → ℕ → List Area
placed f size = choose (is_set f) (record { start = f.base; size = size } ∷ []) []

-- §3.6: the single run's whole size, as INIT's own test has it
abbrev pub whole_run : Machine → ℕ
whole_run m = redistributor_size * length m.vcpus

-- §3.6: the single run's size: one redistributor's until VGIC INIT, the whole size from then on
abbrev pub run_size : Machine → ℕ
run_size m = choose (initialised m) (whole_run m) redistributor_size

-- §3.7: a region's size is its count × 131,072
abbrev pub region_area : Region → Area
region_area r = record { start = r.base; size = redistributor_size * r.count }

-- §3.4, §3.5, §3.8: the frames that stand, which another must not overlap: those with a base that is set, and the regions
unfoldable pub standing : Machine → List Area
standing m =
    placed m.frames.distributor distributor_size ++ placed m.frames.single (run_size m)
    ++ map region_area m.regions ++ placed m.frames.its its_size

-- §3.11: all but the single run, with which INIT compares the run in its whole size
unfoldable pub others : Machine → List Area
others m = placed m.frames.distributor distributor_size ++ map region_area m.regions ++ placed m.frames.its its_size

-- §1.11, §3.11: the sum of the regions' counts
unfoldable pub total : List Region → ℕ
total [] = 0
total (r ∷ rs) = r.count + total rs

-- Inner: what the code asks of the regions: each count has 12 bits, so that no size is too large
abbrev pub small_count : Region → Bool
small_count r = ltb r.count 4096

pub record Small (g : Guest) : Type 0 where
  pub held : Held g
  pub counts : all small_count (view g).regions ≡ true
