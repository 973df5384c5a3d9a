-- Group 0: frames' bases (§3.5, §3.9) and redistributor regions (§3.7, §3.8, §3.10). Values are 8 bytes.
use Rattle.std.specs.Prelude.{ℕ, ◌*◌, ◌/◌, ◌%◌, Bool, ◌||◌, [], ◌∷◌, ◌++◌, length, get_or, ltb, leb, eqb}
use Rattle.lists.specs.Rows.{choose}
use Rattle.fields.specs.Field.{get_field, put_field}
use Rattle.areas.specs.declared.Area.{Area}
use Rattle.areas.specs.Area.{ends_by, strikes}
use Rattle.guest.specs.declared.Frame.{Frame}
use Rattle.guest.specs.declared.Region.{Region}
use Rattle.guest.specs.Machine.{Reading}
use Rattle.guest.specs.Machine.{Machine, Result, refuse, accept, is_set, with_frames, with_regions}
use Rattle.rules.specs.Standing.{standing, distributor_size, its_size, run_size, region_area}
use Rattle.rules.specs.Rules.{limit_of}

-- Notation: a frame whose base is set
abbrev pub set_to : ℕ → Frame
set_to base = record { set = 1; base = base }

-- §3.5, §3.8: the last two faults of a new frame or region, its end above 2^p (-7), then an overlap with what stands (-22). An end at
-- 2^p is none (§2.10), and what stands has the single run in its size of §3.6.
unfoldable pub area_fault : Area → Machine → ℕ
area_fault a m = choose (ends_by (limit_of m) a) (choose (strikes (standing m) a) 22 0) 7

-- §3.5: what stops a base from being set, in order, but for the regions that attribute 3 looks at first
unfoldable pub frame_fault : Frame → ℕ → ℕ → Machine → ℕ
frame_fault f size base m =
    choose (is_set f) 17
    (choose (eqb (base % 65536) 0) (area_fault (record { start = base; size = size }) m) 22)

-- Notation: a call whose fault was found: refused with it, or done where it is 0
abbrev pub finish : ℕ → Machine → Machine → Result
finish e m next = choose (eqb e 0) (accept next) (refuse m e)

-- §3.5: attribute 2, the distributor's base; its frame's size is that of §3.3
unfoldable pub set_distributor : ℕ → Machine → Result
set_distributor base m =
    finish (frame_fault m.frames.distributor distributor_size base m) m
    (with_frames (record { distributor = set_to base; single = m.frames.single; its = m.frames.its }) m)

-- §3.5: attribute 3, the single run's base: a region that stands comes before all other faults. The size is that of §3.6; after INIT
-- the base is set or a region stands, so that only the size before INIT is ever tested here.
unfoldable pub single_fault : ℕ → Machine → ℕ
single_fault base m = choose (eqb (length m.regions) 0) (frame_fault m.frames.single (run_size m) base m) 22

unfoldable pub set_single : ℕ → Machine → Result
set_single base m =
    finish (single_fault base m) m
    (with_frames (record { distributor = m.frames.distributor; single = set_to base; its = m.frames.its }) m)

-- §3.5: attribute 4 of the ITS, its frame's base; the size is that of §3.3
unfoldable pub set_its_base : ℕ → Machine → Result
set_its_base base m =
    finish (frame_fault m.frames.its its_size base m) m
    (with_frames (record { distributor = m.frames.distributor; single = m.frames.single; its = set_to base }) m)

-- §3.7: the fields of a region's word. The 36 bits of the base are its bits 51 to 16, so that every base of a word is divisible by
-- 65,536.
unfoldable pub word_region : ℕ → Region
word_region w = record { base = get_field w 16 36 * 65536; count = get_field w 52 12 }

abbrev pub word_flags : ℕ → ℕ
word_flags w = get_field w 12 4

abbrev pub word_index : ℕ → ℕ
word_index w = get_field w 0 12

-- §3.7, §3.10: the word that a get hands back, with flags 0
unfoldable pub region_word : ℕ → Region → ℕ
region_word index r = put_field (put_field (put_field 0 0 12 index) 16 36 (r.base / 65536)) 52 12 r.count

-- §3.8: what stops a region from being added, in order
unfoldable pub region_fault : ℕ → Machine → ℕ
region_fault w m =
    choose (is_set m.frames.single) 22
    (choose (eqb (word_flags w) 0)
    (choose (eqb (word_region w).count 0) 22
    (choose (eqb (word_index w) (length m.regions))
    (choose (leb 32 (length m.regions)) 12 (area_fault (region_area (word_region w)) m))
    22))
    22)

-- §3.8: set of attribute 5. The region stands behind the others, where its index says.
unfoldable pub add_region : ℕ → Machine → Result
add_region w m = finish (region_fault w m) m (with_regions (m.regions ++ (word_region w ∷ [])) m)

-- Inner: the faults of a name and a width of the VGIC's group 0, in their order; 0 for neither. Set and get below say the same.
abbrev pub is_base : ℕ → Bool
is_base attribute = eqb attribute 2 || (eqb attribute 3 || eqb attribute 5)

unfoldable pub name_fault : ℕ → ℕ → ℕ
name_fault attribute width = choose (is_base attribute) (choose (eqb width 8) 0 14) 6

-- §2.5, §2.7: group 0 of the VGIC, set: attributes 2, 3 and 5, else -6; a value that is not 8 bytes long -14; then the paragraph of
-- the attribute
unfoldable pub set_group0 : ℕ → ℕ → ℕ → Machine → Result
set_group0 attribute width value m =
    choose (eqb attribute 2) (choose (eqb width 8) (set_distributor value m) (refuse m 14))
    (choose (eqb attribute 3) (choose (eqb width 8) (set_single value m) (refuse m 14))
    (choose (eqb attribute 5) (choose (eqb width 8) (add_region value m) (refuse m 14))
    (refuse m 6)))

-- §3.9: the base of a frame; not set -2
abbrev pub base_of : Frame → Reading
base_of f = choose (is_set f) (record { errno = 0; number = f.base }) (record { errno = 2; number = 0 })

-- §3.9: attribute 3 of a guest that has a region is -22 before the base is looked at
unfoldable pub get_single : Machine → Reading
get_single m = choose (eqb (length m.regions) 0) (base_of m.frames.single) (record { errno = 22; number = 0 })

-- §3.10: of the lent value w the index alone counts. The single run stands -22; no region with this index -2.
unfoldable pub get_region : ℕ → Machine → Reading
get_region w m =
    choose (is_set m.frames.single) (record { errno = 22; number = 0 })
    (choose (ltb (word_index w) (length m.regions))
    (record { errno = 0; number = region_word (word_index w) (get_or m.regions (word_index w) (record { base = 0; count = 0 })) })
    (record { errno = 2; number = 0 }))

-- §2.5, §2.7: group 0 of the VGIC, get: names and width as for a set, then §3.9 or §3.10
unfoldable pub get_group0 : ℕ → ℕ → ℕ → Machine → Reading
get_group0 attribute width value m =
    choose (eqb attribute 2) (choose (eqb width 8) (base_of m.frames.distributor) (record { errno = 14; number = 0 }))
    (choose (eqb attribute 3) (choose (eqb width 8) (get_single m) (record { errno = 14; number = 0 }))
    (choose (eqb attribute 5) (choose (eqb width 8) (get_region value m) (record { errno = 14; number = 0 }))
    (record { errno = 6; number = 0 })))

-- §2.6, §2.7: group 0 of the ITS, set and get: an attribute other than 4 is -19, in the place of -6, and so before the width's -14; then
-- §3.5 or §3.9
unfoldable pub set_its_group0 : ℕ → ℕ → ℕ → Machine → Result
set_its_group0 attribute width value m =
    choose (eqb attribute 4) (choose (eqb width 8) (set_its_base value m) (refuse m 14)) (refuse m 19)

unfoldable pub get_its_group0 : ℕ → ℕ → Machine → Reading
get_its_group0 attribute width m =
    choose (eqb attribute 4)
    (choose (eqb width 8) (base_of m.frames.its) (record { errno = 14; number = 0 }))
    (record { errno = 19; number = 0 })
