-- The frames that stand, tested pair by pair: a frame whose base is not set counts as an area with no byte. Assumes nothing.
use Prim.Native.Nat.{ℕ, min, max}
use native.Mathlib.Omega.{arith}
use mathlib.Core.Path.{◌≡◌, refl, ◌∙◌}
use mathlib.Core.Bool.{Bool, true, false, ◌&&◌, ◌||◌, not}
use mathlib.Core.List.{List, [], ◌∷◌, ◌++◌, map, append_assoc, append-nil}
use borrow.Author.Tests.{le-ltb, not-true}
use Rattle.lists.specs.Rows.{choose}
use Rattle.areas.specs.declared.Area.{Area}
use Rattle.areas.specs.Area.{end_of, overlaps, strikes, apart}
use Rattle.areas.proofs.Tests.{same, and_left, and_right}
use Rattle.areas.proofs.Laws.{overlaps_sym, strikes_nil, strikes_cons, apart_behind, apart_remove, apart_free}
use Rattle.guest.specs.declared.Frame.{Frame}
use Rattle.guest.specs.declared.Frames.{Frames}
use Rattle.guest.specs.Machine.{Machine, is_set}
use Rattle.rules.specs.Standing.{placed, run_size, region_area, standing, distributor_size, its_size}

abbrev pub area_of : Frame → ℕ → Area
area_of f size = record { start = f.base; size = choose (is_set f) size 0 }

-- an area with no byte
module _ (b : ℕ) where
  abbrev nowhere : Area
  nowhere = record { start = b; size = 0 }

  overlaps_nowhere : (a : Area) → overlaps a nowhere ≡ false
  unfolding overlaps
  overlaps_nowhere a = le-ltb (max a.start b) (min (end_of a) (end_of nowhere)) (omega arith)

  strikes_nowhere : (l : List Area) → strikes l nowhere ≡ false
  strikes_nowhere [] = strikes_nil nowhere
  strikes_nowhere (x ∷ l) = strikes_cons nowhere x l ∙ rw (overlaps_sym nowhere x ∙ overlaps_nowhere x) (strikes_nowhere l)

-- one more area behind areas apart
behind : (l : List Area) (a : Area) → apart (l ++ (a ∷ [])) ≡ (not (strikes l a) && apart l)
behind l a = same (apart (l ++ (a ∷ []))) (not (strikes l a) && apart l) whole parts
  where
    whole : apart (l ++ (a ∷ [])) ≡ true → (not (strikes l a) && apart l) ≡ true
    whole e = rw (← append-nil l, apart_free a [] l e) (apart_remove a [] l e)

    parts : (not (strikes l a) && apart l) ≡ true → apart (l ++ (a ∷ [])) ≡ true
    parts e = apart_behind l a (and_right (not (strikes l a)) (apart l) e) (not-true (strikes l a) (and_left (not (strikes l a)) (apart l) e))

-- a frame before a list of areas, and behind it
module _ (f : Frame) (size : ℕ) where
  abbrev whole : Area
  whole = record { start = f.base; size = size }

  abbrev area_by : Bool → Area
  area_by b = record { start = f.base; size = choose b size 0 }

  apart_before : (l : List Area) → apart (placed f size ++ l) ≡ (not (strikes l (area_of f size)) && apart l)
  unfolding apart
  apart_before l = go (is_set f)
    where
      go : (b : Bool) → apart (choose b (whole ∷ []) [] ++ l) ≡ (not (strikes l (area_by b)) && apart l)
      go true = refl
      go false = rw (strikes_nowhere f.base l)

  apart_after : (l : List Area) → apart (l ++ placed f size) ≡ (not (strikes l (area_of f size)) && apart l)
  apart_after l = go (is_set f)
    where
      go : (b : Bool) → apart (l ++ choose b (whole ∷ []) []) ≡ (not (strikes l (area_by b)) && apart l)
      go true = behind l whole
      go false = rw (append-nil l, strikes_nowhere f.base l)

  strikes_before : (l : List Area) (a : Area) → strikes (placed f size ++ l) a ≡ (overlaps a (area_of f size) || strikes l a)
  strikes_before l a = go (is_set f)
    where
      go : (b : Bool) → strikes (choose b (whole ∷ []) [] ++ l) a ≡ (overlaps a (area_by b) || strikes l a)
      go true = strikes_cons a whole l
      go false = rw (overlaps_nowhere f.base a)

-- what the tests of the code say together
module _ (m : Machine) (f : Frames) (size : ℕ) (d s i : Area) (hf : f ≡ m.frames) (hs : size ≡ run_size m)
    (hd : d ≡ area_of f.distributor distributor_size) (hr : s ≡ area_of f.single size) (hi : i ≡ area_of f.its its_size) where
  abbrev regions : List Area
  regions = map region_area m.regions

  pub tests : apart (standing m) ≡ (not (overlaps i d || (overlaps i s || strikes regions i)) && (not (overlaps d s || strikes regions d) && (not (strikes regions s) && apart regions)))
  unfolding standing
  tests =
      rw (
        hd,
        hr,
        hi,
        hf,
        hs,
        apart_after m.frames.its its_size,
        append_assoc (placed m.frames.distributor distributor_size) (placed m.frames.single (run_size m)) regions,
        strikes_before m.frames.distributor distributor_size,
        apart_before m.frames.distributor distributor_size,
        strikes_before m.frames.single (run_size m) regions (area_of m.frames.its its_size),
        strikes_before m.frames.single (run_size m) regions (area_of m.frames.distributor distributor_size),
        apart_before m.frames.single (run_size m),
      )
