-- A code is above 0 and stands for one fault (§13.6). Assumes nothing.
use Prim.Native.Nat.{ℕ, ◌<◌}
use native.Mathlib.Omega.{arith}
use mathlib.Core.Path.{◌≡◌, refl, sym, ap, ◌∙◌}
use mathlib.Core.List.{List, [], ◌∷◌}
use lib.ListN.{get_or}
use lib.Dec.{eqb}
use Rattle.lists.specs.Rows.{find_ix}
use Rattle.tables.specs.Fault.{
  Place,
  at_collection,
  at_device,
  at_event,
  Kind,
  fault_pe,
  fault_repeat,
  fault17th,
  fault_next,
  fault_size,
  fault33rd,
  fault_outside,
  fault_overlap,
  fault_lpi,
  fault_icid,
  fault1025th,
  Fault,
  kind_number,
  place_number,
  code,
  Indexed,
}
use Rattle.codes.proofs.Numbers.{numbered, place_few}

abbrev pub kinds : List Kind
kinds = fault_pe ∷ fault_repeat ∷ fault17th ∷ fault_next ∷ fault_size ∷ fault33rd ∷ fault_outside ∷ fault_overlap ∷ fault_lpi ∷ fault_icid ∷ fault1025th ∷ []

-- the kind with this number, however they are numbered
unfoldable pub kind_by : (Kind → ℕ) → ℕ → Kind
kind_by number n = get_or kinds (find_ix (λ c. eqb (number c) n) kinds) fault_pe

number_back : (c : Kind) → kind_by kind_number (kind_number c) ≡ c
unfolding kind_by find_ix
number_back fault_pe = refl
number_back fault_repeat = refl
number_back fault17th = refl
number_back fault_next = refl
number_back fault_size = refl
number_back fault33rd = refl
number_back fault_outside = refl
number_back fault_overlap = refl
number_back fault_lpi = refl
number_back fault_icid = refl
number_back fault1025th = refl

number_same : (a b : Kind) → kind_number a ≡ kind_number b → a ≡ b
number_same a b e = sym (number_back a) ∙ ap (kind_by kind_number) e ∙ number_back b

place_same : (p q : Place) → Indexed p → Indexed q → place_number p ≡ place_number q → p ≡ q
place_same (at_collection i) (at_collection j) x y e = let h : i ≡ j = omega arith in ap at_collection h
place_same (at_collection i) (at_device j) x y e = absurd (omega arith)
place_same (at_collection i) (at_event j v) x y e = absurd (omega (arith, y.0, y.1))
place_same (at_device i) (at_collection j) x y e = absurd (omega arith)
place_same (at_device i) (at_device j) x y e = let h : i ≡ j = omega arith in ap at_device h
place_same (at_device i) (at_event j v) x y e = absurd (omega (arith, y.0, y.1))
place_same (at_event i u) (at_collection j) x y e = absurd (omega (arith, x.0, x.1))
place_same (at_event i u) (at_device j) x y e = absurd (omega (arith, x.0, x.1))
place_same (at_event i u) (at_event j v) x y e =
    let a : i ≡ j = omega (arith, x.0, x.1, y.0, y.1) in
    let b : u ≡ v = omega (arith, x.0, x.1, y.0, y.1) in
    cc

pub code_same : (f g : Fault) → Indexed f.place → Indexed g.place → code f ≡ code g → f ≡ g
code_same f g x y e =
    let a = place_few f.place x in
    let b = place_few g.place y in
    let c : kind_number f.kind ≡ kind_number g.kind = omega arith in
    let k = number_same f.kind g.kind c in
    let p = place_same f.place g.place x y (omega arith) in
    λ j. record { place = p j; kind = k j }

pub code_above : (f : Fault) → 0 < code f
code_above f = omega (arith, (numbered f.kind).some)
