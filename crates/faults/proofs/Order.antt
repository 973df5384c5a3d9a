-- Which of two faults is the earlier: never both, and always one of them. Assumes nothing.
use Prim.Native.Nat.{ℕ, ◌≤◌, ◌<◌}
use native.Mathlib.Omega.{arith}
use mathlib.Core.Path.{◌≡◌, refl, sym, ◌∙◌}
use mathlib.Core.Logic.{◌⊎◌, inl, inr, ⊎_elim}
use mathlib.Core.List.{List, [], ◌∷◌, ◌++◌}
use lib.ListN.{length}
use Rattle.areas.proofs.Tests.{lt_or_ge}
use Rattle.tables.specs.Fault.{Place, at_collection, at_device, at_event, Kind, Fault, at}
use Rattle.faults.specs.FaultAt.{rank, turn, Lower, Earlier}
use Rattle.faults.proofs.Names.{rank_same}

-- ---- rows of numbers

first : {R : Type 0} {x y : ℕ} → (x < y) ⊎ ((x ≡ y) × R) → x ≤ y
first (inl h) = omega arith
first (inr p) = let e = p.0 in omega arith

rest : {R : Type 0} {x : ℕ} → (x < x) ⊎ ((x ≡ x) × R) → R
rest (inl h) = absurd (omega arith)
rest (inr p) = p.1

-- behind the same numbers the last decides
lower_last : (l : List ℕ) (a b : ℕ) → Lower (l ++ (a ∷ [])) (l ++ (b ∷ [])) → a < b
lower_last [] a b (inl h) = h
lower_last [] a b (inr p) = absurd p.1
lower_last (x ∷ l) a b h = lower_last l a b (rest h)

lower_total : (xs ys : List ℕ) → length xs ≡ length ys → Lower xs ys ⊎ ((xs ≡ ys) ⊎ Lower ys xs)
lower_total [] [] e = inr (inl refl)
lower_total [] (y ∷ ys) e = absurd (omega arith)
lower_total (x ∷ xs) [] e = absurd (omega arith)
lower_total (x ∷ xs) (y ∷ ys) e = ⊎_elim
    (λ (l : x < y). inl (inl l))
    (λ (l : y ≤ x). ⊎_elim
    (λ (n : y < x). inr (inr (inl n)))
    (λ (n : x ≤ y). let q : x ≡ y = omega arith in by q (lower_total xs ys (omega arith)))
    (lt_or_ge y x))
    (lt_or_ge x y)
  where
    by : x ≡ y → Lower xs ys ⊎ ((xs ≡ ys) ⊎ Lower ys xs) → Lower (x ∷ xs) (y ∷ ys) ⊎ (((x ∷ xs) ≡ (y ∷ ys)) ⊎ Lower (y ∷ ys) (x ∷ xs))
    by q (inl r) = inl (inr (q, r))
    by q (inr (inl r)) = inr (inl (cc))
    by q (inr (inr r)) = inr (inr (inr (sym q, r)))

-- ---- faults

-- at one place the rank decides
pub same_place : (p : Place) (a b : Kind) → Earlier (at p a) (at p b) → rank a < rank b
same_place p a b h = lower_last (turn p) (rank a) (rank b) h

pub not_self : (f : Fault) → Earlier f f → ⊥
not_self f h = let l = same_place f.place f.kind f.kind h in omega arith

-- in the collection table the index decides; a device and its events are behind that table, and among them the device decides
pub collection_order : (i j : ℕ) (a b : Kind) → Earlier (at (at_collection i) a) (at (at_collection j) b) → i ≤ j
collection_order i j a b h = first (rest h)

pub data Under (d : ℕ) : Place → Type 0 where
  under_device : Under d (at_device d)
  under_event : (e : ℕ) → Under d (at_event d e)

pub table_order : (p : Place) (d i : ℕ) (a b : Kind) → Under d p → Earlier (at p a) (at (at_collection i) b) → ⊥
table_order p d i a b under_device h = let l = first h in omega arith
table_order p d i a b (under_event e) h = let l = first h in omega arith

pub device_order : (p q : Place) (d x : ℕ) (a b : Kind) → Under d p → Under x q → Earlier (at p a) (at q b) → d ≤ x
device_order p q d x a b under_device under_device h = first (rest h)
device_order p q d x a b under_device (under_event f) h = first (rest h)
device_order p q d x a b (under_event e) under_device h = first (rest h)
device_order p q d x a b (under_event e) (under_event f) h = first (rest h)

-- no event is before its device, and among a device's events the index decides
pub event_behind : (d e : ℕ) (a b : Kind) → Earlier (at (at_event d e) a) (at (at_device d) b) → ⊥
event_behind d e a b h = let l = first (rest (rest h)) in omega arith

pub event_order : (d e x : ℕ) (a b : Kind) → Earlier (at (at_event d e) a) (at (at_event d x) b) → e ≤ x
event_order d e x a b h = first (rest (rest (rest h)))

-- ---- always one of them

no_turn : {B : Type 0} → ◌≡◌ {A = ℕ} 0 1 → B
no_turn e = absurd (omega arith)

abbrev keys : Fault → List ℕ
keys f = turn f.place ++ (rank f.kind ∷ [])

keys_same : (p q : Place) (a b : Kind) → keys (at p a) ≡ keys (at q b) → at p a ≡ at q b
keys_same (at_collection i) (at_collection j) a b e = let c = rank_same a b (cc) in cc
keys_same (at_collection i) (at_device j) a b e = no_turn (cc)
keys_same (at_collection i) (at_event j x) a b e = no_turn (cc)
keys_same (at_device i) (at_collection j) a b e = no_turn (cc)
keys_same (at_device i) (at_device j) a b e = let c = rank_same a b (cc) in cc
keys_same (at_device i) (at_event j x) a b e = no_turn (cc)
keys_same (at_event i y) (at_collection j) a b e = no_turn (cc)
keys_same (at_event i y) (at_device j) a b e = no_turn (cc)
keys_same (at_event i y) (at_event j x) a b e = let c = rank_same a b (cc) in cc

keys_length : (f : Fault) → length (keys f) ≡ 5
keys_length f = by f.place
  where
    by : (p : Place) → length (turn p ++ (rank f.kind ∷ [])) ≡ 5
    by (at_collection i) = refl
    by (at_device d) = refl
    by (at_event d e) = refl

pub total : (f g : Fault) → Earlier f g ⊎ ((f ≡ g) ⊎ Earlier g f)
total f g = by (lower_total (keys f) (keys g) (keys_length f ∙ sym (keys_length g)))
  where
    by : Lower (keys f) (keys g) ⊎ ((keys f ≡ keys g) ⊎ Lower (keys g) (keys f)) → Earlier f g ⊎ ((f ≡ g) ⊎ Earlier g f)
    by (inl l) = inl l
    by (inr (inl e)) = inr (inl (keys_same f.place g.place f.kind g.kind e))
    by (inr (inr l)) = inr (inr l)
