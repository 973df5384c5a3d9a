-- The fault of a code is the one that it was made of, and what a part of a code stands for. Assumes nothing.
use Prim.Native.Nat.{ℕ, ◌+◌, ◌*◌, ◌^◌, ◌≤◌, ◌<◌}
use native.Mathlib.Omega.{arith}
use mathlib.Core.Path.{◌≡◌, refl, ap, ◌∙◌}
use borrow.Author.Tests.{ne_eqb}
use Rattle.fields.specs.Field.{get_field}
use Rattle.fields.proofs.Laws.{get_lt}
use Rattle.tables.specs.Fault.{
  Place,
  at_collection,
  at_device,
  at_event,
  Kind,
  fault_pe,
  fault_repeat,
  fault17th,
  fault_next,
  fault_size,
  fault33rd,
  fault_outside,
  fault_overlap,
  fault_lpi,
  fault_icid,
  fault1025th,
  Fault,
  at,
  kind_number,
  code,
  Indexed,
}
use Rattle.codes.proofs.Numbers.{numbered}
use Rattle.naming.specs.Naming.{kind_of, place_in, fault_of}

pub kind_number_lem : (k : Kind) → kind_of (kind_number k) ≡ k
unfolding kind_of
kind_number_lem fault_pe = refl
kind_number_lem fault_repeat = refl
kind_number_lem fault17th = refl
kind_number_lem fault_next = refl
kind_number_lem fault_size = refl
kind_number_lem fault33rd = refl
kind_number_lem fault_outside = refl
kind_number_lem fault_overlap = refl
kind_number_lem fault_lpi = refl
kind_number_lem fault_icid = refl
kind_number_lem fault1025th = refl

-- a number that no kind has
pub kind_other : (n : ℕ) → ((k : Kind) → n ≡ kind_number k → ⊥) → fault1025th ≡ kind_of n
unfolding kind_of
kind_other n h =
    rw (
      ne_eqb n 1 (h fault_pe),
      ne_eqb n 2 (h fault_repeat),
      ne_eqb n 3 (h fault17th),
      ne_eqb n 4 (h fault_next),
      ne_eqb n 5 (h fault_size),
      ne_eqb n 6 (h fault33rd),
      ne_eqb n 7 (h fault_outside),
      ne_eqb n 8 (h fault_overlap),
      ne_eqb n 9 (h fault_lpi),
      ne_eqb n 10 (h fault_icid),
    )

-- a field of 16 bits, wherever it stands
pub fits16 : (n c pos : ℕ) → n ≡ get_field c pos 16 → n < 2 ^ 16
fits16 n c pos e = rw e (get_lt c pos 16)

-- a number that is put together as a code is
abbrev packed : ℕ → ℕ → ℕ → ℕ → ℕ
packed k t d i = k * 2 ^ 40 + (t * 2 ^ 32 + d * 2 ^ 16 + i)

module _ (k t d i : ℕ) (hk : k ≤ 11) (ht : t < 256) (hd : d < 65536) (hi : i < 65536) where
  kind_part : get_field (packed k t d i) 40 8 ≡ k
  unfolding get_field
  kind_part = omega arith

  table_part : get_field (packed k t d i) 32 8 ≡ t
  unfolding get_field
  table_part = omega arith

  device_part : get_field (packed k t d i) 16 16 ≡ d
  unfolding get_field
  device_part = omega arith

  entry_part : get_field (packed k t d i) 0 16 ≡ i
  unfolding get_field
  entry_part = omega arith

  parts : (c : ℕ) → c ≡ packed k t d i → fault_of c ≡ at (place_in t d i) (kind_of k)
  unfolding fault_of
  parts c is = rw (is, kind_part, table_part, device_part, entry_part)

placed : (p : Place) (k : Kind) → Indexed p → fault_of (code (at p k)) ≡ at p (kind_of (kind_number k))
unfolding place_in
placed (at_collection i) k h = parts (kind_number k) 1 0 i (numbered k).most (omega arith) (omega arith) h _ (omega arith)
placed (at_device i) k h = parts (kind_number k) 2 0 i (numbered k).most (omega arith) (omega arith) h _ (omega arith)
placed (at_event d i) k h = parts (kind_number k) 3 d i (numbered k).most (omega arith) h.0 h.1 _ (omega arith)

pub fault_of_code : (f : Fault) → Indexed f.place → fault_of (code f) ≡ f
fault_of_code f h = placed f.place f.kind h ∙ ap (at f.place) (kind_number_lem f.kind)
