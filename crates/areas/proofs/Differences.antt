-- What the code's differences say of areas whose ends are sums. Assumes nothing.
use Prim.Native.Nat.{ℕ, ◌-◌, ◌≤◌, ◌<◌, min, max}
use native.Mathlib.Omega.{arith}
use mathlib.Core.Path.{◌≡◌}
use mathlib.Core.Bool.{false}
use lib.Dec.{ltb, leb}
use borrow.Author.Tests.{le-leb, lt-leb}
use Rattle.areas.specs.declared.Area.{Area}
use Rattle.areas.specs.Area.{overlaps, ends_by, inside, end_of}
use Rattle.areas.proofs.Tests.{ltb_same, leb_same}

module _ (a b : Area) where
  abbrev later : ℕ
  later = max a.start b.start

  abbrev earlier : ℕ
  earlier = min (end_of a) (end_of b)

  pub first_reaches : a.start ≤ b.start → b.start - a.start < a.size → ltb 0 b.size ≡ overlaps a b
  unfolding overlaps
  first_reaches h g = ltb_same 0 b.size later earlier (λ k. omega arith) (λ k. omega arith)

  pub first_short : a.start ≤ b.start → a.size ≤ b.start - a.start → ltb (b.start - a.start) a.size ≡ overlaps a b
  unfolding overlaps
  first_short h g = ltb_same (b.start - a.start) a.size later earlier (λ k. omega arith) (λ k. omega arith)

  pub second_reaches : b.start < a.start → a.start - b.start < b.size → ltb 0 a.size ≡ overlaps a b
  unfolding overlaps
  second_reaches h g = ltb_same 0 a.size later earlier (λ k. omega arith) (λ k. omega arith)

  pub second_short : b.start < a.start → b.size ≤ a.start - b.start → ltb (a.start - b.start) b.size ≡ overlaps a b
  unfolding overlaps
  second_short h g = ltb_same (a.start - b.start) b.size later earlier (λ k. omega arith) (λ k. omega arith)

module _ (limit : ℕ) (a : Area) where
  pub ends_low : a.start ≤ limit → leb a.size (limit - a.start) ≡ ends_by limit a
  unfolding ends_by
  ends_low h = leb_same a.size (limit - a.start) (end_of a) limit (λ k. omega arith) (λ k. omega arith)

  pub ends_high : limit < a.start → leb a.start limit ≡ ends_by limit a
  unfolding ends_by
  ends_high h = leb_same a.start limit (end_of a) limit (λ k. omega arith) (λ k. omega arith)

module _ (w a : Area) where
  pub starts_before : a.start < w.start → false ≡ inside w a
  unfolding inside
  starts_before h = rw (lt-leb w.start a.start h)

  pub starts_after : w.start ≤ a.start → w.size < a.start - w.start → leb (a.start - w.start) w.size ≡ inside w a
  unfolding inside
  starts_after h g =
      rw (le-leb w.start a.start h)
      (leb_same (a.start - w.start) w.size (end_of a) (end_of w) (λ k. omega arith) (λ k. omega arith))

  pub starts_within : w.start ≤ a.start → a.start - w.start ≤ w.size → leb a.size (w.size - (a.start - w.start)) ≡ inside w a
  unfolding inside
  starts_within h g =
      rw (le-leb w.start a.start h)
      (leb_same a.size (w.size - (a.start - w.start)) (end_of a) (end_of w) (λ k. omega arith) (λ k. omega arith))
