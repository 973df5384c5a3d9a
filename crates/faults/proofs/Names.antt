-- Two kinds of faults with one rank are one. Assumes nothing.
use mathlib.Core.Path.{◌≡◌, refl, sym, ap, ◌∙◌}
use Rattle.lists.specs.Rows.{find_ix}
use Rattle.tables.specs.Fault.{
  Kind,
  fault_pe,
  fault_repeat,
  fault17th,
  fault_next,
  fault_size,
  fault33rd,
  fault_outside,
  fault_overlap,
  fault_lpi,
  fault_icid,
  fault1025th,
}
use Rattle.codes.proofs.Same.{kind_by}
use Rattle.faults.specs.FaultAt.{rank}

rank_back : (c : Kind) → kind_by rank (rank c) ≡ c
unfolding kind_by find_ix
rank_back fault_pe = refl
rank_back fault_repeat = refl
rank_back fault17th = refl
rank_back fault_next = refl
rank_back fault_size = refl
rank_back fault33rd = refl
rank_back fault_outside = refl
rank_back fault_overlap = refl
rank_back fault_lpi = refl
rank_back fault_icid = refl
rank_back fault1025th = refl

pub rank_same : (a b : Kind) → rank a ≡ rank b → a ≡ b
rank_same a b e = sym (rank_back a) ∙ ap (kind_by rank) e ∙ rank_back b
