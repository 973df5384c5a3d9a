use native.Mathlib.Omega.{arith}
use mathlib.Core.Path.{refl, sym}
use Rattle.words.specs.Words.{bytes_all, bytes_of}
use Rattle.words.proofs.Laws.{put_at-none, length-bytes_of}
use Rattle.words.proofs.Rows.{store_turn}
use Rattle.layout.proofs.store_words.Goals as goal

pub loop-i-init : goal.loop-i-init
unfolding bytes_all
loop-i-init c = record { upto = omega arith; long = omega arith; same = refl; rows = sym (put_at-none _ _) }

pub loop-i-preserved : goal.loop-i-preserved
loop-i-preserved c =
    store_turn (bytes_of 8) 8 (length-bytes_of 8) _ _ _ _ 0 c.requires _ _ _ c.loop-i-test.true c.put64.auto.s c.put64.ensures c.loop-i.invariant
