use Prim.Native.Nat.{◌+◌, ◌*◌}
use native.Mathlib.Omega.{arith}
use mathlib.Core.Path.{◌≡◌, refl, sym, subst}
use Rattle.words.specs.Words.{bytes_all, put_at}
use Rattle.words.proofs.Laws.{put_at-none}
use Rattle.words.proofs.Rows.{store_turn}
use Rattle.layout.proofs.store_rows.Goals as goal

pub loop-i-init : goal.loop-i-init
unfolding bytes_all
loop-i-init g c = record { upto = omega arith; long = omega arith; same = refl; rows = sym (put_at-none _ _) }

pub loop-i-preserved : goal.loop-i-preserved
loop-i-preserved g c =
    let t = g.T.Layout in
    store_turn t.bytes t.SIZE g.met.T.Layout.sized _ _ _ _ c.index-rows-i.result c.requires _ _ _ c.loop-i-test.true c.put_row.auto.s
    (subst (λ x. c.put_row.new.s ≡ put_at c.loop-i.s (t.START + c.loop-i.i * t.SIZE) (t.bytes x)) c.index-rows-i.is c.put_row.ensures) c.loop-i.invariant
