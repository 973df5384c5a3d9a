-- `mapcheck::find_row` meets its contract. Assumes nothing.
use native.Mathlib.Omega.{arith}
use mathlib.Core.Path.{sym, ◌∙◌}
use Rattle.mapping.proofs.Table.{seek_start}
use Rattle.mapcheck.proofs.Loops.{key_here, key_turn, key_end}
use Rattle.mapcheck.proofs.find_row.Goals as goal

pub loop-i-init : goal.loop-i-init
loop-i-init g c = λ l d r. seek_start _ _ _ _ (omega (arith, r.count))

pub returns-then-key : goal.returns-then-key
returns-then-key g c =
    λ l d r. key_here g.T.Keyed.key _ d _ l _ (c.loop-i.invariant l d r) r.count (r.row _ _ c.at.ensures) c.loop-i-test.true (sym c.key.ensures ∙ c.if-key.true)

pub loop-i-preserved : goal.loop-i-preserved
loop-i-preserved g c =
    λ l d r. key_turn g.T.Keyed.key _ d _ l _ (c.loop-i.invariant l d r) (r.row _ _ c.at.ensures) c.loop-i-test.true (λ e. c.if-key.false (c.key.ensures ∙ e))

pub returns : goal.returns
returns g c = λ l d r. key_end g.T.Keyed.key _ d _ l _ (c.loop-i.invariant l d r) r.count c.loop-i-test.false
