-- `mapping::keep_others` meets its contract. Assumes nothing.
use mathlib.Core.Path.{ap}
use mathlib.Core.Bool.{not}
use native.Mathlib.Omega.{arith}
use borrow.Author.Tests.{eq-eqb, ne_eqb}
use Rattle.mapping.specs.Mapped.{no_event}
use Rattle.mapping.proofs.Table.{keep_start, keep_yes, keep_no, keep_end}
use Rattle.mapping.proofs.keep_others.Goals as goal
use Rattle.mapping.proofs.keep_others.Goals.{then-e-id, else-e-id}

pub loop-i-init : goal.loop-i-init
loop-i-init c = keep_start _ _ _ c.requires

pub loop-i-preserved : goal.loop-i-preserved
loop-i-preserved c =
    elim c.if-e-id.branch [
      | then-e-id w ↦ rw (w.events-is, w.j-is)
          (keep_yes _ _ _ no_event _ _ _ c.loop-i-test.true c.loop-i.invariant (ap not (ne_eqb _ _ w.if-e-id.true)))
      | else-e-id w ↦ rw (w.events-is, w.j-is)
          (keep_no _ _ _ no_event _ _ _ c.loop-i-test.true c.loop-i.invariant (ap not (eq-eqb _ _ w.if-e-id.false)))
    ]

pub returns-clause-few : goal.returns-clause-few
returns-clause-few c = let v = c.loop-i.invariant in let e = v.end in let b = v.below in omega arith

pub returns-clause-kept : goal.returns-clause-kept
returns-clause-kept c =
    keep_end _ _ _ _ _ _ c.loop-i-test.false c.loop-i.invariant
