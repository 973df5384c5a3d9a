-- `restore::slots::follow` meets its contract. Assumes nothing.
use native.Mathlib.Omega.{arith}
use mathlib.Core.Path.{sym, ◌∙◌}
use Rattle.restore.proofs.Both.{leads_last, leads_out, leads_near, leads_blank, leads_far, leads_none}
use Rattle.restore.proofs.slots.follow.Goals as goal

pub returns-then-next-eq0 : goal.returns-then-next-eq0
returns-then-next-eq0 g c =
    leads_last _ _ _ _ _ c.entry_at.ensures c.next-next.ensures c.if-next-eq0.true

pub returns-then-n-i : goal.returns-then-n-i
returns-then-n-i g c =
    leads_out _ _ _ _ _ c.entry_at.ensures c.next-next.ensures c.if-next-eq0.false (omega (arith, c.if-n-i.true))

pub returns-then-valid : goal.returns-then-valid
returns-then-valid g c =
    leads_near _ _ _ _ _ c.entry_at.ensures c.next-next.ensures c.if-next-eq0.false (omega (arith, c.if-n-i.false))
    (sym c.is_exact.ensures ∙ c.if-is_exact.true) _ _ c.entry_at-then-is_exact.ensures c.valid.ensures c.if-valid.true

pub returns-then-is_exact : goal.returns-then-is_exact
returns-then-is_exact g c =
    leads_blank _ _ _ _ _ c.entry_at.ensures c.next-next.ensures c.if-next-eq0.false (omega (arith, c.if-n-i.false))
    (sym c.is_exact.ensures ∙ c.if-is_exact.true) _ _ c.entry_at-then-is_exact.ensures c.valid.ensures c.if-valid.false

pub returns-then-k-n : goal.returns-then-k-n
returns-then-k-n g c =
    leads_far _ _ _ _ _ c.entry_at.ensures c.next-next.ensures c.if-next-eq0.false (omega (arith, c.if-n-i.false))
    (sym c.is_exact.ensures ∙ c.if-is_exact.false) _ c.first_from-k.ensures c.if-k-n.true

pub returns : goal.returns
returns g c =
    leads_none _ _ _ _ _ c.entry_at.ensures c.next-next.ensures c.if-next-eq0.false (omega (arith, c.if-n-i.false))
    (sym c.is_exact.ensures ∙ c.if-is_exact.false) _ c.first_from-k.ensures c.if-k-n.false
