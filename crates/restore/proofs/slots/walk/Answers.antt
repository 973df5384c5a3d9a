-- `restore::slots::walk` meets its contract. Assumes nothing.
use native.Mathlib.Omega.{arith}
use mathlib.Core.Path.{refl, ◌∙◌}
use Rattle.std.proofs.lemmas.Result.{err_from_is_err_and}
use Rattle.tables.specs.Restored.{walk}
use Rattle.restore.specs.Both.{slots_of}
use Rattle.restore.proofs.Walk.{walk_start, walk_none, walk_begun, walk_same, walk_inside, walk_bad, walk_last, walk_fault, walk_on, walk_less}
use Rattle.restore.proofs.slots.walk.Goals as goal

pub returns-then-n-at : goal.returns-then-n-at
returns-then-n-at g c =
    let a = c.args in
    let T = g.T.Chained in
    walk_none T.device a.t.now (λ m. T.visits a.table.now m a.t.now) (λ m. walk (slots_of T.device a.t.now) (T.visits a.table.now m a.t.now)) (λ m k. refl) _ _
    c.first_from-at.ensures c.if-n-at.true

pub loop-s-init : goal.loop-s-init
loop-s-init g c =
    (walk_start _ _ _ _ (λ m k. refl) _ _ c.first_from-at.ensures c.if-n-at.false, refl)

pub follow-requires : goal.follow-requires
follow-requires g c =
    walk_inside _ _ _ _ _ _ _ c.loop-s.invariant.0 c.requires.0

pub visit-requires : goal.visit-requires
visit-requires g c =
    let h = walk_inside _ _ _ _ _ _ _ c.loop-s.invariant.0 c.requires.0 in
    (walk_begun _ _ _ _ _ _ _ c.loop-s.invariant.0 c.requires.0, walk_same _ _ _ _ _ _ _ c.loop-s.invariant.0 c.requires.0 (g.T.Chained.ready c.args.table.now) c.requires.1, h, omega (arith, c.requires.2))

pub returns-in-Bad : goal.returns-in-Bad
returns-in-Bad g c =
    walk_bad _ _ _ _ _ _ _ c.loop-s.invariant.0 _ c.follow.ensures _ _ c.visit.ensures c.in-Bad.is

pub visit-requires-in-Last : goal.visit-requires-in-Last
visit-requires-in-Last g c =
    let h = walk_inside _ _ _ _ _ _ _ c.loop-s.invariant.0 c.requires.0 in
    (walk_begun _ _ _ _ _ _ _ c.loop-s.invariant.0 c.requires.0, walk_same _ _ _ _ _ _ _ c.loop-s.invariant.0 c.requires.0 (g.T.Chained.ready c.args.table.now) c.requires.1, h, omega (arith, c.requires.2))

pub returns-in-Last : goal.returns-in-Last
returns-in-Last g c =
    walk_last _ _ _ _ _ _ _ c.loop-s.invariant.0 _ c.follow.ensures _ _ c.visit-in-Last.ensures c.in-Last.is

pub visit-requires-in-At : goal.visit-requires-in-At
visit-requires-in-At g c =
    let h = walk_inside _ _ _ _ _ _ _ c.loop-s.invariant.0 c.requires.0 in
    (walk_begun _ _ _ _ _ _ _ c.loop-s.invariant.0 c.requires.0, walk_same _ _ _ _ _ _ _ c.loop-s.invariant.0 c.requires.0 (g.T.Chained.ready c.args.table.now) c.requires.1, h, omega (arith, c.requires.2))

pub returns-in_err-visit-in-At : goal.returns-in_err-visit-in-At
returns-in_err-visit-in-At g c =
    let p = err_from_is_err_and c.from_residual.result c.from_residual.ensures.1 in
    rw (p.1, p.2) (walk_fault _ _ _ _ _ _ _ c.loop-s.invariant.0 _ c.follow.ensures _ _ c.in-At.is _ c.in_err-visit-in-At.ensures)

pub loop-s-smaller : goal.loop-s-smaller
loop-s-smaller g c =
    walk_less _ _ _ _ _ _ _ c.loop-s.invariant.0 _ c.follow.ensures c.requires.0 _ c.in-At.is

pub loop-s-preserved : goal.loop-s-preserved
loop-s-preserved g c =
    (walk_on _ _ _ _ _ _ _ c.loop-s.invariant.0 _ c.follow.ensures _ _ c.in-At.is c.in_ok-visit-in-At.ensures, c.visit-in-At.auto.s ∙ c.loop-s.invariant.1)
