use mathlib.Core.Path.{sym, ap, ◌∙◌}
use Rattle.guest.specs.Machine.{Machine}
use Rattle.rules.specs.Rules.{memory_ok}
use Rattle.calls.proofs.Laws.{setup_short, setup_refused, setup_done}
use Rattle.calls.proofs.set_up.Goals as goal

pub returns-then-state-ne11400 : goal.returns-then-state-ne11400
returns-then-state-ne11400 c = setup_short _ _ _ _ c.if-state-ne11400.true

pub returns-then-not-memory_ok : goal.returns-then-not-memory_ok
returns-then-not-memory_ok c =
    let e = ap (λ (m : Machine). memory_ok m.memory) c.new-g.ensures.0 in
    setup_refused _ _ _ _ c.if-state-ne11400.false (sym e ∙ sym c.memory_ok.ensures ∙ c.if-not-memory_ok.true)

pub store_mapping-requires : goal.store_mapping-requires
store_mapping-requires c =
    (c.if-state-ne11400.false, c.new-none.ensures.within)

pub store_guest-requires : goal.store_guest-requires
store_guest-requires c =
    (c.store_mapping.auto.s ∙ c.if-state-ne11400.false, c.new-g.ensures.1)

pub returns : goal.returns
returns c =
    let e = ap (λ (m : Machine). memory_ok m.memory) c.new-g.ensures.0 in
    setup_done _ _ _ _ c.if-state-ne11400.false _ _ _ _ (sym e ∙ sym c.memory_ok.ensures ∙ c.if-not-memory_ok.false)
    c.store_mapping.ensures c.new-none.ensures.is c.new-g.ensures.0
    c.store_guest.ensures
