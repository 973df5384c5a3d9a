-- `xics::ask_delivery` meets its contract. Assumes nothing.
use Rattle.xics.proofs.Laws.{begun, ask_lost, ask_tells}
use Rattle.xics.proofs.ask_delivery.Goals as goal

pub returns-in_err-v : goal.returns-in_err-v
returns-in_err-v c =
    absurd (ask_lost _ _ (begun _ c.in_ok-check_bytes.ensures) _ _ c.in_ok-w.ensures.fault c.in_ok-w.ensures.word c.server_of.ensures _ c.in_err-v.ensures.fault)

pub returns : goal.returns
returns c =
    ask_tells _ _ (begun _ c.in_ok-check_bytes.ensures) _ _ c.in_ok-w.ensures.fault c.in_ok-w.ensures.word c.server_of.ensures
    _ _ _ c.in_ok-v.ensures.word c.is_deliverable.ensures c.from.ensures
