use mathlib.Core.Path.{◌≡◌}
use Rattle.std.proofs.Common.{rules, Err}
use Rattle.calls.proofs.Laws.{checked, parts, guest_kept, ask_refuses, ask_answers}
use Rattle.calls.proofs.ask.Goals as goal

pub returns-in_err-check : goal.returns-in_err-check
returns-in_err-check c =
    let e = c.in_err-check.field-0.0 in
    let back : c.from_residual.result ≡ Err e = search rules in
    ask_refuses c.args.q _ e back c.in_err-check.ensures

pub load_guest-requires : goal.load_guest-requires
load_guest-requires c = let k = checked _ c.in_ok-check.ensures in (k.0, (parts _ k.1).counts)

pub answer-requires : goal.answer-requires
answer-requires c = guest_kept _ (checked _ c.in_ok-check.ensures).1 _ c.load_guest.ensures

pub returns : goal.returns
returns c = ask_answers c.args.q _ c.answer.result c.in_ok-check.ensures c.load_guest.result c.load_guest.ensures.0 c.answer.ensures
