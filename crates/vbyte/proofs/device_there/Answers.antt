-- `vbyte::device_there` meets its contract. Assumes nothing.
use mathlib.Core.Path.{sym}
use Rattle.lists.proofs.Member.{all_of, at_in}
use Rattle.vbyte.proofs.Laws.{v_byte}
use Rattle.vbyte.proofs.device_there.Goals as goal

pub returns : goal.returns
returns c =
    let t = c.args.t.now in
    sym (v_byte t c.args.i (all_of t (λ x m. let r = at_in t 0 m in rw (← r.2) (c.shared_slice_known-1.given r.0).fits)) c.requires)
