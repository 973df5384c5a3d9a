-- `areas::struck` meets its contract: the place that std's search finds, or the number of rows. Assumes nothing.
use native.Mathlib.Omega.{arith}
use mathlib.Core.Path.{◌≡◌, sym, ap, ◌∙◌}
use lib.ListN.{length}
use lib.Seq.{length-take-le}
use borrow.Author.Rules.{rules}
use Rattle.std.specs.Option.{unwrap_or}
use Rattle.std.specs.Prelude.{position}
use Rattle.lists.proofs.Searches.{found_or_length}
use Rattle.areas.specs.Area.{areas, overlaps, struck}
use Rattle.areas.proofs.struck.Goals as goal

pub returns : goal.returns
unfolding struck
returns c =
    let t = c.args.t in
    let l : length t.rows ≡ 36 = search rules in
    let n : length (areas t) ≡ t.count = length-take-le t.count t.rows (omega (arith, c.requires)) in
    let h : c.unwrap_or.result ≡ unwrap_or (position (overlaps c.args.a) (areas t)) t.count = search rules in
    h ∙ ap (unwrap_or (position (overlaps c.args.a) (areas t))) (sym n) ∙ found_or_length (overlaps c.args.a) (areas t)
