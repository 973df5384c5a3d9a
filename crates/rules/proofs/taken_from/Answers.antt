-- `rules::taken_from` meets its contract. Assumes nothing.
use mathlib.Core.Path.{ap, ◌∙◌}
use lib.ListN.{take, drop}
use Rattle.std.proofs.lemmas.List.{take_rest}
use Rattle.std.specs.List.{list_any}
use Rattle.rules.specs.Rules.{has_affinity}
use Rattle.rules.proofs.Rows.{taken_any}
use Rattle.rules.proofs.taken_from.Goals as goal

pub returns : goal.returns
returns c =
    let a = c.args.affinity in
    let vcpus = take c.args.v.count c.args.v.rows in
    c.any_has.ensures ∙ ap (list_any (has_affinity a)) (take_rest vcpus c.args.from) ∙ taken_any (drop c.args.from vcpus) a
