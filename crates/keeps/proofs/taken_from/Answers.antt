-- `keeps::taken_from` meets its contract. Assumes nothing.
use Prim.Native.Nat.{◌-◌}
use lib.ListN.{get_or}
use lib.Dec.{eqb}
use native.Mathlib.Omega.{arith}
use mathlib.Core.Path.{◌∙◌}
use borrow.Author.Rules.{rules}
use borrow.Author.Tests.{tests}
use Rattle.std.proofs.lemmas.Iterator.{YieldsList-from_range}
use Rattle.std.proofs.lemmas.Iterator.Search.{any_from_yields_List}
use Rattle.layout.specs.Layout.{decode}
use Rattle.guest.specs.Machine.{no_vcpu}
use Rattle.keeps.proofs.Rows.{vcpu_taken}
use Rattle.keeps.proofs.taken_from.Goals as goal

pub returns : goal.returns
returns c =
    let l = (decode c.args.s.now).vcpus in
    any_from_yields_List (λ i. eqb (get_or l i (no_vcpu 0)).affinity c.args.affinity) _ _ _ c.any.ensures.ran
    (YieldsList-from_range c.args.from c.vcpu_count.result (c.vcpu_count.result - c.args.from) (cc) (omega arith))
    (λ x b q k. search (rules, tests))
    ∙ vcpu_taken l c.args.affinity _ _ (omega (arith, c.vcpu_count.ensures, c.requires.from_in_bounds))
