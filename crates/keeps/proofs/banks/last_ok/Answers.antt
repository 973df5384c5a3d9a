-- `keeps::banks::last_ok` meets its contract where there is no such row. Assumes nothing.
use Prim.Native.Nat.{◌≤◌}
use native.Mathlib.Omega.{arith}
use mathlib.Core.Path.{◌≡◌, ◌∙◌}
use mathlib.Core.Bool.{true}
use mathlib.Core.List.{List}
use lib.ListN.{length}
use borrow.Author.Tests.{le-leb}
use Rattle.std.proofs.lemmas.List.{get_or_past}
use Rattle.guest.specs.declared.Bank.{Bank}
use Rattle.guest.specs.Machine.{no_bank, bank_bits}
use Rattle.rules.specs.Rules.{bank_fits, last_ok}
use Rattle.keeps.proofs.banks.last_ok.Goals as goal

last_none : (bs : List Bank) → length bs ≤ 30 → true ≡ last_ok bs
unfolding last_ok bank_fits bank_bits
last_none bs h = rw (get_or_past bs 30 no_bank h)

pub returns-then-bank_count-le30 : goal.returns-then-bank_count-le30
returns-then-bank_count-le30 c =
    le-leb _ _ c.if-bank_count-le30.true ∙ last_none _ (omega (arith, c.bank_count.ensures, c.if-bank_count-le30.true))
