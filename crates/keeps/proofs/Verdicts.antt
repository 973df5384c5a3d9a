-- What the proofs of the tests need of the rules besides their definitions. Assumes nothing.
use Prim.Native.Nat.{ℕ, ◌≤◌}
use native.Mathlib.Omega.{arith}
use mathlib.Core.Path.{◌≡◌, refl}
use mathlib.Core.Bool.{true, ◌&&◌}
use mathlib.Core.List.{List}
use lib.ListN.{length, drop}
use lib.Dec.{leb}
use borrow.Author.Tests.{eq-eqb}
use Rattle.guest.specs.declared.Memory.{Memory}
use Rattle.guest.specs.declared.Table.{Table}
use Rattle.guest.specs.Machine.{shared_count}
use Rattle.words.specs.Words.{le_at}
use Rattle.words.proofs.Rows.{length-rows_of}
use Rattle.layout.specs.Layout.{memory_of, control_of, frames_of, bank_of, decode}
use Rattle.rules.specs.Rules.{memory_ok, control_ok, frames_ok, init_ok, vcpus_ok, last_ok, untouched, table_ok, tables_ok, its_ok, rules}
use Rattle.rules.proofs.Parts.{memory_parts, table_parts}

-- what the tests of memory and of a table say of two numbers
pub memory_narrow : (r : Memory) → memory_ok r ≡ true → r.width ≤ 52
memory_narrow r e = (memory_parts r e).narrow

pub table_small : (r : Memory) (t : Table) → table_ok r t ≡ true → t.pages ≤ 128
table_small r t e = omega (arith, (table_parts r t e).most)

-- the parts that are loaded from the bytes are the parts of what the bytes stand for
module _ (s : List ℕ) where
  pub memory_is : (decode s).memory ≡ memory_of s
  unfolding decode
  memory_is = refl

  pub control_is : (decode s).control ≡ control_of s
  unfolding decode
  control_is = refl

  pub frames_is : (decode s).frames ≡ frames_of s
  unfolding decode
  frames_is = refl

  -- bytes are read as having the shared banks that their interrupt count says
  shared_read : length (decode s).shared ≡ shared_count (decode s).control.irqs
  unfolding decode control_of
  shared_read = length-rows_of bank_of 12 (shared_count (le_at s 40 8)) (drop 1976 s)

  -- the rules of the guest that bytes hold, but for the number of shared banks, which bytes are read as having
  pub rules_are : rules (decode s) ≡ (memory_ok (decode s).memory && (control_ok (decode s).control && (frames_ok (decode s) && (init_ok (decode s)
      && (vcpus_ok (decode s).vcpus && (last_ok (decode s).shared && (untouched (decode s)
      && (leb (decode s).control.itsinit (decode s).frames.its.set && tables_ok (decode s)))))))))
  unfolding rules its_ok
  rules_are = rw (eq-eqb (length (decode s).shared) (shared_count (decode s).control.irqs) shared_read) refl
