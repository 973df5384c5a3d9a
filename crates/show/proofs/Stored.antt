-- The mapping that a restore without a fault leaves in a state's bytes can be loaded again. Assumes nothing.
use Prim.Native.Nat.{ℕ, ◌<◌}
use native.Mathlib.Omega.{arith}
use mathlib.Core.Path.{◌≡◌, refl, ap, ◌∙◌}
use mathlib.Core.Logic.{inl, inr}
use mathlib.Core.List.{List}
use lib.ListN.{length}
use borrow.Author.Tests.{le-leb}
use Rattle.std.specs.Prelude.{Result, ⊤}
use Rattle.answers.specs.declared.Errno.{Errno}
use Rattle.guest.specs.Returned as returned
use Rattle.lists.proofs.All.{to_all}
use Rattle.layout.specs.Layout.{decode}
use Rattle.mapping.specs.Mapped.{Mapped}
use Rattle.mapkept.proofs.Edits.{all_weaker}
use Rattle.mapkept.proofs.Placing.{sound}
use Rattle.mapkept.proofs.Words.{mapping_words}
use Rattle.tables.specs.Fault.{kind_errno}
use Rattle.tables.specs.Restored.{Out, fault, found, restored}
use Rattle.described.proofs.Exact.{restored_ok}
use Rattle.described.proofs.Faults.{Known, number_known}
use Rattle.restore.specs.Begun.{Over}
use Rattle.restore.specs.Parts.{few_bits}
use Rattle.restore.specs.Restores.{errno_of, Restorable, Restores}

errno_positive : (e : ℕ) → Known e → 0 < e
errno_positive e (inl x) = omega arith
errno_positive e (inr (inl x)) = omega arith
errno_positive e (inr (inr x)) = omega arith

module _ (t mem : List ℕ) (a : Restorable t (length mem)) (r : Result ⊤ Errno) (left : List ℕ) (d : Restores t (restored (decode t) mem) r left) where
  read_over : (k : Mapped) → restored (decode t) mem ≡ found k → Over t k left
  read_over k x =
      let o = restored_ok (decode t) mem a.rules a.placed a.memory k x in
      let p = sound (decode t) k a.rules o in
      record {
        guest = a.counted;
        rules = a.rules;
        room = record { collections = p.few_collections; devices = p.few_devices; events = p.few_events };
        words = mapping_words (decode t) k a.rules o;
        few = to_all few_bits k.devices (all_weaker (λ v z. le-leb v.bits 16 z.most) k.devices p.devices);
        is = d.stored k x;
      }

  pub left_over : returned.fault r ≡ 0 → (k : Mapped) × (restored (decode t) mem ≡ found k) × Over t k left
  left_over z = by (restored (decode t) mem) refl
    where
      by : (o : Out) → restored (decode t) mem ≡ o → (k : Mapped) × (restored (decode t) mem ≡ found k) × Over t k left
      by (fault f) x = absurd (omega (arith, errno_positive (kind_errno f.kind) (number_known f.kind), d.is ∙ ap errno_of x, z))
      by (found k) x = (k, x, read_over k x)
