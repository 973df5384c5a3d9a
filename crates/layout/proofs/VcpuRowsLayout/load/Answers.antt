use Prim.Native.Nat.{ℕ, ◌+◌, ◌≤◌}
use native.Mathlib.Omega.{arith}
use mathlib.Core.Path.{◌≡◌, ap, sym, ◌∙◌}
use mathlib.Core.List.{List}
use lib.ListN.{take, drop}
use Rattle.words.specs.Words.{le_at}
use Rattle.words.proofs.Laws.{read_in, le_at-in}
use Rattle.layout.specs.Layout.{bank_of, vcpu_of}
use Rattle.layout.proofs.VcpuRowsLayout.load.Goals as goal

-- a number of the bank is one of the VCPU that holds it
bank_in : (s : List ℕ) (at off : ℕ) → off + 4 ≤ 12 → le_at (take 12 (drop (at + 4) s)) off 4 ≡ le_at (take 20 (drop at s)) (4 + off) 4
bank_in s at off h =
    le_at-in s (at + 4) 12 off 4 h ∙ ap (λ (i : ℕ). le_at s i 4) (omega arith) ∙ sym (le_at-in s at 20 (4 + off) 4 (omega arith))

pub returns : goal.returns
unfolding bank_of vcpu_of
returns c =
    let s = c.args.s.now in
    let at = c.args.at in
    let bank = c.load.ensures in
    λ i. record {
      affinity = read_in _ at 20 0 4 _ _ c.get32.ensures (omega arith) (omega arith) i;
      bank = record {
        latch = (ap (λ b. b.latch) bank ∙ bank_in s at 0 (omega arith)) i;
        level = (ap (λ b. b.level) bank ∙ bank_in s at 4 (omega arith)) i;
        trigger = (ap (λ b. b.trigger) bank ∙ bank_in s at 8 (omega arith)) i;
      };
      status = read_in _ at 20 16 4 _ _ c.get32-2.ensures (omega arith) (omega arith) i;
    }
