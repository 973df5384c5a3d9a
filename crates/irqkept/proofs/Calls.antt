-- Every call on interrupts and registers keeps a good guest good.
use Prim.Native.Nat.{ℕ, ◌<◌, ◌^◌}
use mathlib.Core.Path.{◌≡◌}
use Rattle.kept.specs.Good.{Keeps}
use Rattle.irqs.specs.Irqs.{irq_set, irq_clear, irq_line, irq_trigger}
use Rattle.irqs.specs.Registers.{set_group1, set_group5, set_group7}
use Rattle.irqs.proofs.Kept.{irq_set-kept, irq_clear-kept, irq_line-kept, irq_trigger-kept, set_group1-kept, set_group5-kept, set_group7-kept}
use Rattle.irqkept.proofs.Sound.{tame, kept_good}

pub irq_set-keeps : (k intid : ℕ) → Keeps (irq_set k intid)
irq_set-keeps k intid m h = kept_good m _ h (irq_set-kept k intid m (tame m h))

pub irq_clear-keeps : (k intid : ℕ) → Keeps (irq_clear k intid)
irq_clear-keeps k intid m h = kept_good m _ h (irq_clear-kept k intid m (tame m h))

pub irq_line-keeps : (k intid level : ℕ) → Keeps (irq_line k intid level)
irq_line-keeps k intid level m h = kept_good m _ h (irq_line-kept k intid m (tame m h) level)

pub irq_trigger-keeps : (k intid word : ℕ) → word < 2 ^ 32 → Keeps (irq_trigger k intid word)
irq_trigger-keeps k intid word l m h = kept_good m _ h (irq_trigger-kept k intid m (tame m h) word l)

-- a value of 4 bytes is a word
module _ (attribute width value : ℕ) (w : width ≡ 4 → value < 2 ^ 32) where
  pub set_group1-keeps : Keeps (set_group1 attribute width value)
  set_group1-keeps m h = kept_good m _ h (set_group1-kept attribute width value m (tame m h) w)

  pub set_group5-keeps : Keeps (set_group5 attribute width value)
  set_group5-keeps m h = kept_good m _ h (set_group5-kept attribute width value m (tame m h) w)

  pub set_group7-keeps : Keeps (set_group7 attribute width value)
  set_group7-keeps m h = kept_good m _ h (set_group7-kept attribute width value m (tame m h) w)
