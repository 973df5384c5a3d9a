-- What every call on banks and registers keeps: words of as many bits as the bank has interrupts, SGIs edge with level 0, and all that is
-- no bank and no status; before INIT everything.
use Prim.Native.Nat.{ℕ, ◌-◌, ◌/◌, ◌%◌, ◌^◌, ◌≤◌, ◌<◌}
use native.Mathlib.Omega.{arith}
use mathlib.Core.Path.{◌≡◌, refl, ◌∙◌}
use mathlib.Core.Bool.{Bool, true, false}
use mathlib.Core.List.{List, map}
use lib.ListN.{length, get_or, set, length-set}
use lib.Seq.{map-set_same}
use lib.Dec.{ltb, eqb, lit<}
use borrow.Author.Tests.{eqb-true, ltb-true, ltb-false}
use Rattle.lists.specs.Rows.{choose}
use Rattle.lists.proofs.All.{All}
use Rattle.fields.specs.Field.{get_field, put_field}
use Rattle.fields.proofs.Laws.{get_put, get_below}
use Rattle.guest.specs.declared.Bank.{Bank}
use Rattle.guest.specs.declared.Vcpu.{Vcpu}
use Rattle.guest.specs.Machine.{Machine, Result, no_bank, no_vcpu, bank_bits, initialised, with_vcpus, with_shared}
use Rattle.guest.specs.Words.{BankFits, BankWords}
use Rattle.guest.proofs.Anchors.{bits_most}
use Rattle.irqs.specs.declared.Spot.{Spot}
use Rattle.irqs.specs.declared.Spot.TheVariants.{Own, Shared, Absent}
use Rattle.irqs.specs.declared.Register.{Register}
use Rattle.irqs.specs.declared.Register.TheVariants.{Latch, Zero, Status, Unknown}
use Rattle.banks.specs.Bank.{rises, raised, lowered, lined, with_latch, with_level, with_trigger, trimmed}
use Rattle.irqs.specs.Spots.{shared_spot, spot_of, vcpu_at, with_vcpu, own_bank, bank_of, with_bank, trigger_word, level_word, vcpu_of}
use Rattle.irqs.specs.Irqs.{irq_fault, change_irq, irq_set, irq_clear, irq_line, irq_trigger}
use Rattle.irqs.specs.Registers.{distributor_register, redistributor_register, access_fault, is_known, register_fault, with_status, distributor_write, redistributor_write, vcpu_status, offset_of, affinity_of, set_group1, group5_fault, set_group5, group7_fault, level_spot, set_group7}
use Rattle.irqs.proofs.Lists.{all_get_d, all_set, at_set, choose_by}
use Rattle.irqs.proofs.Anchors.{fault_none}
use Rattle.banks.proofs.Words.{low_put}
use Rattle.banks.proofs.Fits.{fits_more, trimmed_fits, raised_fits, lowered_fits, lined_fits}

-- a VCPU's own bank has its SGIs edge, with level 0
pub record OwnOk (v : Vcpu) : Type 0 where
  pub affinity : v.affinity < 2 ^ 32
  pub bank : BankWords v.bank
  pub status : v.status < 16
  pub trigger : get_field v.bank.trigger 0 16 ≡ 65535
  pub level : get_field v.bank.level 0 16 ≡ 0

pub record Tame (m : Machine) : Type 0 where
  pub vcpus : All OwnOk m.vcpus
  pub shared : All BankWords m.shared
  pub last : BankFits (bank_bits 30) (get_or m.shared 30 no_bank)
  pub status : m.control.status < 16

abbrev pub affinities : Machine → List ℕ
affinities m = map (λ (v : Vcpu). v.affinity) m.vcpus

-- all that no call on banks and registers changes
pub record Same (m m' : Machine) : Type 0 where
  pub memory : m'.memory ≡ m.memory
  pub frames : m'.frames ≡ m.frames
  pub regions : m'.regions ≡ m.regions
  pub tables : m'.tables ≡ m.tables
  pub init : m'.control.init ≡ m.control.init
  pub running : m'.control.running ≡ m.control.running
  pub irqs : m'.control.irqs ≡ m.control.irqs
  pub irqsset : m'.control.irqsset ≡ m.control.irqsset
  pub itsinit : m'.control.itsinit ≡ m.control.itsinit
  pub affinities : affinities m' ≡ affinities m
  pub vcpus : length m'.vcpus ≡ length m.vcpus
  pub shared : length m'.shared ≡ length m.shared

pub record Kept (m m' : Machine) : Type 0 where
  pub tame : Tame m'
  pub same : Same m m'
  pub early : (m.control.init ≡ 1 → ⊥) → m' ≡ m

-- other banks and statuses, with the same affinities
module _ (m : Machine) (vs : List Vcpu) (bs : List Bank) (s : ℕ) where
  abbrev replaced : Machine
  replaced = with_vcpus vs (with_shared bs (with_status s m))

  same_with : map (λ (v : Vcpu). v.affinity) vs ≡ affinities m → length vs ≡ length m.vcpus → length bs ≡ length m.shared → Same m replaced
  same_with a l h = record {
    memory = refl;
    frames = refl;
    regions = refl;
    tables = refl;
    init = refl;
    running = refl;
    irqs = refl;
    irqsset = refl;
    itsinit = refl;
    affinities = a;
    vcpus = l;
    shared = h;
  }

pub same_refl : (m : Machine) → Same m m
same_refl m = same_with m m.vcpus m.shared m.control.status refl refl refl

keep : (m : Machine) → Tame m → Kept m m
keep m t = record { tame = t; same = same_refl m; early = λ n. refl }

-- what a bank at a spot keeps
pub record Sgis (b : Bank) : Type 0 where
  pub trigger : get_field b.trigger 0 16 ≡ 65535
  pub level : get_field b.level 0 16 ≡ 0

abbrev pub SgisAt : Spot → Bank → Type 0
SgisAt (Own k) b = Sgis b
SgisAt (Shared j) b = Unit
SgisAt Absent b = Unit

pub record Fit (s : Spot) (b : Bank) : Type 0 where
  pub words : BankWords b
  pub sgis : SgisAt s b

none_ok : BankWords no_bank
none_ok = record { latch = lit< tt; level = lit< tt; trigger = lit< tt }

fresh_ok : OwnOk (no_vcpu 0)
unfolding get_field
fresh_ok = record {
  affinity = lit< tt;
  bank = record { latch = lit< tt; level = lit< tt; trigger = lit< tt };
  status = lit< tt;
  trigger = refl;
  level = refl;
}

pub vcpu_ok_lem : (m : Machine) → Tame m → (k : ℕ) → OwnOk (vcpu_at k m)
vcpu_ok_lem m t k = all_get_d m.vcpus k (no_vcpu 0) fresh_ok t.vcpus

pub bank_fit : (m : Machine) → Tame m → (s : Spot) → Fit s (bank_of s m)
bank_fit m t (Own k) = let v = vcpu_ok_lem m t k in record { words = v.bank; sgis = record { trigger = v.trigger; level = v.level } }
bank_fit m t (Shared j) = record { words = all_get_d m.shared j no_bank none_ok t.shared; sgis = tt }
bank_fit m t Absent = record { words = none_ok; sgis = tt }

-- after INIT: a VCPU replaced by one with its affinity
vcpu_kept : (m : Machine) → Tame m → m.control.init ≡ 1 → (k : ℕ) (v : Vcpu) → v.affinity ≡ (vcpu_at k m).affinity → OwnOk v → Kept m (with_vcpu k v m)
vcpu_kept m t i k v e h = record {
  tame = record { vcpus = all_set m.vcpus k v h t.vcpus; shared = t.shared; last = t.last; status = t.status };
  early = λ n. absurd (n i);
  same = same_with m (set m.vcpus k v) m.shared m.control.status
      (map-set_same (λ (x : Vcpu). x.affinity) m.vcpus k v (no_vcpu 0) e) (length-set m.vcpus k v) refl;
}

-- a bank replaced by a good one, at any spot; what is stored of a shared one fits it whatever it is
pub bank_kept : (m : Machine) → Tame m → m.control.init ≡ 1 → (s : Spot) (b : Bank) → Fit s b → Kept m (with_bank s b m)
bank_kept m t i (Own k) b f =
    let v = vcpu_ok_lem m t k in
    vcpu_kept m t i k (own_bank (vcpu_at k m) b) refl (record {
      affinity = v.affinity;
      bank = f.words;
      status = v.status;
      trigger = f.sgis.trigger;
      level = f.sgis.level;
    })
bank_kept m t i (Shared j) b f =
    let x = trimmed (bank_bits j) b in
    let fits = trimmed_fits (bank_bits j) b in
    record {
      tame = record {
        vcpus = t.vcpus;
        shared = all_set m.shared j x (fits_more x (bits_most j) fits) t.shared;
        last = at_set (BankFits (bank_bits 30)) m.shared j 30 x no_bank (λ e. rw e (trimmed_fits (bank_bits 30) b)) t.last;
        status = t.status;
      };
      same = same_with m m.vcpus (set m.shared j x) m.control.status refl refl (length-set m.shared j x);
      early = λ n. absurd (n i);
    }
bank_kept m t i Absent b f = keep m t

-- the changes of a bank
latch_sgis : (s : Spot) (w : ℕ) (b : Bank) → SgisAt s b → SgisAt s (with_latch w b)
latch_sgis (Own k) w b f = record { trigger = f.trigger; level = f.level }
latch_sgis (Shared j) w b f = tt
latch_sgis Absent w b f = tt

latch_fit : (s : Spot) (w : ℕ) (b : Bank) → w < 2 ^ 32 → Fit s b → Fit s (with_latch w b)
latch_fit s w b h f = record {
  words = record { latch = h; level = f.words.level; trigger = f.words.trigger };
  sgis = latch_sgis s w b f.sgis;
}

raised_fit : (s : Spot) (i : ℕ) (b : Bank) → i < 32 → Fit s b → Fit s (raised i b)
unfolding raised
raised_fit s i b h f = latch_fit s _ b (raised_fits 32 b f.words i h).latch f

lowered_fit : (s : Spot) (i : ℕ) (b : Bank) → i < 32 → Fit s b → Fit s (lowered i b)
unfolding lowered
lowered_fit s i b h f = latch_fit s _ b (lowered_fits 32 b f.words i h).latch f

-- a line is no SGI's
abbrev LineAt : Spot → ℕ → Type 0
LineAt (Own k) i = 16 ≤ i
LineAt (Shared j) i = Unit
LineAt Absent i = Unit

level_sgis : (s : Spot) (i v : ℕ) (b : Bank) → LineAt s i → SgisAt s b → SgisAt s (with_level (put_field b.level i 1 v) b)
level_sgis (Own k) i v b h f = record { trigger = f.trigger; level = get_below b.level i 1 v 0 16 h ∙ f.level }
level_sgis (Shared j) i v b h f = tt
level_sgis Absent i v b h f = tt

lined_sgis : (s : Spot) (i v : ℕ) (b : Bank) → LineAt s i → SgisAt s b → SgisAt s (lined i v b)
unfolding lined raised
lined_sgis s i v b n f = by (rises i v b)
  where
    by : (q : Bool) → SgisAt s (with_level (put_field b.level i 1 v) (choose q (raised i b) b))
    by true = level_sgis s i v (raised i b) n (latch_sgis s _ b f)
    by false = level_sgis s i v b n f

lined_fit : (s : Spot) (i v : ℕ) (b : Bank) → i < 32 → v ≤ 1 → LineAt s i → Fit s b → Fit s (lined i v b)
lined_fit s i v b h l n f = record { words = lined_fits 32 b f.words i h v l; sgis = lined_sgis s i v b n f.sgis }

trigger_fit : (s : Spot) (w : ℕ) (b : Bank) → w < 2 ^ 32 → Fit s b → Fit s (with_trigger (trigger_word s w) b)
trigger_fit (Own k) w b h f = record {
  words = record { latch = f.words.latch; level = f.words.level; trigger = low_put w 65535 h (lit< tt) };
  sgis = record { trigger = get_put w 0 16 65535 (lit< tt); level = f.sgis.level };
}
trigger_fit (Shared j) w b h f = record { words = record { latch = f.words.latch; level = f.words.level; trigger = h }; sgis = tt }
trigger_fit Absent w b h f = record { words = record { latch = f.words.latch; level = f.words.level; trigger = h }; sgis = tt }

word_fit : (s : Spot) (w : ℕ) (b : Bank) → w < 2 ^ 32 → Fit s b → Fit s (with_level (level_word s w) b)
word_fit (Own k) w b h f = record {
  words = record { latch = f.words.latch; level = low_put w 0 h (lit< tt); trigger = f.words.trigger };
  sgis = record { trigger = f.sgis.trigger; level = get_put w 0 16 0 (lit< tt) };
}
word_fit (Shared j) w b h f = record { words = record { latch = f.words.latch; level = h; trigger = f.words.trigger }; sgis = tt }
word_fit Absent w b h f = record { words = record { latch = f.words.latch; level = h; trigger = f.words.trigger }; sgis = tt }

-- the calls that name a VCPU and an INTID
module _ (k intid : ℕ) (m : Machine) (t : Tame m) where
  ready : eqb (irq_fault k intid m) 0 ≡ true → m.control.init ≡ 1
  ready q = ((fault_none k intid m).0 (eqb-true (irq_fault k intid m) 0 q)).0

  changed_kept : (f : Bank → Bank) → ((b : Bank) → Fit (spot_of k intid m) b → Fit (spot_of k intid m) (f b)) → Kept m (change_irq k intid f m).next
  changed_kept f h =
      choose_by (λ (r : Result). Kept m r.next) (eqb (irq_fault k intid m) 0)
      (λ q. let s = spot_of k intid m in bank_kept m t (ready q) s (f (bank_of s m)) (h (bank_of s m) (bank_fit m t s)))
      (λ q. keep m t)

  pub irq_set-kept : Kept m (irq_set k intid m).next
  unfolding irq_set
  irq_set-kept = changed_kept (raised (intid % 32)) (λ b. raised_fit (spot_of k intid m) (intid % 32) b (omega arith))

  pub irq_clear-kept : Kept m (irq_clear k intid m).next
  unfolding irq_clear
  irq_clear-kept = changed_kept (lowered (intid % 32)) (λ b. lowered_fit (spot_of k intid m) (intid % 32) b (omega arith))

  pub irq_trigger-kept : (word : ℕ) → word < 2 ^ 32 → Kept m (irq_trigger k intid word m).next
  unfolding irq_trigger
  irq_trigger-kept word h = changed_kept _ (λ b. trigger_fit (spot_of k intid m) word b h)

  line_at : 16 ≤ intid → LineAt (spot_of k intid m) (intid % 32)
  unfolding spot_of shared_spot
  line_at h = by (ltb intid 32) (ltb (intid / 32 - 1) (length m.shared)) refl
    where
      by : (a b : Bool) → ltb intid 32 ≡ a → LineAt (choose a (Own k) (choose b (Shared (intid / 32 - 1)) Absent)) (intid % 32)
      by true b e = omega (arith, ltb-true intid 32 e)
      by false true e = tt
      by false false e = tt

  pub irq_line-kept : (level : ℕ) → Kept m (irq_line k intid level m).next
  unfolding irq_line
  irq_line-kept level =
      choose_by (λ (r : Result). Kept m r.next) (eqb (irq_fault k intid m) 0)
      (λ q. choose_by (λ (r : Result). Kept m r.next) (ltb 1 level) (λ a. keep m t)
      (λ a. choose_by (λ (r : Result). Kept m r.next) (ltb intid 16) (λ b. keep m t)
      (λ b. let s = spot_of k intid m in
      bank_kept m t (ready q) s (lined (intid % 32) level (bank_of s m))
      (lined_fit s (intid % 32) level (bank_of s m) (omega arith) (ltb-false 1 level a) (line_at (ltb-false intid 16 b)) (bank_fit m t s)))))
      (λ q. keep m t)

-- an access with no fault has a value of 4 bytes, and INIT is done
abbrev Met : ℕ → Machine → Type 0
Met width m = (width ≡ 4) × (m.control.init ≡ 1)

met : (width : ℕ) (m : Machine) (x : ℕ) → choose (eqb width 4) (choose (initialised m) x 6) 14 ≡ 0 → Met width m
met width m x = by (eqb width 4) refl (initialised m) refl
  where
    by : (a : Bool) → eqb width 4 ≡ a → (b : Bool) → initialised m ≡ b → choose a (choose b x 6) 14 ≡ 0 → Met width m
    by true e true f q = (eqb-true width 4 e, eqb-true m.control.init 1 f)
    by true e false f q = absurd (omega arith)
    by false e b f q = absurd (omega arith)

register_met : (r : Register) (width : ℕ) (m : Machine) → register_fault r width m ≡ 0 → Met width m
unfolding access_fault
register_met r width m = by (is_known r)
  where
    by : (a : Bool) → choose a (access_fault width m) 6 ≡ 0 → Met width m
    by true q = met width m _ q
    by false q = absurd (omega arith)

group5_register : (attribute width : ℕ) (m : Machine) → group5_fault attribute width m ≡ 0 → register_fault (redistributor_register (offset_of attribute)) width m ≡ 0
unfolding group5_fault
group5_register attribute width m =
    let e = register_fault (redistributor_register (offset_of attribute)) width m in
    by e (eqb e 0) (ltb (vcpu_of (affinity_of attribute) m) (length m.vcpus)) refl
  where
    by : (e : ℕ) (a b : Bool) → eqb e 0 ≡ a → choose a (choose b 0 22) e ≡ 0 → e ≡ 0
    by e true b q z = eqb-true e 0 q
    by e false b q z = z

group7_met : (attribute width : ℕ) (m : Machine) → group7_fault attribute width m ≡ 0 → Met width m
unfolding group7_fault
group7_met attribute width m q = met width m _ q

module _ (m : Machine) (t : Tame m) (i : m.control.init ≡ 1) where
  status_kept : (v : ℕ) → v < 16 → Kept m (with_status v m)
  status_kept v h = record {
    tame = record { vcpus = t.vcpus; shared = t.shared; last = t.last; status = h };
    same = same_with m m.vcpus m.shared v refl refl refl;
    early = λ n. absurd (n i);
  }

  distributor_kept : (r : Register) (value : ℕ) → value < 2 ^ 32 → Kept m (distributor_write r value m)
  distributor_kept (Latch n) value h =
      let s = shared_spot n m in
      bank_kept m t i s (with_latch value (bank_of s m)) (latch_fit s value (bank_of s m) h (bank_fit m t s))
  distributor_kept Zero value h = keep m t
  distributor_kept Status value h = status_kept (value % 16) (omega arith)
  distributor_kept Unknown value h = keep m t

  redistributor_kept : (r : Register) (k value : ℕ) → value < 2 ^ 32 → Kept m (redistributor_write r k value m)
  redistributor_kept (Latch n) k value h =
      bank_kept m t i (Own k) (with_latch value (bank_of (Own k) m)) (latch_fit (Own k) value (bank_of (Own k) m) h (bank_fit m t (Own k)))
  redistributor_kept Zero k value h = keep m t
  redistributor_kept Status k value h = status (vcpu_ok_lem m t k)
    where
      status : OwnOk (vcpu_at k m) → Kept m (with_vcpu k (vcpu_status (value % 16) (vcpu_at k m)) m)
      status v = vcpu_kept m t i k (vcpu_status (value % 16) (vcpu_at k m)) refl (record {
        affinity = v.affinity;
        bank = v.bank;
        status = omega arith;
        trigger = v.trigger;
        level = v.level;
      })
  redistributor_kept Unknown k value h = keep m t

-- the groups: a value of 4 bytes is a word
module _ (attribute width value : ℕ) (m : Machine) (t : Tame m) (w : width ≡ 4 → value < 2 ^ 32) where
  pub set_group1-kept : Kept m (set_group1 attribute width value m).next
  unfolding set_group1
  set_group1-kept =
      let r = distributor_register (offset_of attribute) in
      choose_by (λ (x : Result). Kept m x.next) (eqb (register_fault r width m) 0)
      (λ q.
      let n = register_met r width m (eqb-true (register_fault r width m) 0 q) in
      distributor_kept m t n.1 r value (w n.0))
      (λ q. keep m t)

  pub set_group5-kept : Kept m (set_group5 attribute width value m).next
  unfolding set_group5
  set_group5-kept =
      let r = redistributor_register (offset_of attribute) in
      choose_by (λ (x : Result). Kept m x.next) (eqb (group5_fault attribute width m) 0)
      (λ q.
      let n = register_met r width m (group5_register attribute width m (eqb-true (group5_fault attribute width m) 0 q)) in
      redistributor_kept m t n.1 r (vcpu_of (affinity_of attribute) m) value (w n.0))
      (λ q. keep m t)

  pub set_group7-kept : Kept m (set_group7 attribute width value m).next
  unfolding set_group7
  set_group7-kept =
      let s = level_spot attribute m in
      choose_by (λ (x : Result). Kept m x.next) (eqb (group7_fault attribute width m) 0)
      (λ q.
      let n = group7_met attribute width m (eqb-true (group7_fault attribute width m) 0 q) in
      bank_kept m t n.1 s (with_level (level_word s value) (bank_of s m)) (word_fit s value (bank_of s m) (w n.0) (bank_fit m t s)))
      (λ q. keep m t)
