-- Where the bank of an INTID is (§4.2), and what stands where no bank is (§4.9).
use Rattle.answers.specs.declared.Errno.{Errno}
use Rattle.answers.specs.declared.Errno.TheVariants.{EINVAL}
use Rattle.std.specs.Prelude.{Result, Ok, Err, ℕ, ◌/◌, ◌-◌, ◌<◌, ◌≡◌, Bool, length, get_or, set, ltb, eqb}
use Rattle.lists.specs.Rows.{choose, find_ix}
use Rattle.fields.specs.Field.{put_field}
use Rattle.guest.specs.declared.Bank.{Bank}
use Rattle.guest.specs.declared.Vcpu.{Vcpu}
use Rattle.guest.specs.declared.Guest.{Guest}
use Rattle.guest.specs.Machine.{Machine, view, Held, no_bank, no_vcpu, bank_bits, with_vcpus, with_shared}
use Rattle.banks.specs.Bank.{trimmed}
use Rattle.irqs.specs.declared.Spot.{Spot}
use Rattle.irqs.specs.declared.Spot.TheVariants.{Own, Shared, Absent}

-- §4.2, §4.9: bank n, for n from 1 on: row n - 1 of the shared banks. There are rows for the INTIDs below the count; a bank past them is
-- absent.
unfoldable pub shared_spot : ℕ → Machine → Spot
shared_spot n m = choose (ltb (n - 1) (length m.shared)) (Shared (n - 1)) Absent

-- §4.2: the bank of an INTID that is named with VCPU k. Only for INTIDs 0 to 31 has k an effect (§4.8).
unfoldable pub spot_of : ℕ → ℕ → Machine → Spot
spot_of k intid m = choose (ltb intid 32) (Own k) (shared_spot (intid / 32) m)

-- Notation: the VCPU of a number, that VCPU replaced, and a VCPU with another bank
abbrev pub vcpu_at : ℕ → Machine → Vcpu
vcpu_at k m = get_or m.vcpus k (no_vcpu 0)

abbrev pub with_vcpu : ℕ → Vcpu → Machine → Machine
with_vcpu k v m = with_vcpus (set m.vcpus k v) m

abbrev pub own_bank : Vcpu → Bank → Vcpu
own_bank v b = record { affinity = v.affinity; bank = b; status = v.status }

-- §4.9: the bank at a spot. One past the count reads 0 in each of its words.
abbrev pub bank_of : Spot → Machine → Bank
bank_of (Own k) m = (vcpu_at k m).bank
bank_of (Shared j) m = get_or m.shared j no_bank
bank_of Absent m = no_bank

-- §4.9, §4.17: a bank stored at a spot. Of a shared one the words keep as many bits as it has interrupts, so that INTIDs 1,020 to 1,023 stay 0
-- whatever is written; past the count nothing is stored.
abbrev pub with_bank : Spot → Bank → Machine → Machine
with_bank (Own k) b m = with_vcpu k (own_bank (vcpu_at k m) b) m
with_bank (Shared j) b m = with_shared (set m.shared j (trimmed (bank_bits j) b)) m
with_bank Absent b m = m

-- §4.3: SGIs are bits [15:0] of a VCPU's own bank. In a trigger word (§4.7) they stay 1, in a level word (§4.15) they stay 0.
abbrev pub trigger_word : Spot → ℕ → ℕ
trigger_word (Own k) word = put_field word 0 16 65535
trigger_word (Shared j) word = word
trigger_word Absent word = word

abbrev pub level_word : Spot → ℕ → ℕ
level_word (Own k) word = put_field word 0 16 0
level_word (Shared j) word = word
level_word Absent word = word

-- Notation: the number of the VCPU that has an affinity, or how many VCPUs there are where none has
abbrev pub has_affinity : ℕ → Vcpu → Bool
has_affinity a v = eqb v.affinity a

abbrev pub vcpu_of : ℕ → Machine → ℕ
vcpu_of a m = find_ix (has_affinity a) m.vcpus

-- Inner: a bank stands at a spot, its row is one of those in use
abbrev pub Stands : Spot → Machine → Type 0
Stands (Own k) m = k < length m.vcpus
Stands (Shared j) m = j < length m.shared
Stands Absent m = Unit

-- Inner: what a struct of the code stands for, its counts within its arrays
pub record Shows (g : Guest) (m : Machine) : Type 0 where
  pub is : view g ≡ m
  pub held : Held g

-- Inner: what a search for the VCPU of an affinity hands back: its number, or the refusal where no VCPU has it
abbrev pub Names : ℕ → Machine → Result ℕ Errno → Type 0
Names a m (Ok k) = (k ≡ vcpu_of a m) × (k < length m.vcpus)
Names a m (Err e) = (e ≡ EINVAL) × (vcpu_of a m ≡ length m.vcpus)
