-- Groups 1 (distributor, §4.11), 5 (redistributor, §4.12) and 7 (level words, §4.15): values of 4 bytes. The order is that of §2.5. Group
-- 7 knows every attribute, and running does not stop it.
use Rattle.std.specs.Prelude.{ℕ, ◌-◌, ◌/◌, ◌%◌, ◌≤◌, length, ltb, leb, eqb}
use mathlib.Core.Bool.{Bool, ◌&&◌}
use Rattle.lists.specs.Rows.{choose}
use Rattle.fields.specs.Field.{get_field}
use Rattle.guest.specs.declared.Vcpu.{Vcpu}
use Rattle.guest.specs.Machine.{Reading}
use Rattle.guest.specs.Machine.{Machine, Result, refuse, accept, initialised, is_running, with_control}
use Rattle.irqs.specs.declared.Spot.{Spot}
use Rattle.irqs.specs.declared.Spot.TheVariants.{Own}
use Rattle.irqs.specs.declared.Register.{Register}
use Rattle.irqs.specs.declared.Register.TheVariants.{Latch, Zero, Status, Unknown}
use Rattle.banks.specs.Bank.{with_latch, with_level}
use Rattle.irqs.specs.Spots.{shared_spot, vcpu_at, with_vcpu, bank_of, with_bank, level_word, vcpu_of}

-- §4.11: what an offset of the distributor names. From 0x200 to 0x2FC the multiples of 4 are known: those between 0x200 and 0x280 are the
-- latch words of banks 1 to 31, the others read 0.
unfoldable pub distributor_register : ℕ → Register
distributor_register offset =
    choose (eqb offset 0x10) Status
    (choose (leb 0x200 offset && (ltb offset 0x300 && eqb (offset % 4) 0))
    (choose (ltb 0x200 offset && ltb offset 0x280) (Latch ((offset - 0x200) / 4)) Zero)
    Unknown)

-- §4.12: what an offset of a redistributor names; its latch word is that of bank 0
unfoldable pub redistributor_register : ℕ → Register
redistributor_register offset =
    choose (eqb offset 0x10) Status
    (choose (eqb offset 0x10200) (Latch 0)
    (choose (eqb offset 0x10280) Zero Unknown))

-- §4.10: what stops an access of groups 1 and 5 once the offset is known: width, not ready, running
unfoldable pub access_fault : ℕ → Machine → ℕ
access_fault width m =
    choose (eqb width 4) (choose (initialised m) (choose (is_running m) 16 0) 6) 14

-- §4.10: an offset that names nothing is unknown; one that reads 0 is known
abbrev pub is_known : Register → Bool
is_known (Latch n) = mathlib.Core.Bool.true
is_known Zero = mathlib.Core.Bool.true
is_known Status = mathlib.Core.Bool.true
is_known Unknown = mathlib.Core.Bool.false

-- Inner: a latch register of the distributor is a shared bank's
abbrev pub Sharing : Register → Type 0
Sharing (Latch n) = 1 ≤ n
Sharing Zero = Unit
Sharing Status = Unit
Sharing Unknown = Unit

-- §4.10: what stops an access, in order: an unknown offset comes first
abbrev pub register_fault : Register → ℕ → Machine → ℕ
register_fault r width m = choose (is_known r) (access_fault width m) 6

-- Notation: the distributor's STATUSR, replaced
abbrev pub with_status : ℕ → Machine → Machine
with_status v m = with_control (record {
  init = m.control.init;
  running = m.control.running;
  irqs = m.control.irqs;
  irqsset = m.control.irqsset;
  status = v;
  itsinit = m.control.itsinit;
}) m

-- §4.11: what a get of group 1 reads. A latch word past the count is 0 (§4.9); an unknown offset was refused before.
abbrev pub distributor_read : Register → Machine → ℕ
distributor_read (Latch n) m = (bank_of (shared_spot n m) m).latch
distributor_read Zero m = 0
distributor_read Status m = m.control.status
distributor_read Unknown m = 0

-- §4.11: what a set of group 1 stores: a latch word with all bits that its bank has (§4.13, §4.17), of STATUSR the four lowest (§4.14)
abbrev pub distributor_write : Register → ℕ → Machine → Machine
distributor_write (Latch n) value m = with_bank (shared_spot n m) (with_latch value (bank_of (shared_spot n m) m)) m
distributor_write Zero value m = m
distributor_write Status value m = with_status (value % 16) m
distributor_write Unknown value m = m

-- §4.11, §4.12: the parts of an attribute: offset [31:0], and in groups 5 and 7 (§4.15) affinity [63:32]
abbrev pub offset_of : ℕ → ℕ
offset_of attribute = get_field attribute 0 32

abbrev pub affinity_of : ℕ → ℕ
affinity_of attribute = get_field attribute 32 32

-- §4.10, §4.11: group 1, set and get; of the attribute nothing but the offset counts
unfoldable pub set_group1 : ℕ → ℕ → ℕ → Machine → Result
set_group1 attribute width value m =
    let r = distributor_register (offset_of attribute) in
    let e = register_fault r width m in
    choose (eqb e 0) (accept (distributor_write r value m)) (refuse m e)

unfoldable pub get_group1 : ℕ → ℕ → Machine → Reading
get_group1 attribute width m =
    let r = distributor_register (offset_of attribute) in
    let e = register_fault r width m in
    choose (eqb e 0) (record { errno = 0; number = distributor_read r m }) (record { errno = e; number = 0 })

-- §4.12: what a get of group 5 reads of VCPU k's redistributor
abbrev pub redistributor_read : Register → ℕ → Machine → ℕ
redistributor_read (Latch n) k m = (vcpu_at k m).bank.latch
redistributor_read Zero k m = 0
redistributor_read Status k m = (vcpu_at k m).status
redistributor_read Unknown k m = 0

-- Notation: a VCPU with another STATUSR
abbrev pub vcpu_status : ℕ → Vcpu → Vcpu
vcpu_status s v = record { affinity = v.affinity; bank = v.bank; status = s }

-- §4.12: what a set of group 5 stores: the latch word with the bits of SGIs (§4.13), of STATUSR the four lowest (§4.14)
abbrev pub redistributor_write : Register → ℕ → ℕ → Machine → Machine
redistributor_write (Latch n) k value m = with_bank (Own k) (with_latch value (bank_of (Own k) m)) m
redistributor_write Zero k value m = m
redistributor_write Status k value m = with_vcpu k (vcpu_status (value % 16) (vcpu_at k m)) m
redistributor_write Unknown k value m = m

-- §4.12: what stops an access of group 5: the faults of §4.10, then an affinity that no VCPU has (-22)
unfoldable pub group5_fault : ℕ → ℕ → Machine → ℕ
group5_fault attribute width m =
    let e = register_fault (redistributor_register (offset_of attribute)) width m in
    choose (eqb e 0) (choose (ltb (vcpu_of (affinity_of attribute) m) (length m.vcpus)) 0 22) e

-- §4.12: group 5, set and get, of the VCPU that has the affinity
unfoldable pub set_group5 : ℕ → ℕ → ℕ → Machine → Result
set_group5 attribute width value m =
    let e = group5_fault attribute width m in
    choose (eqb e 0)
    (accept (redistributor_write (redistributor_register (offset_of attribute)) (vcpu_of (affinity_of attribute) m) value m))
    (refuse m e)

unfoldable pub get_group5 : ℕ → ℕ → Machine → Reading
get_group5 attribute width m =
    let e = group5_fault attribute width m in
    choose (eqb e 0)
    (record { errno = 0; number = redistributor_read (redistributor_register (offset_of attribute)) (vcpu_of (affinity_of attribute) m) m })
    (record { errno = e; number = 0 })

-- §4.15: the other two parts of an attribute of group 7: info [31:10], vINTID [9:0]
abbrev pub info_of : ℕ → ℕ
info_of attribute = get_field attribute 10 22

abbrev pub vintid_of : ℕ → ℕ
vintid_of attribute = get_field attribute 0 10

-- §4.15: what stops an access of group 7, in order. The affinity is looked up for vINTID 0 alone, and no running mark is tested.
unfoldable pub group7_fault : ℕ → ℕ → Machine → ℕ
group7_fault attribute width m =
    choose (eqb width 4)
    (choose (initialised m)
    (choose (eqb (info_of attribute) 0)
    (choose (eqb (vintid_of attribute % 32) 0)
    (choose (eqb (vintid_of attribute) 0)
    (choose (ltb (vcpu_of (affinity_of attribute) m) (length m.vcpus)) 0 22)
    0)
    22)
    22)
    6)
    14

-- §4.15, §4.2: the bank of the vINTID: 0 is the own one of the affinity's VCPU, the others are shared
unfoldable pub level_spot : ℕ → Machine → Spot
level_spot attribute m =
    choose (eqb (vintid_of attribute) 0) (Own (vcpu_of (affinity_of attribute) m)) (shared_spot (vintid_of attribute / 32) m)

-- §4.15: a set stores the level word, whose SGIs stay 0, and no latch; a get hands it back, 0 past the count (§4.9)
unfoldable pub set_group7 : ℕ → ℕ → ℕ → Machine → Result
set_group7 attribute width value m =
    let e = group7_fault attribute width m in
    let s = level_spot attribute m in
    choose (eqb e 0) (accept (with_bank s (with_level (level_word s value) (bank_of s m)) m)) (refuse m e)

unfoldable pub get_group7 : ℕ → ℕ → Machine → Reading
get_group7 attribute width m =
    let e = group7_fault attribute width m in
    choose (eqb e 0) (record { errno = 0; number = (bank_of (level_spot attribute m) m).level }) (record { errno = e; number = 0 })
