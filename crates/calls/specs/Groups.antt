-- Attributes by group. §2.5: an unknown name comes before the width, and that before all else. §2.6: groups and attributes are compared
-- with all their bits.
use Rattle.std.specs.Prelude.{ℕ, ◌||◌, eqb}
use Rattle.lists.specs.Rows.{choose}
use Rattle.guest.specs.Machine.{Reading}
use Rattle.guest.specs.Machine.{Machine, Result, refuse}
use Rattle.frames.specs.Bases.{set_group0, get_group0, set_its_group0, get_its_group0}
use Rattle.frames.specs.Vcpus.{set_irqs, get_irqs, its_init}
use Rattle.frames.specs.Init.{vgic_init}
use Rattle.irqs.specs.Registers.{set_group1, get_group1, set_group5, get_group5, set_group7, get_group7}

-- §2.7, §2.9: group 4 of the VGIC: an attribute other than 0 is unknown, -6; then a value that is lent, -14; then VGIC INIT (§3.11)
unfoldable pub set_group4 : ℕ → ℕ → Machine → Result
set_group4 attribute width m = choose (eqb attribute 0) (choose (eqb width 0) (vgic_init m) (refuse m 14)) (refuse m 6)

-- §2.6, §2.7: a set goes by its group; a group that is not one of the six is -6
unfoldable pub vgic_set : ℕ → ℕ → ℕ → ℕ → Machine → Result
vgic_set group attribute width value m =
    choose (eqb group 0) (set_group0 attribute width value m)
    (choose (eqb group 1) (set_group1 attribute width value m)
    (choose (eqb group 3) (set_irqs attribute width value m)
    (choose (eqb group 4) (set_group4 attribute width m)
    (choose (eqb group 5) (set_group5 attribute width value m)
    (choose (eqb group 7) (set_group7 attribute width value m)
    (refuse m 6))))))

-- §2.6, §2.7: a get likewise; §2.9: group 4 has none, so it answers -6 as an unknown one does
unfoldable pub vgic_get : ℕ → ℕ → ℕ → ℕ → Machine → Reading
vgic_get group attribute width value m =
    choose (eqb group 0) (get_group0 attribute width value m)
    (choose (eqb group 1) (get_group1 attribute width m)
    (choose (eqb group 3) (get_irqs attribute width m)
    (choose (eqb group 5) (get_group5 attribute width m)
    (choose (eqb group 7) (get_group7 attribute width m)
    (record { errno = 6; number = 0 })))))

-- §2.7, §2.9: group 4 of the ITS: 0 is ITS INIT (§5.2), -14 with a value that is lent; 1 and 2, save and restore, are -14 always. RESET, 4,
-- stands with the commands (`its_sets` takes it first); every other attribute is unknown, -6.
unfoldable pub set_its_group4 : ℕ → ℕ → Machine → Result
set_its_group4 attribute width m =
    choose (eqb attribute 0) (choose (eqb width 0) (its_init m) (refuse m 14))
    (choose (eqb attribute 1 || eqb attribute 2) (refuse m 14) (refuse m 6))

-- §2.6, §2.7: the ITS knows groups 0 and 4; any other is -6
unfoldable pub its_set : ℕ → ℕ → ℕ → ℕ → Machine → Result
its_set group attribute width value m =
    choose (eqb group 0) (set_its_group0 attribute width value m)
    (choose (eqb group 4) (set_its_group4 attribute width m)
    (refuse m 6))

-- §2.6, §2.9: of the two only group 0 has a get; all else is -6
unfoldable pub its_get : ℕ → ℕ → ℕ → Machine → Reading
its_get group attribute width m = choose (eqb group 0) (get_its_group0 attribute width m) (record { errno = 6; number = 0 })
