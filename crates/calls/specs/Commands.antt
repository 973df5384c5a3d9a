-- The ITS commands as steps of the whole box: what §5.3 tests before each, and the two commands that change the tables' places.
use Rattle.std.specs.Prelude.{Result, Ok, Err, IfOk, ℕ, ◌≡◌, Bool, ◌&&◌, eqb}
use Rattle.lists.specs.Rows.{choose}
use Rattle.guest.specs.declared.Table.{Table}
use Rattle.guest.specs.Machine.{Reading}
use Rattle.guest.specs.Machine.{Machine, Held, view, is_running, no_tables, with_tables}
use Rattle.mapping.specs.Mapped.{Mapped, MapResult, Within, rows, empty}
use Rattle.mapping.specs.Commands.{place_fault, map_device, unmap_device, map_collection, unmap_collection, map_event, discard, move, lookup}
use Rattle.mapping.specs.MapRules.{is_placed}
use Rattle.calls.specs.declared.Contents.{Contents}
use Rattle.answers.specs.declared.Errno.{Errno}
use Rattle.answers.specs.Number.{number}
use Rattle.calls.specs.declared.Command.{Command}
use Rattle.calls.specs.declared.Command.TheVariants.{Place, MapDevice, UnmapDevice, MapCollection, UnmapCollection, MapEvent, Discard, Move, Reset}

-- Notation: what a state stands for, the guest and its mapping
pub record Box : Type 0 where
  pub machine : Machine
  pub mapped : Mapped

-- Notation: what a command comes to: an errno, 0 for none, and the next box
pub record BoxResult : Type 0 where
  pub errno : ℕ
  pub next : Box

-- §2.4: a refusal keeps guest and mapping
abbrev pub refuse_box : Machine → Mapped → ℕ → BoxResult
refuse_box m k e = record { errno = e; next = record { machine = m; mapped = k } }

-- Inner: what the code hands back for a command on a guest and a mapping: the next two, or an errno and both as they were
abbrev pub boxed : Machine → Mapped → Result Contents Errno → BoxResult
boxed m k (Ok b) = record { errno = 0; next = record { machine = view b.guest; mapped = rows b.mapping } }
boxed m k (Err e) = refuse_box m k (number e)

-- Inner: the promise of the code of a command
pub record BoxDoes (m : Machine) (k : Mapped) (o : Result Contents Errno) (r : BoxResult) : Type 0 where
  pub is : boxed m k o ≡ r
  pub held : IfOk o (λ b. Held b.guest × Within b.mapping)

-- Notation: the mark of ITS INIT as a test
abbrev pub its_initialised : Machine → Bool
its_initialised m = eqb m.control.itsinit 1

-- §5.3: ready: ITS INIT is done and the tables are placed
abbrev pub ready : Machine → Bool
ready m = its_initialised m && is_placed m

-- §5.3: a mapping command is -6 on a guest that is not ready; on another it is its own step, and the guest stays. The
-- running mark is not read.
unfoldable pub on_mapping : MapResult → Machine → Mapped → BoxResult
on_mapping r m k =
    choose (ready m) (record { errno = r.errno; next = record { machine = m; mapped = r.next } }) (refuse_box m k 6)

-- Notation: a placed table
abbrev pub placed_at : ℕ → ℕ → Table
placed_at start pages = record { set = 1; start = start; pages = pages }

-- §5.3, §5.4: placing: before ITS INIT -6, then the faults of §5.4; both places are new, also where tables were placed before
unfoldable pub place : ℕ → ℕ → ℕ → ℕ → Machine → Mapped → BoxResult
place ds dp cs cp m k =
    let d = placed_at ds dp in
    let c = placed_at cs cp in
    let e = place_fault d c m k in
    choose (its_initialised m)
    (choose (eqb e 0)
    (record { errno = 0; next = record { machine = with_tables (record { devices = d; collections = c }) m; mapped = k } })
    (refuse_box m k e))
    (refuse_box m k 6)

-- §5.14: RESET: a value that is lent -14 (§2.9), before ITS INIT -6, running -16. The mapping is empty and no table placed; all other
-- parts of the guest stay, so ITS INIT stands. Memory is not lent to it. §5.3: it does not ask for placed tables.
unfoldable pub reset : ℕ → Machine → Mapped → BoxResult
reset width m k =
    choose (eqb width 0)
    (choose (its_initialised m)
    (choose (is_running m) (refuse_box m k 16)
    (record { errno = 0; next = record { machine = with_tables no_tables m; mapped = empty } }))
    (refuse_box m k 6))
    (refuse_box m k 14)

-- §5.4, §5.6, §5.7, §5.8, §5.9, §5.10, §5.11, §5.12, §5.14: which step each command is
abbrev pub command_step : Command → Machine → Mapped → BoxResult
command_step (Place ds dp cs cp) m k = place ds dp cs cp m k
command_step (MapDevice id itt bits) m k = on_mapping (map_device id itt bits m k) m k
command_step (UnmapDevice id) m k = on_mapping (unmap_device id k) m k
command_step (MapCollection icid pe) m k = on_mapping (map_collection icid pe m k) m k
command_step (UnmapCollection icid) m k = on_mapping (unmap_collection icid k) m k
command_step (MapEvent device event lpi icid) m k = on_mapping (map_event device event lpi icid k) m k
command_step (Discard device event) m k = on_mapping (discard device event k) m k
command_step (Move device event icid) m k = on_mapping (move device event icid k) m k
command_step (Reset width) m k = reset width m k

-- §5.3, §5.13: a lookup: -6 on a guest that is not ready
unfoldable pub lookup_step : ℕ → ℕ → Machine → Mapped → Reading
lookup_step device event m k = choose (ready m) (lookup device event k) (record { errno = 6; number = 0 })

-- §7.1, §9.1, §13.2: before a save, a restore and an explain: the length of memory -14, not ready -6, running -16
unfoldable pub memory_fault : ℕ → Machine → ℕ
memory_fault len m = choose (eqb len m.memory.length) (choose (ready m) (choose (is_running m) 16 0) 6) 14
