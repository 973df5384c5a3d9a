-- Calls on lent bytes: the state, the value of an attribute, and the memory of a save, a restore or an explain.
use Rattle.std.specs.Prelude as returned
use Rattle.answers.specs.declared.Errno.{Errno}
use Rattle.guest.specs.Returned.{reading}
use Rattle.std.specs.Prelude.{IfOk, ℕ, ◌^◌, ◌<◌, ◌≡◌, ◌||◌, ◌&&◌, List, ℤ, length, eqb}
use Rattle.lists.specs.Rows.{choose}
use Rattle.answers.specs.Answer.{refusal, done}
use Rattle.words.specs.Words.{le, bytes_of}
use Rattle.guest.specs.Machine.{Reading}
use Rattle.guest.specs.Machine.{Result, fresh}
use Rattle.rules.specs.Rules.{memory_ok}
use Rattle.layout.specs.Layout.{size, decode, stored}
use Rattle.calls.specs.declared.Change.{Change}
use Rattle.calls.specs.declared.Question.{Question}
use Rattle.calls.specs.Steps.{change_step, ask_step}
use Rattle.mapping.specs.Mapped.{empty}
use Rattle.maplayout.specs.MapLayout.{decode_map, stored_map}
use Rattle.tables.specs.Saved.{saved_memory}
use Rattle.tables.specs.Fault.{kind_errno}
use Rattle.tables.specs.Restored.{Out, fault, found, restored, verdict}
use Rattle.calls.specs.declared.Command.{Command}
use Rattle.calls.specs.declared.Command.TheVariants.{Reset}
use Rattle.calls.specs.Commands.{BoxResult, command_step, lookup_step, memory_fault}
use Rattle.calls.specs.declared.Change.TheVariants.{ItsSet}
use Rattle.state.specs.Sound.{sound}

-- Notation: what a call hands back, and what it leaves in the bytes that it may write
pub record Reply : Type 0 where
  pub answer : ℤ
  pub lent : List ℕ

-- §2.1, §2.4: refused: the errno with its sign turned, and every byte as it was
abbrev pub refused : List ℕ → ℕ → Reply
refused s e = record { answer = refusal e; lent = s }

-- §2.3, §2.4: a step of the guest without an errno answers 0 and the next guest is stored; one with an errno is refused
abbrev pub settled : List ℕ → Result → Reply
settled s r = choose (eqb r.errno 0) (record { answer = done 0; lent = stored r.next s }) (refused s r.errno)

-- §1.3: how every call but set-up begins: the length -14, then sound -22, and only then what the call itself does
abbrev pub guarded : {A : Type 0} → (ℕ → A) → A → List ℕ → A
guarded refuse go s = choose (eqb (length s) size) (choose (sound s) go (refuse 22)) (refuse 14)

-- §1.3: a call that may change the guest: that test, then its step on the guest that the bytes stand for
unfoldable pub changes : Change → List ℕ → Reply
changes c s = guarded (refused s) (settled s (change_step c (decode s))) s

-- Notation: a question that is refused
abbrev pub untold : ℕ → Reading
untold e = record { errno = e; number = 0 }

-- §1.3: a question: that test, then the answer; it has no state to leave, so none changes
unfoldable pub asks : Question → List ℕ → Reading
asks q s = guarded untold (ask_step q (decode s)) s

-- Inner: what a question came to, by its errno and its number
abbrev pub read_as : ℕ → ℕ → Reading
read_as e n = record { errno = e; number = n }

-- §2.1, §2.3: a question for a number answers that number, or is refused
abbrev pub answered : Reading → ℤ
answered r = choose (eqb r.errno 0) (done r.number) (refusal r.errno)

-- §2.8: an accepted get fills the whole lent value, whose width its group tested, and answers 0; §2.4: a refused one leaves the value
abbrev pub given : Reading → List ℕ → Reply
given r value =
    choose (eqb r.errno 0)
    (record { answer = done 0; lent = bytes_of (length value) r.number })
    (refused value r.errno)

-- §2.8: the number that a lent value stands for, little endian. No group has another width than 4 and 8, and a word of an XICS has 8, so no
-- other is read.
unfoldable pub value_of : List ℕ → ℕ
value_of value = choose (eqb (length value) 4 || eqb (length value) 8) (le value) 0

-- §1.4: the state's length -14, then width, start and length of memory -22; what the bytes held is not read. §1.5: then a fresh guest and
-- the empty mapping are stored.
unfoldable pub set_up : ℕ → ℕ → ℕ → List ℕ → Reply
set_up width start len s =
    choose (eqb (length s) size)
    (choose (memory_ok (record { width = width; start = start; length = len }))
    (record { answer = done 0; lent = stored (fresh width start len) (stored_map empty s) })
    (refused s 22))
    (refused s 14)

-- §2.3, §2.4: a command without an errno answers 0, and the next guest and mapping are stored; one with an errno is refused
abbrev pub settled_box : List ℕ → BoxResult → Reply
settled_box s r =
    choose (eqb r.errno 0)
    (record { answer = done 0; lent = stored_map r.next.mapped (stored r.next.machine s) })
    (refused s r.errno)

-- §1.3: a command of the ITS: the test of the state, then its step on the guest and the mapping that the bytes stand for
unfoldable pub commands : Command → List ℕ → Reply
commands c s = guarded (refused s) (settled_box s (command_step c (decode s) (decode_map s))) s

-- §2.7, §5.14: an attribute of the ITS: group 4, attribute 4 is RESET, a command since it empties the mapping; every
-- other goes by its group
abbrev pub its_sets : ℕ → ℕ → ℕ → ℕ → List ℕ → Reply
its_sets group attribute width value s =
    choose (eqb group 4 && eqb attribute 4) (commands (Reset width) s) (changes (ItsSet group attribute width value) s)

-- §1.3, §5.13: a lookup is a question, on the guest and the mapping
unfoldable pub looks : ℕ → ℕ → List ℕ → Reading
looks device event s = guarded untold (lookup_step device event (decode s) (decode_map s)) s

-- §1.3, §7.1: a save: the test of the state, then its own three; §7.6: then the saved bytes are written into the lent memory. The reply is
-- about the memory; the state is not written.
unfoldable pub saves : List ℕ → List ℕ → Reply
saves s mem =
    guarded (refused mem)
    (choose (eqb (memory_fault (length mem) (decode s)) 0)
    (record { answer = done 0; lent = saved_memory (decode s) (decode_map s) mem })
    (refused mem (memory_fault (length mem) (decode s))))
    s

-- §9.2: the mapping that is found takes the place of the one before and no other part of the state is stored; a fault is refused with its
-- errno (§13.4)
abbrev pub restored_to : List ℕ → Out → Reply
restored_to s (fault f) = refused s (kind_errno f.kind)
restored_to s (found k) = record { answer = done 0; lent = stored_map k s }

-- §1.3, §9.1: a restore: the test of the state, then its own three, then what the lent memory describes
unfoldable pub restores : List ℕ → List ℕ → Reply
restores s mem =
    guarded (refused s)
    (choose (eqb (memory_fault (length mem) (decode s)) 0)
    (restored_to s (restored (decode s) mem))
    (refused s (memory_fault (length mem) (decode s))))
    s

-- §1.3, §13.2: the tests of a restore in their order; §13.3: then what it would meet. Nothing is written.
unfoldable pub explains : List ℕ → List ℕ → Reading
explains s mem =
    guarded untold
    (choose (eqb (memory_fault (length mem) (decode s)) 0)
    (record { errno = 0; number = verdict (restored (decode s) mem) })
    (untold (memory_fault (length mem) (decode s))))
    s

-- Inner: the promise of the code of that; its number is one that an answer can be
pub record Explains (r : returned.Result ℕ Errno) (s mem : List ℕ) : Type 0 where
  pub is : reading r ≡ explains s mem
  pub small : IfOk r (λ n. n < 2 ^ 63)

-- Inner: the promise of an inner function that may write what is lent
pub record Gives (r : Reply) (answer : ℤ) (lent : List ℕ) : Type 0 where
  pub number : answer ≡ r.answer
  pub left : lent ≡ r.lent
