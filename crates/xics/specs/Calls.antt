-- The calls on the lent bytes of an XICS.
use Rattle.std.specs.Prelude.{ℕ, ◌≡◌, List, Result, length, eqb}
use Rattle.lists.specs.Rows.{choose}
use Rattle.answers.specs.Answer.{done}
use Rattle.answers.specs.declared.Errno.{Errno}
use Rattle.guest.specs.Machine.{Reading}
use Rattle.guest.specs.Returned.{fault}
use Rattle.calls.specs.Call.{Reply, refused, untold}
use Rattle.xicswords.specs.Word.{destination, trimmed, fresh_server, fresh_source, delivers}
use Rattle.xicsrows.specs.XicsLayout.{size, server, source, Row, table, added, worded, cleared}
use Rattle.xicsrows.specs.Registered.{index_of, registered, word_of}
use Rattle.xicsrules.specs.Sound.{sound_xics}
use Rattle.xics.specs.Faults.{server_fault, source_fault, word_fault, source_word_fault, server_word_fault}
use Rattle.xics.specs.declared.XicsChange.{XicsChange}
use Rattle.xics.specs.declared.XicsChange.TheVariants.{AddServer, AddSource, SetSource, SetServer}

-- §14.3: how every call but set-up begins: the length -14, then sound -22, and only then what the call itself does
abbrev pub guarded_xics : {A : Type 0} → (ℕ → A) → A → List ℕ → A
guarded_xics refuse go s = choose (eqb (length s) size) (choose (sound_xics s) go (refuse 22)) (refuse 14)

-- §14.7 to §14.10: the first refusal of each call that may change an XICS; a set has the width and the number of its value
abbrev pub change_fault : XicsChange → List ℕ → ℕ
change_fault (AddServer n) s = server_fault n (table server s)
change_fault (AddSource n d) s = source_fault n d (table server s) (table source s)
change_fault (SetSource n width w) s = source_word_fault n width w (table server s) (table source s)
change_fault (SetServer n width v) s = server_word_fault n width v (table server s)

-- §14.7 to §14.10: and what it leaves where none applies
abbrev pub changed : XicsChange → List ℕ → List ℕ
changed (AddServer n) s = added server n fresh_server s
changed (AddSource n d) s = added source n (fresh_source d) s
changed (SetSource n width w) s = worded source (index_of n (table source s)) w s
changed (SetServer n width v) s = worded server (index_of n (table server s)) (trimmed v) s

-- §2.3, §2.4: a call without an errno answers 0 and leaves these bytes; one with an errno is refused
abbrev pub settled_xics : ℕ → List ℕ → List ℕ → Reply
settled_xics e next s = choose (eqb e 0) (record { answer = done 0; lent = next }) (refused s e)

-- Inner: what code that may write promises: its errno, 0 for none, and what it leaves: the next bytes, or, if refused, all as they were
pub record Settles (e : ℕ) (next s : List ℕ) (r : Result (Unit {0}) Errno) (left : List ℕ) : Type 0 where
  pub is : fault r ≡ e
  pub leaves : left ≡ choose (eqb e 0) next s

-- Inner: that of one change on bytes that passed the test
abbrev pub Performs : XicsChange → List ℕ → Result (Unit {0}) Errno → List ℕ → Type 0
Performs c s = Settles (change_fault c s) (changed c s) s

-- §14.3: a call that may change an XICS
unfoldable pub changes_xics : XicsChange → List ℕ → Reply
changes_xics c s = guarded_xics (refused s) (settled_xics (change_fault c s) (changed c s) s) s

-- §14.4: set-up: the length -14; what the bytes hold is not read
unfoldable pub set_up_xics : List ℕ → Reply
set_up_xics s = choose (eqb (length s) size) (record { answer = done 0; lent = cleared s }) (refused s 14)

-- §14.11: a get of the word of n in table t
unfoldable pub asks_word : ℕ → ℕ → ℕ → List ℕ → Reading
asks_word t n width s =
    guarded_xics untold
    (choose (eqb (word_fault n width (table t s)) 0)
    (record { errno = 0; number = word_of n (table t s) })
    (untold (word_fault n width (table t s))))
    s

-- §14.11: source n is deliverable to the server that its word names: 1 or 0
unfoldable pub delivery : ℕ → List Row → List Row → ℕ
delivery n servers sources =
    let w = word_of n sources in
    choose (delivers w (word_of (destination w) servers)) 1 0

-- §14.11: that question; a source that is not registered -2
unfoldable pub asks_delivery : ℕ → List ℕ → Reading
asks_delivery n s =
    guarded_xics untold
    (choose (registered n (table source s))
    (record { errno = 0; number = delivery n (table server s) (table source s) })
    (untold 2))
    s
