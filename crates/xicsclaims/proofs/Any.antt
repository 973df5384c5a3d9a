-- `any`: every call answers 0 or more or one of five errnos, and a refusal changes nothing. Assumes nothing.
use Prim.Native.Nat.{ℕ, ◌^◌}
use mathlib.Core.Path.{refl}
use mathlib.Core.Bool.{◌||◌, not}
use mathlib.Core.List.{List}
use lib.ListN.{length}
use lib.Dec.{eqb, leb}
use borrow.Author.Tests.{eqb-false}
use Rattle.guest.specs.Machine.{Reading}
use Rattle.calls.specs.Call.{Reply, refused, untold, value_of, given, answered}
use Rattle.step.specs.Step.{writes, gives, tells}
use Rattle.xicswords.specs.Word.{paired}
use Rattle.xicsrows.specs.XicsLayout.{size, server, source, Row, table}
use Rattle.xicsrows.specs.Registered.{registered}
use Rattle.xicsrules.specs.Sound.{takes}
use Rattle.xics.specs.declared.XicsChange.{XicsChange}
use Rattle.xics.specs.declared.XicsChange.TheVariants.{AddServer, AddSource, SetSource, SetServer}
use Rattle.xics.specs.Faults.{server_fault, source_fault, word_fault, source_word_fault, server_word_fault}
use Rattle.xics.specs.Calls.{change_fault, changes_xics, set_up_xics, asks_word, asks_delivery}
use Rattle.xics.specs.XicsStep.{XicsCall, xics_step, xics_len, xics_setup, add_server, add_source, set_source, set_server, get_source, get_server, deliverable}
use Rattle.xicsclaims.specs.XicsClaims.{Answers, succeeds, refuses}
use Rattle.kept.proofs.Choice.{chosen, choose_by}
use Rattle.xicsclaims.proofs.Five.{Known, of_five}
use Rattle.xicsclaims.proofs.Guard.{guard}

-- the fault of a get
word_known : (n width : ℕ) (rows : List Row) → Known (word_fault n width rows)
unfolding word_fault
word_known n width rows = chosen Known (not (eqb width 8)) refl (chosen Known (not (registered n rows)) refl refl)

-- the fault of each call that may change an XICS
change_known : (c : XicsChange) (s : List ℕ) → Known (change_fault c s)
unfolding server_fault source_fault source_word_fault server_word_fault
change_known (AddServer n) s =
    chosen Known (leb (2 ^ 32) n) refl (chosen Known (registered n (table server s)) refl (chosen Known (leb 64 (length (table server s))) refl refl))
change_known (AddSource n d) s =
    chosen Known (leb (2 ^ 20) n || leb (2 ^ 32) d) refl
    (chosen Known (registered n (table source s)) refl
    (chosen Known (not (registered d (table server s))) refl
    (chosen Known (leb 64 (length (table source s))) refl refl)))
change_known (SetSource n width w) s =
    chosen Known (not (eqb width 8)) refl
    (chosen Known (not (registered n (table source s))) refl (chosen Known (not (takes (table server s) w)) refl refl))
change_known (SetServer n width v) s =
    chosen Known (not (eqb width 8)) refl
    (chosen Known (not (registered n (table server s))) refl (chosen Known (not (paired v)) refl refl))

-- a question's errno
abbrev Fair : Reading → Type 0
Fair r = Known r.errno

module _ (s v : List ℕ) where
  -- a call that may change an XICS
  change_answers : (c : XicsChange) → Answers s v (writes (changes_xics c s) v)
  unfolding changes_xics
  change_answers c =
      guard Fine (refused s) s (refuses 14 refl refl refl refl) (refuses 22 refl refl refl refl)
      (choose_by Fine (eqb (change_fault c s) 0)
      (λ _. succeeds 0 refl)
      (λ q. refuses (change_fault c s) (of_five (change_fault c s) (change_known c s) (eqb-false _ 0 q)) refl refl refl))
    where
      Fine : Reply → Type 0
      Fine r = Answers s v (writes r v)

  -- set-up has one refusal
  setup_answers : Answers s v (writes (set_up_xics s) v)
  unfolding set_up_xics
  setup_answers = chosen (λ (r : Reply). Answers s v (writes r v)) (eqb (length s) size) (succeeds 0 refl) (refuses 14 refl refl refl refl)

  -- the errnos of the three questions
  asked_known : (t n width : ℕ) → Fair (asks_word t n width s)
  unfolding asks_word
  asked_known t n width =
      guard Fair untold s refl refl (chosen Fair (eqb (word_fault n width (table t s)) 0) refl (word_known n width (table t s)))

  delivery_known : (n : ℕ) → Fair (asks_delivery n s)
  unfolding asks_delivery
  delivery_known n = guard Fair untold s refl refl (chosen Fair (registered n (table source s)) refl refl)

  -- a get, and a question for a number
  get_answers : (r : Reading) → Fair r → Answers s v (gives s (given r v))
  get_answers r h =
      choose_by (λ (x : Reply). Answers s v (gives s x)) (eqb r.errno 0)
      (λ _. succeeds 0 refl)
      (λ q. refuses r.errno (of_five r.errno h (eqb-false _ 0 q)) refl refl refl)

  told_answers : (r : Reading) → Fair r → Answers s v (tells (answered r) s v)
  told_answers r h =
      choose_by (λ z. Answers s v (tells z s v)) (eqb r.errno 0)
      (λ _. succeeds r.number refl)
      (λ q. refuses r.errno (of_five r.errno h (eqb-false _ 0 q)) refl refl refl)

-- §14.14: for every call, every XICS and every lent value, of any bytes and any length
pub any : (c : XicsCall) (s v : List ℕ) → Answers s v (xics_step c s v)
any xics_len s v = succeeds size refl
any xics_setup s v = setup_answers s v
any (add_server n) s v = change_answers s v (AddServer n)
any (add_source n d) s v = change_answers s v (AddSource n d)
any (set_source n) s v = change_answers s v (SetSource n (length v) (value_of v))
any (set_server n) s v = change_answers s v (SetServer n (length v) (value_of v))
any (get_source n) s v = get_answers s v (asks_word source n (length v) s) (asked_known s v source n (length v))
any (get_server n) s v = get_answers s v (asks_word server n (length v) s) (asked_known s v server n (length v))
any (deliverable n) s v = told_answers s v (asks_delivery n s) (delivery_known s v n)
