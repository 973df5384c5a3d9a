-- `accepts`: each of the four calls that may change a sound XICS is accepted exactly where its paragraph's tests pass. Assumes nothing.
use Prim.Native.Nat.{ℕ, ◌^◌, ◌<◌}
use mathlib.Core.Path.{◌≡◌, refl, ap}
use mathlib.Core.Bool.{Bool, true, false}
use mathlib.Core.Logic.{◌↔◌}
use mathlib.Core.List.{List}
use lib.ListN.{length}
use borrow.Author.Tests.{lt-leb, lt-ltb, ltb-true, eq-eqb}
use Rattle.areas.proofs.Tests.{clash}
use Rattle.words.specs.Words.{le}
use Rattle.calls.specs.Call.{Reply, value_of}
use Rattle.answers.specs.Answer.{done}
use Rattle.xicswords.specs.Word.{destination, narrow, paired}
use Rattle.xicswords.proofs.Meaning.{paired_to, paired_from}
use Rattle.xicsrows.specs.XicsLayout.{server, source, table}
use Rattle.xicsrows.specs.Registered.{registered, word_of}
use Rattle.xicsrules.specs.Sound.{takes, SoundXics}
use Rattle.xicsrules.proofs.Parts.{both}
use Rattle.xics.specs.Faults.{server_fault, source_fault, source_word_fault, server_word_fault}
use Rattle.xics.specs.declared.XicsChange.{XicsChange}
use Rattle.xics.specs.declared.XicsChange.TheVariants.{AddServer, AddSource, SetSource, SetServer}
use Rattle.xics.specs.Calls.{change_fault, changes_xics}
use Rattle.xics.proofs.Passes.{new_server_lem, new_source_lem, source_word_lem, server_word_lem}
use Rattle.xicsclaims.specs.XicsClaims.{Stands, AddsServer, AddsSource, SetsSource, SetsServer, Accepts}
use Rattle.xicsclaims.proofs.Guard.{no_fault, accepted_fault}
use Rattle.xicsclaims.proofs.Found.{row_in, in_registered}
use Rattle.xicsclaims.proofs.Stays.{value_is}

-- a number stands in a table where it is registered, and nowhere else
module _ (t n : ℕ) (s : List ℕ) where
  known_to : registered n (table t s) ≡ true → Stands t n s
  known_to h = (word_of n (table t s), row_in n (table t s) h)

  known_from : Stands t n s → registered n (table t s) ≡ true
  known_from k = in_registered n (table t s) _ k.1 refl

  new_to : registered n (table t s) ≡ false → Stands t n s → ⊥
  new_to h k = clash (known_from k) h

  new_from : (Stands t n s → ⊥) → registered n (table t s) ≡ false
  new_from f = by (registered n (table t s)) refl
    where
      by : (b : Bool) → registered n (table t s) ≡ b → registered n (table t s) ≡ false
      by true e = absurd (f (known_to e))
      by false e = e

-- a source's word that is taken
module _ (s : List ℕ) (w : ℕ) where
  taken_to : takes (table server s) w ≡ true → (w < 2 ^ 43) × Stands server (destination w) s
  unfolding takes
  taken_to h = let p = both (narrow w) _ h in (ltb-true w (2 ^ 43) p.0, known_to server (destination w) s p.1)

  taken_from : w < 2 ^ 43 → Stands server (destination w) s → takes (table server s) w ≡ true
  unfolding takes
  taken_from h k = rw (lt-ltb w (2 ^ 43) h) (known_from server (destination w) s k)

module _ (s : List ℕ) (ok : SoundXics s) where
  -- a call is accepted exactly where it has no fault
  accepted : (c : XicsChange) {A : Type 0} → (change_fault c s ≡ 0 → A) → (A → change_fault c s ≡ 0) → ((changes_xics c s).answer ≡ done 0) ↔ A
  accepted c f g = (λ h. f (accepted_fault c s ok h), λ a. ap (λ (r : Reply). r.answer) (no_fault c s ok (g a)))

  -- §14.7
  server_to : (n : ℕ) → server_fault n (table server s) ≡ 0 → AddsServer n s
  server_to n e = let p = new_server_lem n (table server s) e in record { number = p.number; new = new_to server n s p.fresh; room = p.room }

  server_from : (n : ℕ) → AddsServer n s → server_fault n (table server s) ≡ 0
  unfolding server_fault
  server_from n p = rw (lt-leb (2 ^ 32) n p.number, new_from server n s p.new, lt-leb 64 (length (table server s)) p.room)

  -- §14.8
  source_to : (n d : ℕ) → source_fault n d (table server s) (table source s) ≡ 0 → AddsSource n d s
  source_to n d e =
      let p = new_source_lem n d (table server s) (table source s) e in
      record {
        number = p.number;
        destination = p.server;
        new = new_to source n s p.fresh;
        known = known_to server d s p.known;
        room = p.room;
      }

  source_from : (n d : ℕ) → AddsSource n d s → source_fault n d (table server s) (table source s) ≡ 0
  unfolding source_fault
  source_from n d p =
      rw (
        lt-leb (2 ^ 20) n p.number,
        lt-leb (2 ^ 32) d p.destination,
        new_from source n s p.new,
        known_from server d s p.known,
        lt-leb 64 (length (table source s)) p.room,
      )

  -- §14.9
  source_word_to : (n : ℕ) (v : List ℕ) → source_word_fault n (length v) (value_of v) (table server s) (table source s) ≡ 0 → SetsSource n s v
  source_word_to n v e =
      let p = source_word_lem n (length v) (value_of v) (table server s) (table source s) e in
      let t : takes (table server s) (le v) ≡ true = rw (value_is v p.wide) at p.taken in
      let q = taken_to s (le v) t in
      record { width = p.wide; known = known_to source n s p.known; narrow = q.0; destination = q.1 }

  source_word_from : (n : ℕ) (v : List ℕ) → SetsSource n s v → source_word_fault n (length v) (value_of v) (table server s) (table source s) ≡ 0
  unfolding source_word_fault
  source_word_from n v p =
      rw (value_is v p.width, eq-eqb (length v) 8 p.width, known_from source n s p.known, taken_from s (le v) p.narrow p.destination)

  -- §14.10
  server_word_to : (n : ℕ) (v : List ℕ) → server_word_fault n (length v) (value_of v) (table server s) ≡ 0 → SetsServer n s v
  server_word_to n v e =
      let p = server_word_lem n (length v) (value_of v) (table server s) e in
      let t : paired (le v) ≡ true = rw (value_is v p.wide) at p.taken in
      record { width = p.wide; known = known_to server n s p.known; paired = paired_to (le v) t }

  server_word_from : (n : ℕ) (v : List ℕ) → SetsServer n s v → server_word_fault n (length v) (value_of v) (table server s) ≡ 0
  unfolding server_word_fault
  server_word_from n v p =
      rw (value_is v p.width, eq-eqb (length v) 8 p.width, known_from server n s p.known, paired_from (le v) p.paired)

-- §14.14
pub accepts : (n : ℕ) (s v : List ℕ) → SoundXics s → Accepts n s v
accepts n s v ok = record {
  server = accepted s ok (AddServer n) (server_to s ok n) (server_from s ok n);
  source = λ d. accepted s ok (AddSource n d) (source_to s ok n d) (source_from s ok n d);
  source_word = accepted s ok (SetSource n (length v) (value_of v)) (source_word_to s ok n v) (source_word_from s ok n v);
  server_word = accepted s ok (SetServer n (length v) (value_of v)) (server_word_to s ok n v) (server_word_from s ok n v);
}
