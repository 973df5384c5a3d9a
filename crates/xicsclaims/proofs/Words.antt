-- `words`: what a get gives of the source or the server that an accepted call before it named. Assumes nothing.
use Prim.Native.Nat.{ℕ, ◌+◌, ◌<◌, ◌^◌}
use mathlib.Core.Path.{◌≡◌, refl, sym, ap, ◌∙◌, subst}
use mathlib.Core.Bool.{true}
use mathlib.Core.List.{List}
use lib.ListN.{length}
use lib.Dec.{eqb}
use Rattle.lists.specs.Rows.{choose}
use Rattle.words.specs.Words.{le}
use Rattle.words.proofs.Bytes.{Bytes}
use Rattle.guest.specs.Machine.{Reading}
use Rattle.calls.specs.Call.{Reply, untold, value_of, given}
use Rattle.step.specs.Step.{gives}
use Rattle.xicswords.specs.Word.{trimmed, fresh_server, fresh_source}
use Rattle.xicsrows.specs.XicsLayout.{server, source, Row, table}
use Rattle.xicsrows.specs.Registered.{index_of, registered, word_of}
use Rattle.xicsrows.proofs.Numbers.{numbers_registered, numbers_set}
use Rattle.xicsrows.proofs.Edited.{word_set, registered_last, word_last}
use Rattle.xicsrules.specs.Sound.{SoundXics}
use Rattle.xics.specs.declared.XicsChange.TheVariants.{AddServer, AddSource, SetSource, SetServer}
use Rattle.xics.specs.Faults.{word_fault}
use Rattle.xics.specs.Calls.{changed, asks_word}
use Rattle.xics.specs.XicsStep.{xics_step, add_server, add_source, set_source, set_server, get_source, get_server}
use Rattle.xicsclaims.specs.XicsClaims.{Accepted, Fills, Words}
use Rattle.xicsclaims.proofs.Guard.{guard_sound, no_fault, accepted_fault, accepted_sound}
use Rattle.xicswords.proofs.Meaning.{fresh_server_lem, fresh_source_lem, trim_is}
use Rattle.xicsclaims.proofs.Fresh.{server_fields, source_fields}
use Rattle.xics.proofs.Passes.{new_server_lem, new_source_lem, source_word_lem, server_word_lem}
use Rattle.xicsclaims.proofs.Changes.{more, other, server_added, source_added, source_worded, server_worded}
use Rattle.xicsclaims.proofs.Stays.{value_is, value_bound, server_added_sound, source_added_sound, source_worded_sound, server_worded_sound}

-- §14.11: a get on the rows of its table
abbrev pub reads : ℕ → ℕ → List Row → Reading
reads n width l = choose (eqb (word_fault n width l) 0) (record { errno = 0; number = word_of n l }) (untold (word_fault n width l))

-- on a sound XICS it is just that
pub asked : (t n width : ℕ) (s : List ℕ) → SoundXics s → asks_word t n width s ≡ reads n width (table t s)
unfolding asks_word
asked t n width s ok = guard_sound untold (reads n width (table t s)) s ok

-- the word of what is registered, into 8 bytes
reads_word : (n : ℕ) (l : List Row) → registered n l ≡ true → reads n 8 l ≡ record { errno = 0; number = word_of n l }
unfolding word_fault
reads_word n l h = rw h

-- a get of n from table t of a sound XICS s, where the rows are l and the word of n is w
fills : (t n w : ℕ) (s u : List ℕ) (l : List Row) → SoundXics s → table t s ≡ l → registered n l ≡ true → word_of n l ≡ w → length u ≡ 8
    → Fills (gives s (given (asks_word t n (length u) s) u)) w
fills t n w s u l ok e h g k =
    let q : asks_word t n (length u) s ≡ record { errno = 0; number = w } =
    ap (λ (i : ℕ). asks_word t n i s) k ∙ asked t n 8 s ok ∙ ap (reads n 8) e ∙ reads_word n l h ∙ ap (λ (x : ℕ). record { errno = 0; number = x }) g in
    rw (q, k) (record { accepted = refl; filled = refl })

-- a number is still registered where its word is another, and then it has that word
module _ (n w : ℕ) (l : List Row) (h : registered n l ≡ true) where
  still_there : registered n (other n w l) ≡ true
  still_there = numbers_registered n (other n w l) l (numbers_set l (index_of n l) w) ∙ h

  has_word : word_of n (other n w l) ≡ w
  has_word = word_set l (index_of n l) w n refl h

module _ (n : ℕ) (s v u : List ℕ) (ok : SoundXics s) (bytes : Bytes v) (wide : length u ≡ 8) where
  abbrev a : List Row
  a = table server s

  abbrev b : List Row
  b = table source s

  -- after a set: the word that was set, of a server without bits 15:0
  set_source_lem : Accepted (xics_step (set_source n) s v) → Fills (xics_step (get_source n) (xics_step (set_source n) s v).state u) (le v)
  set_source_lem h =
      let c = SetSource n (length v) (value_of v) in
      let e = accepted_fault c s ok h in
      let t = source_word_lem n (length v) (value_of v) a b e in
      subst (λ (r : Reply). Fills (xics_step (get_source n) r.lent u) (le v)) (sym (no_fault c s ok e))
      (fills source n (le v) (changed c s) u (other n (value_of v) b) (source_worded_sound s ok n (length v) (value_of v) t)
      (source_worded s ok n (length v) (value_of v) t).sources (still_there n (value_of v) b t.known)
      (has_word n (value_of v) b t.known ∙ value_is v t.wide) wide)

  set_server_lem : (x : ℕ) → trimmed (le v) ≡ x → Accepted (xics_step (set_server n) s v) → Fills (xics_step (get_server n) (xics_step (set_server n) s v).state u) x
  set_server_lem x q h =
      let c = SetServer n (length v) (value_of v) in
      let e = accepted_fault c s ok h in
      let t = server_word_lem n (length v) (value_of v) a e in
      let w = trimmed (value_of v) in
      let bound = value_bound v bytes t.wide in
      subst (λ (r : Reply). Fills (xics_step (get_server n) r.lent u) x) (sym (no_fault c s ok e))
      (fills server n x (changed c s) u (other n w a) (server_worded_sound s ok n (length v) (value_of v) bound t)
      (server_worded s ok n (length v) (value_of v) bound t).servers (still_there n w a t.known)
      (has_word n w a t.known ∙ ap trimmed (value_is v t.wide) ∙ q) wide)

  -- after a registration: the word of one just registered
  add_source_lem : (d : ℕ) → Accepted (xics_step (add_source n d) s v)
      → Fills (xics_step (get_source n) (xics_step (add_source n d) s v).state u) (0x000002FF00000000 + d) × (d < 2 ^ 32)
  add_source_lem d h =
      let c = AddSource n d in
      let e = accepted_fault c s ok h in
      let t = new_source_lem n d a b e in
      let x : Row = record { number = n; word = fresh_source d } in (
        subst (λ (r : Reply). Fills (xics_step (get_source n) r.lent u) (0x000002FF00000000 + d)) (sym (no_fault c s ok e))
            (fills source n (0x000002FF00000000 + d) (changed c s) u (more n (fresh_source d) b) (source_added_sound s ok n d t)
            (source_added s ok n d t).sources (registered_last n b x refl t.fresh)
            (word_last n b x refl t.fresh ∙ fresh_source_lem d t.server) wide),
        t.server,
      )

  add_server_lem : Accepted (xics_step (add_server n) s v) → Fills (xics_step (get_server n) (xics_step (add_server n) s v).state u) 0x00000000FFFF0000
  add_server_lem h =
      let c = AddServer n in
      let e = accepted_fault c s ok h in
      let t = new_server_lem n a e in
      let x : Row = record { number = n; word = fresh_server } in
      subst (λ (r : Reply). Fills (xics_step (get_server n) r.lent u) 0x00000000FFFF0000) (sym (no_fault c s ok e))
      (fills server n 0x00000000FFFF0000 (changed c s) u (more n fresh_server a) (server_added_sound s ok n t)
      (server_added s ok n t).servers (registered_last n a x refl t.fresh)
      (word_last n a x refl t.fresh ∙ fresh_server_lem) wide)

-- §14.15: of any bytes, since a call that is accepted found them sound
pub words : (n : ℕ) (s v u : List ℕ) → Bytes s → Bytes v → length u ≡ 8 → Words n s v u
words n s v u z b k = record {
  source = λ h. set_source_lem n s v u (accepted_sound (SetSource n (length v) (value_of v)) s z h) b k h;
  server = λ h. set_server_lem n s v u (accepted_sound (SetServer n (length v) (value_of v)) s z h) b k _ (trim_is (le v)) h;
  new_source = λ d h. let r = add_source_lem n s v u (accepted_sound (AddSource n d) s z h) b k d h in (r.0, source_fields d r.1);
  new_server = λ h. (add_server_lem n s v u (accepted_sound (AddServer n) s z h) b k h, server_fields);
}
