-- `delivery` and `asks`: 1 and 0 of a source that is registered, by a row of it and one of its server; and no byte changes. Assumes nothing.
use Prim.Native.Nat.{ℕ}
use native.Mathlib.Omega.{arith}
use mathlib.Core.Path.{◌≡◌, refl, sym, ap, ◌∙◌}
use mathlib.Core.Bool.{Bool, true, false}
use mathlib.Core.List.{List}
use lib.IntN.{nat_abs}
use Rattle.lists.specs.Rows.{choose}
use Rattle.lists.proofs.All.{from_all}
use Rattle.lists.proofs.Member.{In, all_in}
use Rattle.answers.specs.Answer.{refusal, done}
use Rattle.answers.proofs.Laws.{refusal_not_done}
use Rattle.calls.specs.Call.{untold}
use Rattle.xicswords.specs.Word.{destination, delivers}
use Rattle.xicswords.proofs.Meaning.{delivers_to, delivers_from}
use Rattle.xicsrows.specs.XicsLayout.{server, source, Row, table}
use Rattle.xicsrows.specs.Registered.{registered, word_of}
use Rattle.xicsrules.specs.Sound.{source_ok, SoundXics}
use Rattle.xicsrules.proofs.Parts.{Parts, ok_server, sound_parts}
use Rattle.xics.specs.Calls.{delivery, asks_delivery}
use Rattle.xics.specs.XicsStep.{xics_step, deliverable}
use Rattle.xicsclaims.specs.XicsClaims.{Delivers, Delivery, Still}
use Rattle.xicsclaims.proofs.Guard.{guard_sound}
use Rattle.xicsclaims.proofs.Found.{row_in, in_registered, in_word}

module _ (n : ℕ) (s v : List ℕ) (ok : SoundXics s) where
  abbrev a : List Row
  a = table server s

  abbrev b : List Row
  b = table source s

  -- the word of the source, and of the server that it names
  abbrev w : ℕ
  w = word_of n b

  abbrev x : ℕ
  x = word_of (destination w) a

  -- the rows break no rule
  p : Parts a b
  p = sound_parts s ok.rules

  -- the answer, of one that is registered and of one that is not
  told : registered n b ≡ true → (xics_step (deliverable n) s v).answer ≡ done (choose (delivers w x) 1 0)
  unfolding asks_delivery delivery
  told h = rw (guard_sound untold _ s ok, h)

  untold_is : registered n b ≡ false → (xics_step (deliverable n) s v).answer ≡ refusal 2
  unfolding asks_delivery
  untold_is h = rw (guard_sound untold _ s ok, h)

  -- the test, and the rows that it says
  from_test : registered n b ≡ true → delivers w x ≡ true → Delivers n s
  from_test h t =
      let q = delivers_to w x t in
      let m = row_in n b h in
      record {
        w = w;
        v = x;
        source = m;
        server = row_in (destination w) a (ok_server a _ (all_in b (from_all (source_ok a) b p.sources) m));
        pending = q.waits;
        unmasked = q.unmasked;
        below = q.below;
      }

  -- and back
  to_test : Delivers n s → (registered n b ≡ true) × (delivers w x ≡ true)
  to_test d =
      let e : w ≡ d.w = in_word n b d.w p.once_sources d.source in
      let f : word_of (destination d.w) a ≡ d.v = in_word (destination d.w) a d.v p.once_servers d.server in (
        in_registered n b _ d.source refl,
        rw (e, f) (delivers_from d.w d.v (record { waits = d.pending; unmasked = d.unmasked; below = d.below })),
      )

  -- an answer of 1 is a test that passed
  one : (t : Bool) → done (choose t 1 0) ≡ done 1 → t ≡ true
  one true h = refl
  one false h = absurd (omega (arith, ap nat_abs h))

  -- the answers, by what the tests say
  yes_to : (q : Bool) → registered n b ≡ q → (xics_step (deliverable n) s v).answer ≡ done 1 → Delivers n s
  yes_to true h e = from_test h (one (delivers w x) (sym (told h) ∙ e))
  yes_to false h e = absurd (refusal_not_done 2 1 (omega arith) (sym (untold_is h) ∙ e))

  yes_from : Delivers n s → (xics_step (deliverable n) s v).answer ≡ done 1
  yes_from d = let t = to_test d in told t.0 ∙ ap (λ (q : Bool). done (choose q 1 0)) t.1

  no_by : (q : Bool) → delivers w x ≡ q → registered n b ≡ true → (Delivers n s → ⊥) → (xics_step (deliverable n) s v).answer ≡ done 0
  no_by true t h f = absurd (f (from_test h t))
  no_by false t h f = told h ∙ ap (λ (q : Bool). done (choose q 1 0)) t

  unknown_by : (q : Bool) → registered n b ≡ q → ((k : ℕ) → In (record { number = n; word = k }) b → ⊥) → (xics_step (deliverable n) s v).answer ≡ refusal 2
  unknown_by true h f = absurd (f w (row_in n b h))
  unknown_by false h f = untold_is h

-- §14.16
pub asks_delivery_lem : (n : ℕ) (s v : List ℕ) → SoundXics s → Delivery n s v
asks_delivery_lem n s v ok = record {
  yes = (yes_to n s v ok (registered n (table source s)) refl, yes_from n s v ok);
  no = λ w m f. no_by n s v ok _ refl (in_registered n (table source s) _ m refl) f;
  unknown = unknown_by n s v ok (registered n (table source s)) refl;
}

-- §14.15: getting and asking change no byte
pub asks : (n : ℕ) (s v : List ℕ) → Still n s v
asks n s v = record { source = refl; server = refl; delivery = refl }
