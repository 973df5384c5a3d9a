-- `others`: a get of another source or server answers and fills the same before a call that may change an XICS and after. Assumes nothing.
use Prim.Native.Nat.{ℕ}
use mathlib.Core.Path.{◌≡◌, refl, sym, ap, ◌∙◌}
use mathlib.Core.Logic.{◌⊎◌, ⊎_elim}
use mathlib.Core.Bool.{Bool, true, false, not}
use mathlib.Core.List.{List, [], ◌∷◌}
use lib.ListN.{length}
use lib.Dec.{eqb}
use Rattle.lists.specs.Rows.{choose}
use Rattle.words.proofs.Bytes.{Bytes}
use Rattle.calls.specs.Call.{Reply, untold, value_of, given}
use Rattle.step.specs.Step.{gives}
use Rattle.xicswords.specs.Word.{trimmed, fresh_server, fresh_source}
use Rattle.xicsrows.specs.XicsLayout.{server, source, Row, table}
use Rattle.xicsrows.specs.Registered.{index_of, registered, word_of}
use Rattle.xicsrows.proofs.Numbers.{found, registered_is, numbers_registered, numbers_set}
use Rattle.xicsrows.proofs.Edited.{word_set_else, registered_front, word_front, registered_else}
use Rattle.xicsrules.specs.Sound.{SoundXics}
use Rattle.xics.specs.declared.XicsChange.TheVariants.{AddServer, AddSource, SetSource, SetServer}
use Rattle.xics.specs.Faults.{word_fault}
use Rattle.xics.specs.Calls.{asks_word}
use Rattle.xics.specs.XicsStep.{XicsCall, xics_step}
use Rattle.xicsclaims.specs.XicsClaims.{Names, adds_server, adds_source, sets_server, sets_source, Gets, gets_server, gets_source, Alike}
use Rattle.kept.proofs.Choice.{chosen}
use Rattle.xicsclaims.proofs.Guard.{change_by, sound_or_still}
use Rattle.xicsrules.proofs.Parts.{Holds}
use Rattle.xics.proofs.Passes.{new_server_lem, new_source_lem, source_word_lem, server_word_lem}
use Rattle.xicsclaims.proofs.Changes.{more, other, server_added, source_added, source_worded, server_worded}
use Rattle.xicsclaims.proofs.Stays.{value_bound, stays}
use Rattle.xicsclaims.proofs.Words.{reads, asked}

-- number m is registered in both or in neither, and with the same word
record Same (m : ℕ) (k l : List Row) : Type 0 where
  there : registered m k ≡ registered m l
  word : registered m l ≡ true → word_of m k ≡ word_of m l

-- then a get of m reads the same in both
same_reads : (m width : ℕ) (k l : List Row) → Same m k l → reads m width k ≡ reads m width l
unfolding word_fault
same_reads m width k l e = go (registered m l) refl
  where
    go : (q : Bool) → registered m l ≡ q → reads m width k ≡ reads m width l
    go true h = rw (e.there, e.word h)
    go false h =
        rw (e.there, h)
        (chosen (λ (x : ℕ). choose (eqb x 0) (record { errno = 0; number = word_of m k }) (untold x) ≡ choose (eqb x 0) (record { errno = 0; number = word_of m l }) (untold x))
        (not (eqb width 8)) {x = 14} {y = 2} refl refl)

-- rows that are the same; a row more of another number; another word for another number
same_rows : (m : ℕ) (k l : List Row) → k ≡ l → Same m k l
same_rows m k l e = record { there = ap (registered m) e; word = λ h. ap (word_of m) e }

same_more : (n w m : ℕ) (l : List Row) → (n ≡ m → ⊥) → Same m (more n w l) l
same_more n w m l d = go (registered m l) refl
  where
    x : Row
    x = record { number = n; word = w }

    go : (q : Bool) → registered m l ≡ q → Same m (more n w l) l
    go true h = record { there = registered_front m l (x ∷ []) h ∙ sym h; word = λ g. word_front m l (x ∷ []) h }
    go false h = record { there = registered_else m l x d h ∙ sym h; word = λ g. word_front m l (x ∷ []) g }

same_other : (n w m : ℕ) (l : List Row) → registered n l ≡ true → (n ≡ m → ⊥) → Same m (other n w l) l
same_other n w m l h d = record {
  there = numbers_registered m (other n w l) l (numbers_set l (index_of n l) w);
  word = λ g. word_set_else l (index_of n l) w m (λ e. d (sym (found n l (registered_is n l h)) ∙ e)) g;
}

-- what is said of both tables after a call that names number n in table t
record Rest (t n m : ℕ) (after s : List ℕ) : Type 0 where
  servers : (t ≡ server → n ≡ m → ⊥) → Same m (table server after) (table server s)
  sources : (t ≡ source → n ≡ m → ⊥) → Same m (table source after) (table source s)

-- a refused call leaves all as it was
as_before : (t n m : ℕ) (s : List ℕ) → Rest t n m s s
as_before t n m s = record { servers = λ d. same_rows m _ _ refl; sources = λ d. same_rows m _ _ refl }

-- a call on a server, and one on a source, by the rows that it leaves
on_server : (n m : ℕ) (after s : List ℕ) (k : List Row) → Holds after k (table source s) → ((n ≡ m → ⊥) → Same m k (table server s)) → Rest server n m after s
on_server n m after s k h f = record {
  servers = λ d. rw h.servers (f (d refl));
  sources = λ d. same_rows m _ _ h.sources;
}

on_source : (n m : ℕ) (after s : List ℕ) (k : List Row) → Holds after (table server s) k → ((n ≡ m → ⊥) → Same m k (table source s)) → Rest source n m after s
on_source n m after s k h f = record {
  servers = λ d. same_rows m _ _ h.servers;
  sources = λ d. rw h.sources (f (d refl));
}

module _ (s v : List ℕ) (ok : SoundXics s) (bytes : Bytes v) (m : ℕ) where
  abbrev a : List Row
  a = table server s

  abbrev b : List Row
  b = table source s

  -- each of the four
  rest : {t n : ℕ} {c : XicsCall} → Names t n c → Rest t n m (xics_step c s v).state s
  rest (adds_server n) =
      change_by (AddServer n) s ok (λ (r : Reply). Rest server n m r.lent s)
      (λ e. on_server n m _ s (more n fresh_server a) (server_added s ok n (new_server_lem n a e)) (λ d. same_more n fresh_server m a d))
      (λ e. as_before server n m s)
  rest (adds_source n d) =
      change_by (AddSource n d) s ok (λ (r : Reply). Rest source n m r.lent s)
      (λ e. on_source n m _ s (more n (fresh_source d) b) (source_added s ok n d (new_source_lem n d a b e)) (λ x. same_more n (fresh_source d) m b x))
      (λ e. as_before source n m s)
  rest (sets_server n) =
      change_by (SetServer n (length v) (value_of v)) s ok (λ (r : Reply). Rest server n m r.lent s)
      (λ e. let t = server_word_lem n (length v) (value_of v) a e in
      on_server n m _ s (other n (trimmed (value_of v)) a) (server_worded s ok n (length v) (value_of v) (value_bound v bytes t.wide) t)
      (λ d. same_other n (trimmed (value_of v)) m a t.known d))
      (λ e. as_before server n m s)
  rest (sets_source n) =
      change_by (SetSource n (length v) (value_of v)) s ok (λ (r : Reply). Rest source n m r.lent s)
      (λ e. let t = source_word_lem n (length v) (value_of v) a b e in
      on_source n m _ s (other n (value_of v) b) (source_worded s ok n (length v) (value_of v) t)
      (λ d. same_other n (value_of v) m b t.known d))
      (λ e. as_before source n m s)

-- a get of m from two sound XICSs that say the same of it
get_alike : (t m : ℕ) (after s u : List ℕ) → SoundXics after → SoundXics s → Same m (table t after) (table t s)
    → Alike (gives after (given (asks_word t m (length u) after) u)) (gives s (given (asks_word t m (length u) s) u))
get_alike t m after s u x y e =
    let q : asks_word t m (length u) after ≡ asks_word t m (length u) s =
    asked t m (length u) after x ∙ same_reads m (length u) (table t after) (table t s) e ∙ sym (asked t m (length u) s y) in
    rw q (record { answer = refl; lent = refl })

-- of a sound XICS
others_sound : (t n k m : ℕ) (c q : XicsCall) (s v u : List ℕ) → SoundXics s → Bytes v → Names t n c → Gets k m q → (t ≡ k → n ≡ m → ⊥)
    → Alike (xics_step q (xics_step c s v).state u) (xics_step q s u)
others_sound t n k m c q s v u ok b x (gets_server _) d = get_alike server m (xics_step c s v).state s u (stays c s v b ok) ok ((rest s v ok b m x).servers d)
others_sound t n k m c q s v u ok b x (gets_source _) d = get_alike source m (xics_step c s v).state s u (stays c s v b ok) ok ((rest s v ok b m x).sources d)

-- of any other nothing changes
still : (t n : ℕ) (c : XicsCall) (s v : List ℕ) → Bytes s → Names t n c → SoundXics s ⊎ ((xics_step c s v).state ≡ s)
still t n c s v z (adds_server _) = sound_or_still (AddServer n) s z
still t n c s v z (adds_source _ d) = sound_or_still (AddSource n d) s z
still t n c s v z (sets_server _) = sound_or_still (SetServer n (length v) (value_of v)) s z
still t n c s v z (sets_source _) = sound_or_still (SetSource n (length v) (value_of v)) s z

-- §14.15
pub others : (t n k m : ℕ) (c q : XicsCall) (s v u : List ℕ) → Bytes s → Bytes v → Names t n c → Gets k m q → (t ≡ k → n ≡ m → ⊥)
    → Alike (xics_step q (xics_step c s v).state u) (xics_step q s u)
others t n k m c q s v u z b x y d = ⊎_elim
    (λ ok. others_sound t n k m c q s v u ok b x y d)
    (λ e. rw e (record { answer = refl; lent = refl }))
    (still t n c s v z x)
