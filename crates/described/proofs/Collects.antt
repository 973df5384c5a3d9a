-- The collections that are read: an insertion sort of the entries before the first with V clear.
use Prim.Native.Nat.{ℕ, zero, suc, ◌+◌, ◌/◌, ◌≤◌, ◌<◌}
use native.Mathlib.Omega.{arith}
use mathlib.Core.Path.{◌≡◌, refl, sym, ap, ◌∙◌, subst}
use mathlib.Core.Bool.{true, false}
use mathlib.Core.Logic.{⊎_elim}
use mathlib.Core.List.{List, [], ◌∷◌}
use lib.ListN.{length, take, drop, length-append, length-take, length-drop}
use borrow.Author.Tests.{lt-leb, leb-false}
use Rattle.lists.proofs.All.{All, none, more}
use Rattle.areas.proofs.Has.{has}
use Rattle.entries.specs.Collection.{is_collection}
use Rattle.entries.proofs.Laws.{collection_of_fits}
use Rattle.guest.specs.Machine.{Machine}
use Rattle.mapping.specs.declared.Collection.{Collection}
use Rattle.mapping.specs.Mapped.{Mapped, collection_key, empty, no_collection, place_of, inserted_at, rising}
use Rattle.mapping.specs.Commands.{with_collections}
use Rattle.mapping.specs.Meaning.{CollectionRules}
use Rattle.chains.proofs.Scan.{lt_or_ge}
use Rattle.chains.proofs.Way.{choose-cases}
use Rattle.tables.specs.Bytes.{entry_at, collection_at}
use Rattle.tables.specs.Fault.{at_collection}
use Rattle.described.specs.Described.{Collections}
use Rattle.tables.specs.Restored.{found, collection_tests, put_collection, visit_collection, read_collections}
use Rattle.lists.proofs.Member.{In, all_in, all_weaker, in_at, at_in}
use Rattle.mapping.proofs.Edits.{in_inserted, inserted_in, all_inserted}
use Rattle.mapping.proofs.Rise.{is_key, no_key, key_none, rising_nil, rising_same, rising_inserted}
use Rattle.described.proofs.Tried.{Passed, tried_is, tried_says}
use Rattle.described.proofs.Walks.{then_says}

-- rows with a row put in at its place
abbrev put : Collection → List Collection → List Collection
put c cs = inserted_at (place_of collection_key c.icid cs) c cs

length_inserted : {A : Type 0} (i : ℕ) (x : A) (l : List A) → length (inserted_at i x l) ≡ suc (length l)
unfolding inserted_at
length_inserted i x l = omega (arith, length-append (take i l) (x ∷ drop i l), length-take i l, length-drop i l)

module _ (m : Machine) (t : List ℕ) where
  -- a collection that may come next
  pub record Fresh (i : ℕ) (cs : List Collection) : Type 0 where
    pub pe : (collection_at t i).pe < length m.vcpus
    pub new : has (is_key collection_key (collection_at t i).icid) cs ≡ false
    pub room : length cs < 16

  passed : (i : ℕ) (k : Mapped) → Fresh i k.collections → Passed (collection_tests m (collection_at t i) k)
  passed i k f =
      more (lt-leb (length m.vcpus) (collection_at t i).pe f.pe) (more f.new (more (lt-leb 16 (length k.collections) f.room) none))

  pub passes : (i : ℕ) (k : Mapped) → Passed (collection_tests m (collection_at t i) k) → Fresh i k.collections
  passes i k (more a (more b (more c none))) =
      record { pe = leb-false (length m.vcpus) (collection_at t i).pe a; new = b; room = leb-false 16 (length k.collections) c }

  visit_is : (i : ℕ) (k : Mapped) → Fresh i k.collections → visit_collection m t i k ≡ found (put_collection (collection_at t i) k)
  unfolding visit_collection
  visit_is i k f = tried_is (at_collection i) (collection_tests m (collection_at t i) k) (found (put_collection (collection_at t i) k)) (passed i k f)

  visit_says : (i : ℕ) (k h : Mapped) → visit_collection m t i k ≡ found h → Fresh i k.collections × (h ≡ put_collection (collection_at t i) k)
  unfolding visit_collection
  visit_says i k h p =
      let c = collection_at t i in
      let r = tried_says (at_collection i) (collection_tests m c k) (found (put_collection c k)) h p in
      let q = r.1 in
      (passes i k r.0, cc)

  -- the first n entries are collections, and these are their rows
  pub record Listed (n : ℕ) (cs : List Collection) : Type 0 where
    pub count : length cs ≡ n
    pub few : n ≤ 16
    pub valid : (i : ℕ) → i < n → is_collection (entry_at t i) ≡ true
    pub distinct : (i j : ℕ) → i < n → j < n → (collection_at t i).icid ≡ (collection_at t j).icid → i ≡ j
    pub listed : (i : ℕ) → i < n → In (collection_at t i) cs
    pub named : All (λ c. (i : ℕ) × (i < n) × (collection_at t i ≡ c)) cs
    pub rise : rising collection_key cs ≡ true
    pub parts : All (CollectionRules m) cs

  pub listed_none : Listed 0 []
  listed_none = record {
    count = refl;
    few = omega arith;
    valid = λ i h. absurd (omega arith);
    distinct = λ i j h g e. absurd (omega arith);
    listed = λ i h. absurd (omega arith);
    named = none;
    rise = rising_nil collection_key;
    parts = none;
  }

  module _ (n : ℕ) (cs : List Collection) (l : Listed n cs) (v : is_collection (entry_at t n) ≡ true) (f : Fresh n cs) where
    -- none of the rows has its ICID
    other : (i : ℕ) → i < n → (collection_at t i).icid ≡ (collection_at t n).icid → ⊥
    other i h e = all_in cs (no_key collection_key (collection_at t n).icid cs f.new) (l.listed i h) e

    -- an index below n + 1 is below n, or n
    upto : {P : ℕ → Type 0} → ((i : ℕ) → i < n → P i) → P n → (i : ℕ) → i < suc n → P i
    upto a b i h = ⊎_elim (λ g. a i g) (λ g. let e : i ≡ n = omega arith in rw e b) (lt_or_ge i n)

    two : (i : ℕ) → i < suc n → (j : ℕ) → j < suc n → (collection_at t i).icid ≡ (collection_at t j).icid → i ≡ j
    two = upto (λ i h. upto (λ j g e. l.distinct i j h g e) (λ e. absurd (other i h e))) (upto (λ j g e. absurd (other j g (sym e))) (λ e. refl))

    pub listed_more : Listed (suc n) (put (collection_at t n) cs)
    listed_more =
        let c = collection_at t n in
        let at = place_of collection_key c.icid cs in
        record {
          count = length_inserted at c cs ∙ ap suc l.count;
          few = omega (arith, f.room, l.count);
          valid = upto l.valid v;
          distinct = λ i j h g. two i h j g;
          listed = upto (λ i h. in_inserted at c cs (l.listed i h)) (inserted_in at c cs);
          named = all_inserted at c cs (n, omega arith, refl) (all_weaker (λ x p. let h = p.1 in (p.0, omega arith, p.2)) cs l.named);
          rise = rising_inserted collection_key c cs l.rise (no_key collection_key c.icid cs f.new);
          parts = all_inserted at c cs (record { icid = (collection_of_fits (entry_at t n)).icid; pe = f.pe }) l.parts;
        }

  -- what a read finds
  record Reads (end : ℕ) (k h : Mapped) : Type 0 where
    pub rows : Listed (length h.collections) h.collections
    pub is : h ≡ with_collections h.collections k
    pub inside : length h.collections ≤ end
    pub stop : length h.collections < end → is_collection (entry_at t (length h.collections)) ≡ false

  stops : (end i : ℕ) (k h : Mapped) → Listed i k.collections → i ≤ end → (i < end → is_collection (entry_at t i) ≡ false) → k ≡ h → Reads end k h
  stops end i k h l b s e = subst (Reads end k) e r
    where
      r : Reads end k k
      r = let c = l.count in record { rows = rw c l; is = refl; inside = omega arith; stop = rw c s }

  read_says : (left i : ℕ) (k h : Mapped) → Listed i k.collections → read_collections m t left i k ≡ found h → Reads (i + left) k h
  unfolding read_collections
  read_says zero i k h l p = stops (i + 0) i k h l (omega arith) (λ g. absurd (omega arith)) (cc)
  read_says (suc left) i k h l p = ⊎_elim
      (λ a.
      let s = then_says (visit_collection m t i k) (read_collections m t left (suc i)) h a.1 in
      let w = visit_says i k s.0 s.1 in
      let k' = put_collection (collection_at t i) k in
      let q : read_collections m t left (suc i) k' ≡ found h = rw w.1 at s.2 in
      let r = read_says left (suc i) k' h (listed_more i k.collections l a.0 w.0) q in
      let e : suc i + left ≡ i + suc left = omega arith in
      record { rows = r.rows; is = r.is; inside = omega (arith, r.inside); stop = λ g. r.stop (omega arith) })
      (λ a. let e = a.1 in stops (i + suc left) i k h l (omega arith) (λ g. a.0) (cc))
      (choose-cases (is_collection (entry_at t i)) p)

  -- what is described is read
  module _ (cs : List Collection) (d : Collections t cs) (rise : rising collection_key cs ≡ true) (parts : All (CollectionRules m) cs) (few : length cs ≤ 16) where
    in_rows : (i : ℕ) → i < length cs → In (collection_at t i) cs
    in_rows i h = let j = d.listed i h in rw j.2 at (in_at cs j.0 no_collection j.1)

    -- the next one may come
    fresh : (i : ℕ) (bs : List Collection) → i < length cs → Listed i bs → Fresh i bs
    fresh i bs h l = record {
      pe = (all_in cs parts (in_rows i h)).pe;
      new = key_none collection_key (collection_at t i).icid bs
          (all_weaker (λ c p e.
          let j = p.0 in
          let q : (collection_at t j).icid ≡ (collection_at t i).icid = ap collection_key p.2 ∙ e in
          let g : j < i = p.1 in
          let x : j ≡ i = d.distinct j i (omega arith) h q in
          omega arith) bs l.named);
      room = omega (arith, l.count);
    }

    read_is : (left i : ℕ) (k : Mapped) → i + left ≡ length t / 8 → i ≤ length cs → Listed i k.collections
        → (bs : List Collection) × (read_collections m t left i k ≡ found (with_collections bs k)) × Listed (length cs) bs
    unfolding read_collections
    read_is zero i k e h l = let x : i ≡ length cs = omega (arith, d.inside) in (k.collections, refl, rw x at l)
    read_is (suc left) i k e h l = ⊎_elim
        (λ (g : i < length cs).
        let f = fresh i k.collections g l in
        let v = d.valid i g in
        let r = read_is left (suc i) (put_collection (collection_at t i) k) (omega arith) g (listed_more i k.collections l v f) in
        (r.0, rw (v, visit_is i k f) r.1, r.2))
        (λ (g : length cs ≤ i).
        let x : i ≡ length cs = omega arith in
        let s : is_collection (entry_at t i) ≡ false = rw x (d.stop (omega arith)) in
        (k.collections, rw s, rw x at l))
        (lt_or_ge i (length cs))

    pub collected : read_collections m t (length t / 8) 0 empty ≡ found (with_collections cs empty)
    collected =
        let r = read_is (length t / 8) 0 empty (omega arith) (omega arith) listed_none in
        let l = r.2 in
        let e : r.0 ≡ cs = rising_same collection_key r.0 cs l.rise rise
        (λ x i. let p = all_in r.0 l.named i in rw p.2 at (in_rows p.0 p.1))
        (λ x i. let p = all_in cs d.named i in rw p.2 at (l.listed p.0 p.1)) in
        rw e at r.1

  -- what is read is described, and obeys the rules
  pub record Gathered (h : Mapped) : Type 0 where
    pub described : Collections t h.collections
    pub rows : Listed (length h.collections) h.collections
    pub is : h ≡ with_collections h.collections empty

  pub gathered : (h : Mapped) → read_collections m t (length t / 8) 0 empty ≡ found h → Gathered h
  gathered h p =
      let r = read_says (length t / 8) 0 empty h listed_none p in
      let l = r.rows in
      record {
        described = record {
          inside = omega (arith, r.inside);
          valid = l.valid;
          stop = λ g. r.stop (omega arith);
          distinct = l.distinct;
          listed = λ i g. at_in h.collections no_collection (l.listed i g);
          named = l.named;
        };
        rows = l;
        is = r.is;
      }
