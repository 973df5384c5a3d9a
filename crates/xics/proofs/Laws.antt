-- The ends of a call on the bytes of an XICS, and what the test of them tells. Assumes nothing.
use Prim.Native.Nat.{ℕ, ◌<◌}
use native.Mathlib.Omega.{arith}
use mathlib.Core.Path.{◌≡◌, refl, sym, ap, ap₂, ◌∙◌}
use mathlib.Core.Bool.{Bool, true, false, not}
use mathlib.Core.List.{List}
use lib.IntN.{ℤ}
use lib.ListN.{length, get_or}
use lib.Dec.{eqb}
use borrow.Author.Tests.{eq-eqb, ne_eqb, eqb-true}
use Rattle.areas.proofs.Tests.{clash}
use Rattle.std.specs.Prelude.{Result, Ok, Err, IfOk, Some}
use Rattle.std.specs.Int.{from_bool}
use Rattle.lists.specs.Rows.{choose}
use Rattle.answers.specs.declared.Errno.{Errno}
use Rattle.answers.specs.Number.{number}
use Rattle.answers.specs.Answer.{refusal, done}
use Rattle.guest.specs.Returned.{fault, reading}
use Rattle.guest.proofs.Returned.{number_not_0}
use Rattle.calls.specs.Call.{Gives, refused, untold}
use Rattle.xicswords.specs.Word.{destination, delivers}
use Rattle.xicsrows.specs.XicsLayout.{size, server, source, Row, table, cleared, Counted}
use Rattle.xicsrows.specs.Registered.{no_row, index_of, registered, row_with, word_of}
use Rattle.xicsrows.proofs.Numbers.{registered_is}
use Rattle.xicsrows.proofs.Search.{found_at}
use Rattle.xicsrows.proofs.Edited.{all_row}
use Rattle.xicsrows.proofs.Written.{counts_few}
use Rattle.xicsrules.proofs.Parts.{ok_server, sound_parts}
use Rattle.xicsrules.specs.Sound.{source_ok, sound_xics}
use Rattle.xics.specs.Faults.{width_fault, number_fault, word_fault}
use Rattle.xics.specs.declared.XicsChange.{XicsChange}
use Rattle.xics.specs.Calls.{guarded_xics, settled_xics, change_fault, changed, changes_xics, set_up_xics, asks_word, delivery, asks_delivery, Settles}

-- rows of sound bytes can be read
pub counted : (s : List ℕ) → length s ≡ size → sound_xics s ≡ true → Counted s
counted s l u = let p = sound_parts s u in record { long = l; counts = counts_few s p.few_servers p.few_sources }

-- the destination of a source is registered
pub destination_known : (s : List ℕ) (n : ℕ) → sound_xics s ≡ true → registered n (table source s) ≡ true
    → registered (destination (word_of n (table source s))) (table server s) ≡ true
unfolding word_of
destination_known s n u h =
    let i = index_of n (table source s) in
    ok_server (table server s) (get_or (table source s) i no_row)
    (all_row (source_ok (table server s)) (table source s) i (sound_parts s u).sources (registered_is n (table source s) h))

-- the test of the bytes: what it tells where it passes, and where it does not
pub record Begun (s : List ℕ) : Type 0 where
  pub long : length s ≡ size
  pub sound : sound_xics s ≡ true
  pub counted : Counted s

pub begun : (s : List ℕ) → 0 ≡ guarded_xics (λ e. e) 0 s → Begun s
begun s = by (eqb (length s) size) (sound_xics s) refl refl
  where
    by : (b u : Bool) → eqb (length s) size ≡ b → sound_xics s ≡ u → ◌≡◌ {A = ℕ} 0 (choose b (choose u 0 22) 14) → Begun s
    by true true e f h = let l = eqb-true _ _ e in record { long = l; sound = f; counted = counted s l f }
    by true false e f h = absurd (omega arith)
    by false u e f h = absurd (omega arith)

module _ {A : Type 0} (refuse : ℕ → A) (go : A) (s : List ℕ) where
  pub goes_on : Begun s → guarded_xics refuse go s ≡ go
  goes_on b = rw (eq-eqb (length s) size b.long, b.sound)

  pub stops : (x : Errno) → number x ≡ guarded_xics (λ e. e) 0 s → refuse (number x) ≡ guarded_xics refuse go s
  stops x = by (eqb (length s) size) (sound_xics s)
    where
      by : (b u : Bool) → number x ≡ choose b (choose u 0 22) 14 → refuse (number x) ≡ choose b (choose u go (refuse 22)) (refuse 14)
      by true true h = absurd (number_not_0 x h)
      by true false h = ap refuse h
      by false u h = ap refuse h

-- a change: refused, done, and what the whole call gives
module _ (f : ℕ) (next s : List ℕ) where
  pub refused_by : (x : Errno) → number x ≡ f → Settles f next s (Err x) s
  refused_by x p = let z = ne_eqb f 0 (λ q. number_not_0 x (p ∙ q)) in record { is = p; leaves = rw z refl }

  pub is_done : (t : List ℕ) → f ≡ 0 → t ≡ next → Settles f next s (Ok tt) t
  is_done t p q = let z = eq-eqb f 0 p in record { is = sym p; leaves = q ∙ rw z refl }

  gives_done : (t : List ℕ) → Settles f next s (Ok tt) t → Gives (settled_xics f next s) (done 0) t
  gives_done t p = let z = eq-eqb f 0 (sym p.is) in record { number = rw z refl; left = p.leaves ∙ rw z refl }

module _ (c : XicsChange) (s t : List ℕ) where
  pub gives_0 : Settles (guarded_xics (λ e. e) (change_fault c s) s) (changed c s) s (Ok tt) t → Gives (changes_xics c s) (done 0) t
  unfolding changes_xics
  gives_0 = by (eqb (length s) size) (sound_xics s)
    where
      by : (b u : Bool) → Settles (choose b (choose u (change_fault c s) 22) 14) (changed c s) s (Ok tt) t
          → Gives (choose b (choose u (settled_xics (change_fault c s) (changed c s) s) (refused s 22)) (refused s 14)) (done 0) t
      by true true p = gives_done (change_fault c s) (changed c s) s t p
      by true false p = let q : ◌≡◌ {A = ℕ} 0 22 = p.is in absurd (omega arith)
      by false u p = let q : ◌≡◌ {A = ℕ} 0 14 = p.is in absurd (omega arith)

  pub gives_errno : (x : Errno) (a : ℤ) → Settles (guarded_xics (λ e. e) (change_fault c s) s) (changed c s) s (Err x) t → a ≡ refusal (number x)
      → Gives (changes_xics c s) a t
  unfolding changes_xics
  gives_errno x a p q = by (eqb (length s) size) (sound_xics s) p
    where
      by : (b u : Bool) → Settles (choose b (choose u (change_fault c s) 22) 14) (changed c s) s (Err x) t
          → Gives (choose b (choose u (settled_xics (change_fault c s) (changed c s) s) (refused s 22)) (refused s 14)) a t
      by true true p =
          let z = ne_eqb (change_fault c s) 0 (λ k. number_not_0 x (p.is ∙ k)) in
          record { number = rw z (q ∙ ap refusal p.is); left = p.leaves ∙ rw z refl }
      by true false p = record { number = q ∙ ap refusal p.is; left = p.leaves }
      by false u p = record { number = q ∙ ap refusal p.is; left = p.leaves }

-- set-up
module _ (s : List ℕ) where
  pub setup_short : (a : ℤ) → (length s ≡ size → ⊥) → a ≡ refusal 14 → Gives (set_up_xics s) a s
  unfolding set_up_xics
  setup_short a h q = let e = ne_eqb (length s) size h in record { number = rw e q; left = rw e }

  pub setup_clears : (t : List ℕ) → length s ≡ size → t ≡ cleared s → Gives (set_up_xics s) (done 0) t
  unfolding set_up_xics
  setup_clears t h w = let e = eq-eqb (length s) size h in record { number = rw e; left = rw e w }

-- what the test of a number tells
module _ (n : ℕ) (rows : List Row) where
  pub known : 0 ≡ number_fault n rows → registered n rows ≡ true
  known = by (registered n rows)
    where
      by : (b : Bool) → ◌≡◌ {A = ℕ} 0 (choose (not b) 2 0) → b ≡ true
      by true h = refl
      by false h = absurd (omega arith)

  pub unknown : (x : Errno) → number x ≡ number_fault n rows → (registered n rows ≡ false) × (number x ≡ 2)
  unknown x = by (registered n rows)
    where
      by : (b : Bool) → number x ≡ choose (not b) 2 0 → (b ≡ false) × (number x ≡ 2)
      by true h = absurd (number_not_0 x h)
      by false h = (refl, h)

-- and that of a width
pub wide : (width : ℕ) → 0 ≡ width_fault width → width ≡ 8
wide width h = by (eqb width 8) refl h
  where
    by : (b : Bool) → eqb width 8 ≡ b → ◌≡◌ {A = ℕ} 0 (choose (not b) 14 0) → width ≡ 8
    by true e h = eqb-true _ _ e
    by false e h = absurd (omega arith)

pub not_wide : (width : ℕ) (x : Errno) → number x ≡ width_fault width → (eqb width 8 ≡ false) × (number x ≡ 14)
not_wide width x = by (eqb width 8)
  where
    by : (b : Bool) → number x ≡ choose (not b) 14 0 → (b ≡ false) × (number x ≡ 14)
    by true h = absurd (number_not_0 x h)
    by false h = (refl, h)

-- a get of a word
module _ (t n width : ℕ) (s : List ℕ) where
  pub get_stops : (x : Errno) → number x ≡ guarded_xics (λ e. e) 0 s → record { errno = number x; number = 0 } ≡ asks_word t n width s
  unfolding asks_word
  get_stops x h = stops untold _ s x h

  module _ (b : Begun s) where
    pub get_narrow : (x : Errno) → number x ≡ width_fault width → record { errno = number x; number = 0 } ≡ asks_word t n width s
    unfolding asks_word word_fault
    get_narrow x h = let w = not_wide width x h in rw (goes_on, w.0, w.1) refl

    pub get_tells : (r : Result ℕ Errno) → 0 ≡ width_fault width → fault r ≡ number_fault n (table t s) → IfOk r (λ w. w ≡ word_of n (table t s))
        → reading r ≡ asks_word t n width s
    unfolding asks_word word_fault
    get_tells (Ok w) h p q = rw (goes_on, eq-eqb width 8 (wide width h), known n (table t s) p) (ap (λ (k : ℕ). record { errno = 0; number = k }) q)
    get_tells (Err x) h p q =
        let k = unknown n (table t s) x p in rw (goes_on, eq-eqb width 8 (wide width h), k.0, k.1) refl

one_or_0 : (b : Bool) → from_bool b ≡ choose b 1 0
one_or_0 true = refl
one_or_0 false = refl

-- whether a source is deliverable
module _ (n : ℕ) (s : List ℕ) where
  pub ask_stops : (x : Errno) → number x ≡ guarded_xics (λ e. e) 0 s → record { errno = number x; number = 0 } ≡ asks_delivery n s
  unfolding asks_delivery
  ask_stops x h = stops untold _ s x h

  module _ (b : Begun s) where
    pub ask_unknown : (x : Errno) → number x ≡ number_fault n (table source s) → record { errno = number x; number = 0 } ≡ asks_delivery n s
    unfolding asks_delivery
    ask_unknown x h = let k = unknown n (table source s) x h in rw (goes_on, k.0, k.1) refl

    module _ (w d : ℕ) (p : 0 ≡ number_fault n (table source s)) (e : w ≡ word_of n (table source s)) (f : d ≡ destination w) where
      pub ask_lost : (x : Errno) → number x ≡ number_fault d (table server s) → ⊥
      ask_lost x h =
          let k = unknown d (table server s) x h in
          let r = destination_known s n b.sound (known n (table source s) p) in
          clash (ap (λ (j : ℕ). registered j (table server s)) (f ∙ ap destination e) ∙ r) k.0

      pub ask_tells : (v : ℕ) (y : Bool) (k : ℕ) → v ≡ word_of d (table server s) → y ≡ delivers w v → k ≡ from_bool y
          → record { errno = 0; number = k } ≡ asks_delivery n s
      unfolding asks_delivery delivery
      ask_tells v y k g h j =
          let q : v ≡ word_of (destination (word_of n (table source s))) (table server s) = g ∙ ap (λ (j : ℕ). word_of j (table server s)) (f ∙ ap destination e) in
          rw (goes_on, known n (table source s) p) (ap (λ (z : ℕ). record { errno = 0; number = z }) (j ∙ one_or_0 y ∙ ap (λ (z : Bool). choose z 1 0) (h ∙ ap₂ delivers e q)))

-- the row that is found
module _ (n i : ℕ) (l : List Row) (h : Some i ≡ row_with n l) where
  pub found_in : i < length l
  found_in = let p = found_at n i l h in let q = registered_is n l p.0 in omega arith

  pub found_word : (get_or l i no_row).word ≡ word_of n l
  unfolding word_of
  found_word = ap (λ (k : ℕ). (get_or l k no_row).word) (found_at n i l h).1

-- the refusals of a word that is set, and that none applies
module _ (n width : ℕ) (rows : List Row) (taken : Bool) where
  abbrev pub set_fault : ℕ
  set_fault = choose (not (eqb width 8)) 14 (choose (not (registered n rows)) 2 (choose (not taken) 22 0))

  pub set_narrow : (x : Errno) → number x ≡ width_fault width → number x ≡ set_fault
  set_narrow x h = let k = not_wide width x h in rw k.0 k.1

  module _ (w : 0 ≡ width_fault width) where
    pub set_unknown : (x : Errno) → number x ≡ number_fault n rows → number x ≡ set_fault
    set_unknown x h = let k = unknown n rows x h in rw (eq-eqb width 8 (wide width w), k.0) k.1

    pub set_others : (i : ℕ) → Some i ≡ row_with n rows → choose (not taken) 22 0 ≡ set_fault
    set_others i h = rw (eq-eqb width 8 (wide width w), (found_at n i rows h).0) refl

-- what the proofs of the functions read: of one that registers, of one that sets a word, of the two questions
pub ruleset registering = (refused_by, is_done)

pub ruleset setting = (refused_by, is_done, set_narrow, set_unknown, set_others, found_in)

pub ruleset getting = (begun, get_stops, get_narrow, get_tells)

pub ruleset asking = (begun, ask_stops, ask_unknown)
