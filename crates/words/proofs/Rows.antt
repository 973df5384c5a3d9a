-- Tables of rows of z bytes: the loops that load and store them, and the way back.
use Prim.Native.Nat.{ℕ, zero, suc, ◌+◌, ◌*◌, ◌≤◌, ◌<◌}
use native.Mathlib.Nat.{suc-mul, add_comm, le_of_suc-le-suc, not-suc-le-zero, zero-mul, mul-le-mul_right}
use native.Mathlib.Numerals.{add-one}
use native.Mathlib.Omega.{arith}
use mathlib.Core.Path.{◌≡◌, refl, sym, ap, ◌∙◌}
use mathlib.Core.List.{List, [], ◌∷◌, ◌++◌, append_assoc, append-nil}
use lib.ListN.{length, get_or, set, take, drop, length-append, length-set}
use lib.Seq.{drop-drop, take-suc, take_at, drop_at, ext_get_or, get_or-take, get_or-set_same, get_or-set_other, length-take-le}
use Rattle.lists.proofs.All.{All, none, more}
use borrow.Author.Count.{below_more}
use Rattle.words.specs.Words.{put_at, rows_of, bytes_all, bytes_of}
use Rattle.words.proofs.Laws.{put_next, put_at-none, length-bytes_of}

module _ {A : Type 0} where
  pub length-rows_of : (p : List ℕ → A) (z n : ℕ) (s : List ℕ) → length (rows_of p z n s) ≡ n
  unfolding rows_of
  length-rows_of p z zero s = refl
  length-rows_of p z (suc n) s = ap suc (length-rows_of p z n (drop z s))

  pub get_d-rows_of : (p : List ℕ → A) (z n : ℕ) (s : List ℕ) (k : ℕ) (d : A) → k < n → get_or (rows_of p z n s) k d ≡ p (take z (drop (k * z) s))
  unfolding rows_of
  get_d-rows_of p z zero s k d h = absurd (not-suc-le-zero h)
  get_d-rows_of p z (suc n) s zero d h = ap (λ (k : ℕ). p (take z (drop k s))) (sym (zero-mul z))
  get_d-rows_of p z (suc n) s (suc k) d h =
      get_d-rows_of p z n (drop z s) k d (le_of_suc-le-suc h)
      ∙ ap (λ (t : List ℕ). p (take z t)) (drop-drop (k * z) z s ∙ ap (λ (m : ℕ). drop m s) (add_comm z (k * z) ∙ sym (suc-mul k z)))

  -- a loop that fills the first n rows of an array of cap rows: those below i are in place
  pub record Loading (p : List ℕ → A) (z n cap : ℕ) (s : List ℕ) (d : A) (a : List A) (i : ℕ) : Type 0 where
    pub long : length a ≡ cap
    pub upto : i ≤ n
    pub rows : (k : ℕ) → k < i → get_or a k d ≡ p (take z (drop (k * z) s))

  module _ (p : List ℕ → A) (z n cap : ℕ) (s : List ℕ) (d : A) (fits : n ≤ cap) where
    pub load_start : (a : List A) → length a ≡ cap → Loading p z n cap s d a 0
    load_start a l = record { long = l; upto = omega arith; rows = λ k h. absurd (not-suc-le-zero h) }

    pub load_turn : (a : List A) (i : ℕ) (x : A) → i < n → x ≡ p (take z (drop (i * z) s)) → Loading p z n cap s d a i
        → Loading p z n cap s d (set a i x) (i + 1)
    load_turn a i x h e v =
        let l = v.long in
        record {
          long = length-set a i x ∙ l;
          upto = omega arith;
          rows =
              below_more (λ (k : ℕ). get_or (set a i x) k d ≡ p (take z (drop (k * z) s))) i
              (λ k g. get_or-set_other a i k x d (λ q. omega arith) ∙ v.rows k g)
              (get_or-set_same a i x d (omega arith) ∙ e);
        }

    pub load_end : (a : List A) (i : ℕ) → n ≤ i → Loading p z n cap s d a i → take n a ≡ rows_of p z n s
    load_end a i h v =
        let l = v.long in
        let t : length (take n a) ≡ n = length-take-le n a (omega arith) in
        ext_get_or d (take n a) (rows_of p z n s) (t ∙ sym (length-rows_of p z n s))
        (λ k g. let b : k < n = omega arith in get_or-take n a k d b ∙ v.rows k (omega arith) ∙ sym (get_d-rows_of p z n s k d b))

  pub bytes_all-append : (b : A → List ℕ) (xs ys : List A) → bytes_all b (xs ++ ys) ≡ bytes_all b xs ++ bytes_all b ys
  unfolding bytes_all
  bytes_all-append b [] ys = refl
  bytes_all-append b (x ∷ xs) ys = ap (λ (r : List ℕ). b x ++ r) (bytes_all-append b xs ys) ∙ sym (append_assoc (b x) (bytes_all b xs) (bytes_all b ys))

  module _ (b : A → List ℕ) (z : ℕ) (sized : (x : A) → length (b x) ≡ z) where
    pub length-bytes_all : (l : List A) → length (bytes_all b l) ≡ length l * z
    unfolding bytes_all
    length-bytes_all [] = sym (zero-mul z)
    length-bytes_all (x ∷ xs) = rw (length-append, sized x, length-bytes_all xs, suc-mul) (add_comm z (length xs * z))

    -- a loop that stores the first n rows of a from index at: those below i are in place
    pub record Storing (n : ℕ) (s₀ : List ℕ) (at : ℕ) (a : List A) (s : List ℕ) (i : ℕ) : Type 0 where
      pub upto : i ≤ n
      pub long : n ≤ length a
      pub same : length s ≡ length s₀
      pub rows : s ≡ put_at s₀ at (bytes_all b (take i a))

    module _ (n : ℕ) (s₀ : List ℕ) (at : ℕ) (a : List A) (d : A) (fits : at + n * z ≤ length s₀) where
      pub store_start : n ≤ length a → Storing n s₀ at a s₀ 0
      unfolding bytes_all
      store_start l = record { upto = omega arith; long = l; same = refl; rows = sym (put_at-none s₀ at) }

      pub store_turn : (s t : List ℕ) (i : ℕ) → i < n → length t ≡ length s → t ≡ put_at s (at + i * z) (b (get_or a i d)) → Storing n s₀ at a s i → Storing n s₀ at a t (i + 1)
      unfolding bytes_all
      store_turn s t i h q e v =
          let l = v.long in
          let e₀ = v.same in
          let r : suc i * z ≤ n * z = mul-le-mul_right z h in
          let r' : i * z + z ≤ n * z = rw suc-mul at r in
          let m : length (take i a) ≡ i = length-take-le i a (omega arith) in
          let k : length (bytes_all b (take i a)) ≡ i * z = rw m at (length-bytes_all (take i a)) in
          record {
            upto = omega arith;
            long = l;
            same = q ∙ e₀;
            rows =
                put_next s₀ s t at (i * z) (bytes_all b (take i a)) (b (get_or a i d)) k (omega arith) v.rows e
                ∙ ap (put_at s₀ at)
                (ap (λ (x : List ℕ). bytes_all b (take i a) ++ x) (sym (append-nil (b (get_or a i d))))
                ∙ sym (bytes_all-append b (take i a) (get_or a i d ∷ []))
                ∙ ap (bytes_all b) (sym (take-suc a i d (omega arith)) ∙ ap (λ (x : ℕ). take x a) (sym (add-one i))));
          }

      pub store_end : (s : List ℕ) (i : ℕ) → n ≤ i → Storing n s₀ at a s i → s ≡ put_at s₀ at (bytes_all b (take n a))
      store_end s i h v = let u = v.upto in let e : i ≡ n = omega arith in v.rows ∙ ap (λ (k : ℕ). put_at s₀ at (bytes_all b (take k a))) e

    -- rows that are stored and loaded are the same rows
    pub rows_back : (p : List ℕ → A) (Good : A → Type 0) → ((x : A) → Good x → p (b x) ≡ x)
        → (l : List A) (t : List ℕ) → All Good l → rows_of p z (length l) (bytes_all b l ++ t) ≡ l
    unfolding bytes_all rows_of
    rows_back p Good back [] t none = refl
    rows_back p Good back (x ∷ xs) t (more g gs) =
        rw (append_assoc (b x) (bytes_all b xs) t)
        (ap (λ (y : A). y ∷ rows_of p z (length xs) (drop z (b x ++ (bytes_all b xs ++ t))))
        (ap p (take_at (b x) (bytes_all b xs ++ t) z (sized x)) ∙ back x g)
        ∙ ap (λ (r : List A). x ∷ r)
        (ap (rows_of p z (length xs)) (drop_at (b x) (bytes_all b xs ++ t) z (sized x)) ∙ rows_back p Good back xs t gs))

-- runs of numbers of n bytes, stored one after the other
pub run_one : (n : ℕ) (s u : List ℕ) (at v : ℕ) → u ≡ put_at s at (bytes_of n v) → u ≡ put_at s at (bytes_all (bytes_of n) (v ∷ []))
unfolding bytes_all
run_one n s u at v p = p ∙ ap (put_at s at) (sym (append-nil (bytes_of n v)))

pub run_more : (n : ℕ) (s t u : List ℕ) (at k : ℕ) (ws vs : List ℕ) → length ws * n ≡ k → at + k ≤ length s
    → t ≡ put_at s at (bytes_all (bytes_of n) ws) → u ≡ put_at t (at + k) (bytes_all (bytes_of n) vs)
    → u ≡ put_at s at (bytes_all (bytes_of n) (ws ++ vs))
run_more n s t u at k ws vs l h p q =
    put_next s t u at k _ _ (length-bytes_all (bytes_of n) n (length-bytes_of n) ws ∙ l) h p q
    ∙ ap (put_at s at) (sym (bytes_all-append (bytes_of n) ws vs))
