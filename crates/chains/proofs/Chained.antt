-- A path that ends well is a chain of links, and the other way round. Assumes nothing.
use mathlib.Core.Path.{◌≡◌, refl, sym, ap, ◌∙◌}
use mathlib.Core.List.{List, [], ◌∷◌}
use Prim.Native.Nat.{ℕ, zero, suc, ◌+◌, ◌≤◌, ◌<◌}
use native.Mathlib.Omega.{arith}
use Rattle.chains.specs.declared.Next.{Next}
use Rattle.chains.specs.declared.Next.TheVariants.{Last, At, Bad}
use Rattle.chains.specs.Slots.{Slots, capped, following, Path, final, broken, onto, onward, path, whole, Links}
use Rattle.chains.proofs.Way.{leads, led, ends, ended}

abbrev head : Path → ℕ
head (final i) = i
head (broken i) = i
head (onto i p) = i

head_whole : (i : ℕ) (js : List ℕ) → head (whole i js) ≡ i
head_whole i [] = refl
head_whole i (j ∷ js) = refl

head_onward : (i : ℕ) (rest : ℕ → Path) (n : Next) → head (onward i rest n) ≡ i
head_onward i rest Last = refl
head_onward i rest Bad = refl
head_onward i rest (At j) = refl

head_path : (T : Slots) (fuel i : ℕ) → head (path T fuel i) ≡ i
unfolding path
head_path T zero i = refl
head_path T (suc fuel) i = head_onward i (path T fuel) (following T i)

whole_same : (i i' : ℕ) (js ks : List ℕ) → whole i js ≡ whole i' ks → (i ≡ i') × (js ≡ ks)
whole_same i i' [] [] e = (cc, refl)
whole_same i i' [] (k ∷ ks) e = let z : ◌≡◌ {A = ℕ} 0 1 = cc in absurd (omega arith)
whole_same i i' (j ∷ js) [] e = let z : ◌≡◌ {A = ℕ} 0 1 = cc in absurd (omega arith)
whole_same i i' (j ∷ js) (k ∷ ks) e =
    let q : whole j js ≡ whole k ks = cc in
    let r = whole_same j k js ks q in
    let r0 = r.0 in
    let r1 = r.1 in
    (cc, cc)

module _ (T : Slots) (pos : 0 < capped T.cap 1) where
  -- the links give the path
  pub path_is : (js : List ℕ) (fuel i : ℕ) → i < T.size → T.size ≤ i + fuel → Links T i js → path T fuel i ≡ whole i js
  unfolding path
  path_is js zero i h f l = absurd (omega arith)
  path_is [] (suc fuel) i h f l = rw (ended T pos i l)
  path_is (j ∷ js) (suc fuel) i h f l =
      rw (leads T pos i j l.0) (ap (onto i) (path_is js fuel j l.0.inside (omega (arith, l.0.rises)) l.1))

  -- the path gives the links
  module _ (small : (i : ℕ) → capped T.cap (T.next i) ≡ T.next i) where
    step_case : (fuel i : ℕ) (js : List ℕ) → ((j : ℕ) (ks : List ℕ) → path T fuel j ≡ whole j ks → Links T j ks)
        → (n : Next) → following T i ≡ n → onward i (path T fuel) n ≡ whole i js → Links T i js
    step_case fuel i [] ih Last e p = ends T pos i e
    step_case fuel i (j ∷ js) ih Last e p = let z : ◌≡◌ {A = ℕ} 0 1 = cc in absurd (omega arith)
    step_case fuel i [] ih Bad e p = let z : ◌≡◌ {A = ℕ} 0 1 = cc in absurd (omega arith)
    step_case fuel i (j ∷ js) ih Bad e p = let z : ◌≡◌ {A = ℕ} 0 1 = cc in absurd (omega arith)
    step_case fuel i [] ih (At k) e p = let z : ◌≡◌ {A = ℕ} 0 1 = cc in absurd (omega arith)
    step_case fuel i (j ∷ js) ih (At k) e p =
        let q : path T fuel k ≡ whole j js = cc in
        let x : k ≡ j = sym (head_path T fuel k) ∙ ap head q ∙ head_whole j js in
        let e' : following T i ≡ At j = e ∙ ap At x in
        (led T pos i j (small i) e', ih j js (rw x at q))

    pub path_says : (fuel i : ℕ) (js : List ℕ) → path T fuel i ≡ whole i js → Links T i js
    unfolding path
    path_says zero i [] p = let z : ◌≡◌ {A = ℕ} 0 1 = cc in absurd (omega arith)
    path_says zero i (j ∷ js) p = let z : ◌≡◌ {A = ℕ} 0 1 = cc in absurd (omega arith)
    path_says (suc fuel) i js p = step_case fuel i js (λ j ks q. path_says fuel j ks q) (following T i) refl p

  -- at most one list of IDs is chained from a slot
  pub links_unique : (i : ℕ) (js ks : List ℕ) → i < T.size → Links T i js → Links T i ks → js ≡ ks
  links_unique i js ks h l m =
      (whole_same i i js ks (sym (path_is js T.size i h (omega arith) l) ∙ path_is ks T.size i h (omega arith) m)).1
