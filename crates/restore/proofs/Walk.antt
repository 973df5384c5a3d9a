-- The loop of every walk along the chained entries of a table: what is left of the path has the answer. Assumes nothing.
use Prim.Native.Nat.{ℕ, zero, suc, ◌+◌, ◌-◌, ◌/◌, ◌≤◌, ◌<◌}
use native.Mathlib.Omega.{arith}
use mathlib.Core.Path.{◌≡◌, refl, sym, ap, ◌∙◌}
use mathlib.Core.Bool.{Bool, true, false}
use mathlib.Core.List.{List}
use lib.ListN.{length}
use Rattle.std.specs.Prelude.{Result, Ok, Err, ⊤}
use borrow.Author.Tests.{lt-ltb, le-ltb}
use Rattle.chains.specs.declared.Next.{Next}
use Rattle.chains.specs.declared.Next.TheVariants.{Last, At, Bad}
use Rattle.chains.specs.Slots.{Slots, Path, onward, path, first_from, following, Link}
use Rattle.chains.proofs.Way.{led}
use Rattle.guest.specs.Machine.{Machine}
use Rattle.mapping.specs.Mapped.{Mapped}
use Rattle.layout.specs.Layout.{decode}
use Rattle.tables.specs.Restored.{Out, found, and_then, run, walk}
use Rattle.codes.specs.declared.Fault as faults
use Rattle.restore.specs.Both.{slots_of}
use Rattle.restore.proofs.Both.{cap_pos, next_small}
use Rattle.restore.specs.Begun.{Over, Begun, ByFault, Steps}
use Rattle.restore.proofs.Over.{same_guest}
use Rattle.restore.proofs.Answers.{gives_found, gives_as, stopped, went}

unfolds : (T : Slots) (fuel i : ℕ) → i < T.size → T.size ≤ i + fuel → (n : Next) → n ≡ following T i → path T fuel i ≡ onward i (path T (fuel - 1)) n
unfolding path
unfolds T zero i h f n e = absurd (omega arith)
unfolds T (suc fuel) i h f n e =
    let x : suc fuel - 1 ≡ fuel = omega arith in
    rw (← e, x)

module _ (device : Bool) (t : List ℕ) (visit : Bool → ℕ → Mapped → Out) (answer : Out) where
  pub record Going (i : ℕ) (k : Mapped) : Type 0 where
    pub fuel : ℕ
    pub inside : i < length t / 8
    pub enough : length t / 8 ≤ i + fuel
    pub rest : run visit (path (slots_of device t) fuel i) k ≡ answer

  module _ (k : Mapped) (e : walk (slots_of device t) visit k ≡ answer) (i : ℕ) (f : i ≡ first_from (slots_of device t) 0) where
    go_start : i < length t / 8 → Going i k
    unfolding walk slots_of
    go_start h = record {
      fuel = length t / 8;
      inside = h;
      enough = omega arith;
      rest = rw (← f, lt-ltb i (length t / 8) h) at e;
    }

    go_none : length t / 8 ≤ i → found k ≡ answer
    unfolding walk slots_of
    go_none h = rw (← f, le-ltb i (length t / 8) h) at e

  module _ (i : ℕ) (k : Mapped) (g : Going i k) (n : Next) (e : n ≡ following (slots_of device t) i) where
    after : run visit (onward i (path (slots_of device t) (g.fuel - 1)) n) k ≡ answer
    unfolding slots_of
    after = ap (λ (p : Path). run visit p k) (sym (unfolds (slots_of device t) g.fuel i g.inside g.enough n e)) ∙ g.rest

    go_bad : n ≡ Bad → visit false i k ≡ answer
    unfolding run
    go_bad x = rw x at after

    go_last : n ≡ Last → visit true i k ≡ answer
    unfolding run
    go_last x = rw x at after

    module _ (j : ℕ) (x : n ≡ At j) where
      link : Link (slots_of device t) i j
      link = led (slots_of device t) (cap_pos device t) i j (next_small device t i) (sym e ∙ x)

      go_next : and_then (visit true i k) (run visit (path (slots_of device t) (g.fuel - 1) j)) ≡ answer
      unfolding run
      go_next = rw x at after

      go_less : length t / 8 - j < length t / 8 - i
      go_less = let u = link.rises in let h = g.inside in omega arith

      go_on : (to : Mapped) → and_then (visit true i k) (run visit (path (slots_of device t) (g.fuel - 1) j)) ≡ run visit (path (slots_of device t) (g.fuel - 1) j) to → Going j to
      unfolding slots_of
      go_on to w =
          let u = link.rises in
          let f = g.enough in
          let h = g.inside in
          record { fuel = g.fuel - 1; inside = link.inside; enough = omega arith; rest = sym w ∙ go_next }

-- the bytes at each turn, from s₀ at the start: they hold the mapping that was read so far, and what is left of the path has the answer
module _ (device : Bool) (t : List ℕ) (visit : Machine → Bool → ℕ → Mapped → Out) (whole : Machine → Mapped → Out) where
  pub record Reached (z : List ℕ) (answer : Out) (i : ℕ) (s : List ℕ) : Type 0 where
    pub rows : Mapped
    pub over : Over z rows s
    pub going : Going device t (visit (decode z)) answer i rows

  abbrev pub Walks : List ℕ → ℕ → List ℕ → Type 0
  Walks s₀ i s = (z : List ℕ) (k : Mapped) → Over z k s₀ → Reached z (whole (decode z) k) i s

  module _ (e : (m : Machine) (k : Mapped) → walk (slots_of device t) (visit m) k ≡ whole m k) (s₀ : List ℕ) (i : ℕ) (f : i ≡ first_from (slots_of device t) 0) where
    pub walk_start : i < length t / 8 → Walks s₀ i s₀
    walk_start h z k o = record { rows = k; over = o; going = go_start device t (visit (decode z)) _ k (e (decode z) k) i f h }

    pub walk_none : length t / 8 ≤ i → Steps ByFault whole s₀ (Ok tt) s₀
    walk_none h z k o = gives_found k o (go_none device t (visit (decode z)) _ k (e (decode z) k) i f h)

  module _ (s₀ : List ℕ) (i : ℕ) (s : List ℕ) (w : Walks s₀ i s) where
    pub walk_begun : Begun s₀ → Begun s
    walk_begun b = let r = w b.from b.rows b.over in record { from = b.from; rows = r.rows; over = r.over }

    -- the guest is the same, whatever was read
    pub walk_same : Begun s₀ → (P : Machine → Type 0) → P (decode s₀) → P (decode s)
    walk_same b P p =
        let r = w b.from b.rows b.over in
        let e : decode s₀ ≡ decode s = same_guest b.over ∙ sym (same_guest r.over) in
        rw e at p

    pub walk_inside : Begun s₀ → i < length t / 8
    walk_inside b = (w b.from b.rows b.over).going.inside

    module _ (n : Next) (e : n ≡ following (slots_of device t) i) where
      pub walk_bad : (r : Result ⊤ faults.Fault) (u : List ℕ) → Steps ByFault (λ m. visit m false i) s r u → n ≡ Bad → Steps ByFault whole s₀ r u
      walk_bad r u v x z k o =
          let a = w z k o in
          gives_as (v z a.rows a.over) (go_bad device t (visit (decode z)) _ i _ a.going n e x)

      pub walk_last : (r : Result ⊤ faults.Fault) (u : List ℕ) → Steps ByFault (λ m. visit m true i) s r u → n ≡ Last → Steps ByFault whole s₀ r u
      walk_last r u v x z k o =
          let a = w z k o in
          gives_as (v z a.rows a.over) (go_last device t (visit (decode z)) _ i _ a.going n e x)

      module _ (u : List ℕ) (j : ℕ) (x : n ≡ At j) where
        pub walk_fault : (f : faults.Fault) → Steps ByFault (λ m. visit m true i) s (Err f) u → Steps ByFault whole s₀ (Err f) u
        walk_fault f v z k o =
            let a = w z k o in
            gives_as (stopped (v z a.rows a.over) f refl _) (go_next device t (visit (decode z)) _ i _ a.going n e j x)

        pub walk_on : Steps ByFault (λ m. visit m true i) s (Ok tt) u → Walks s₀ j u
        walk_on v z k o =
            let a = w z k o in
            let b = v z a.rows a.over in
            record {
              rows = (b.reads refl).0;
              over = (b.reads refl).2;
              going = go_on device t (visit (decode z)) _ i _ a.going n e j x (b.reads refl).0 (went b refl _);
            }

      pub walk_less : Begun s₀ → (j : ℕ) → n ≡ At j → length t / 8 - j < length t / 8 - i
      walk_less b j x = go_less device t (visit (decode b.from)) _ i _ (w b.from b.rows b.over).going n e j x
