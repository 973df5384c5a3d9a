-- What the questions answer: 0 or an errno of §2.2, and of a good machine a number that fits.
use Prim.Native.Nat.{ℕ, ◌+◌, ◌-◌, ◌*◌, ◌/◌, ◌%◌, ◌≤◌, ◌<◌, ◌^◌}
use native.Mathlib.Omega.{arith}
use mathlib.Core.Path.{◌≡◌, refl}
use mathlib.Core.Bool.{true}
use mathlib.Core.List.{List, [], ◌∷◌}
use lib.ListN.{length, get_or}
use lib.Dec.{ltb, leb, eqb, lit<}
use lib.Pow.{shr_lt}
use borrow.Author.Tests.{leb-true, ltb-true}
use Rattle.lists.specs.Rows.{choose}
use Rattle.lists.proofs.All.{All, none, more, all_at, from_all}
use Rattle.fields.specs.Field.{put_field}
use Rattle.fields.proofs.Laws.{get_lt, put_grows}
use Rattle.areas.specs.Area.{ends_by}
use Rattle.guest.specs.declared.Frame.{Frame}
use Rattle.guest.specs.declared.Region.{Region}
use Rattle.guest.specs.Machine.{Reading}
use Rattle.guest.specs.Machine.{Machine, initialised, is_set}
use Rattle.rules.specs.Standing.{run_size, redistributor_size}
use Rattle.rules.specs.Rules.{limit_of, irqs_ok, frame_ok, region_ok}
use Rattle.frames.specs.Vcpus.{get_irqs}
use Rattle.frames.specs.Bases.{word_index, region_word, base_of, get_single, get_region, get_group0, get_its_group0}
use Rattle.frames.specs.Init.{locate, redistributor_of, redist_base}
use Rattle.kept.specs.Good.{Good, listed}
use Rattle.kept.proofs.Choice.{chosen, choose_by, and_left, and_right}
use Rattle.kept.proofs.Parts.{parts, limit_le, places}

-- an errno of §2.2, and a number below a bound if the machine is good
record Told (m : Machine) (bound : ℕ) (r : Reading) : Type 0 where
  listed : listed r.errno ≡ true
  small : Good m → r.number < bound

-- a refusal's number is 0
module _ (m : Machine) {bound : ℕ} (some : 0 < bound) where
  none_told : {e : ℕ} → listed e ≡ true → Told m bound (record { errno = e; number = 0 })
  none_told l = record { listed = l; small = λ _. some }

  base_told : (f : Frame) → (Good m → f.base < bound) → Told m bound (base_of f)
  unfolding listed
  base_told f s = chosen (Told m bound) (is_set f) (record { listed = refl; small = s }) (none_told refl)

module _ (m : Machine) where
  get_irqs-told : (attribute width : ℕ) → Told m (2 ^ 32) (get_irqs attribute width m)
  unfolding get_irqs listed irqs_ok
  get_irqs-told attribute width =
      chosen (Told m (2 ^ 32)) (eqb attribute 0)
      (chosen (Told m (2 ^ 32)) (eqb width 4) (record { listed = refl; small = small }) (none_told m (lit< tt) refl))
      (none_told m (lit< tt) refl)
    where
      small : Good m → m.control.irqs < 2 ^ 32
      small h =
          let n = m.control.irqs in
          let e = and_right (leb 64 n) _ (parts m h).control.irqs in
          omega (arith, leb-true n 1024 (and_left (leb n 1024) _ e), lit< {m = 1024} {n = 2 ^ 32} tt)

  get_its_group0-told : (attribute width : ℕ) → Told m (2 ^ 64) (get_its_group0 attribute width m)
  unfolding get_its_group0 listed
  get_its_group0-told attribute width =
      chosen (Told m (2 ^ 64)) (eqb attribute 4)
      (chosen (Told m (2 ^ 64)) (eqb width 8) (base_told m (lit< tt) m.frames.its (λ h. h.words.frames.its.base)) (none_told m (lit< tt) refl))
      (none_told m (lit< tt) refl)

-- a region's numbers, from its rule
record Measured (limit : ℕ) (r : Region) : Type 0 where
  some : 1 ≤ r.count
  few : r.count < 4096
  ends : r.base + redistributor_size * r.count ≤ limit

measured : (limit : ℕ) (r : Region) → region_ok limit r ≡ true → Measured limit r
unfolding region_ok ends_by
measured limit r e =
    let e₂ = and_right (eqb (r.base % 65536) 0) _ e in
    let e₃ = and_right (leb 1 r.count) _ e₂ in
    record {
      some = leb-true _ _ (and_left _ _ e₂);
      few = ltb-true _ _ (and_left _ _ e₃);
      ends = leb-true _ _ (and_right (ltb r.count 4096) _ e₃);
    }

word_lt : (index : ℕ) (r : Region) → index < 2 ^ 12 → r.base < 2 ^ 52 → r.count < 4096 → region_word index r < 2 ^ 64
unfolding region_word
word_lt index r i b c =
    let w : put_field 0 0 12 index < 2 ^ 12 = put_grows 0 0 12 index (lit< tt) i in
    let w' : put_field 0 0 12 index < 2 ^ 16 = omega arith in
    put_grows _ 52 12 r.count (put_grows _ 16 36 (r.base / 65536) w' (shr_lt 36 16 b)) c

-- a redistributor's frame starts below the limit
locate_le : (limit : ℕ) (rs : List Region) (k : ℕ) → All (λ r. region_ok limit r ≡ true) rs → locate rs k ≤ limit
unfolding locate
locate_le limit [] k none = omega arith
locate_le limit (r ∷ rs) k (more e es) =
    choose_by (λ (n : ℕ). n ≤ limit) (ltb k r.count)
    (λ q. let a = ltb-true k r.count q in let b = (measured limit r e).ends in omega arith)
    (λ _. locate_le limit rs (k - r.count) es)

frame_ends : (limit size : ℕ) (f : Frame) → frame_ok limit size f ≡ true → is_set f ≡ true → f.base + size ≤ limit
unfolding frame_ok ends_by
frame_ends limit size f e s = leb-true _ _ (and_right (eqb (f.base % 65536) 0) _ (rw s at e))

module _ (m : Machine) where
  limit_small : Good m → limit_of m ≤ 2 ^ 52
  limit_small h = limit_le m.memory (parts m h).memory

  word_small : (w : ℕ) → word_index w < length m.regions → Good m → region_word (word_index w) (get_or m.regions (word_index w) (record { base = 0; count = 0 })) < 2 ^ 64
  word_small w l h =
      let q = places m (parts m h).frames in
      let r = get_or m.regions (word_index w) (record { base = 0; count = 0 }) in
      let k = measured (limit_of m) r (all_at m.regions (word_index w) _ (from_all (region_ok (limit_of m)) m.regions q.regions) l) in
      word_lt (word_index w) r (get_lt w 0 12) (omega (arith, k.some, k.ends, limit_small h)) k.few

  get_group0-told : (attribute width value : ℕ) → Told m (2 ^ 64) (get_group0 attribute width value m)
  unfolding get_group0 get_single get_region listed
  get_group0-told attribute width value =
      chosen T (eqb attribute 2) (wide (base_told m (lit< tt) m.frames.distributor (λ h. h.words.frames.distributor.base)))
      (chosen T (eqb attribute 3)
      (wide (chosen T (eqb (length m.regions) 0) (base_told m (lit< tt) m.frames.single (λ h. h.words.frames.single.base)) (no refl)))
      (chosen T (eqb attribute 5)
      (wide (chosen T (is_set m.frames.single) (no refl)
      (choose_by T (ltb (word_index value) (length m.regions))
      (λ q. record { listed = refl; small = word_small value (ltb-true _ _ q) }) (λ _. no refl))))
      (no refl)))
    where
      T : Reading → Type 0
      T = Told m (2 ^ 64)

      no : {e : ℕ} → listed e ≡ true → T (record { errno = e; number = 0 })
      no = none_told m (lit< tt)

      wide : {r : Reading} → T r → T (choose (eqb width 8) r (record { errno = 14; number = 0 }))
      wide t = chosen T (eqb width 8) t (no refl)

  place_small : (k : ℕ) → initialised m ≡ true → k < length m.vcpus → Good m → redistributor_of k m < 2 ^ 63
  place_small k i l h =
      let q = places m (parts m h).frames in
      let top = limit_small h in
      choose_by (λ (n : ℕ). n < 2 ^ 63) (is_set m.frames.single)
      (λ s. let e = frame_ends (limit_of m) (run_size m) m.frames.single q.single s in omega (arith, rw i at e))
      (λ _. omega (arith, locate_le (limit_of m) m.regions k (from_all (region_ok (limit_of m)) m.regions q.regions)))

  redist_base-told : (k : ℕ) → Told m (2 ^ 63) (redist_base k m)
  unfolding redist_base listed
  redist_base-told k =
      choose_by (Told m (2 ^ 63)) (initialised m)
      (λ i. choose_by (Told m (2 ^ 63)) (ltb k (length m.vcpus))
      (λ l. record { listed = refl; small = place_small k i (ltb-true _ _ l) }) (λ _. none_told m (lit< tt) refl))
      (λ _. none_told m (lit< tt) refl)

pub get_irqs-listed : (attribute width : ℕ) (m : Machine) → listed (get_irqs attribute width m).errno ≡ true
get_irqs-listed attribute width m = (get_irqs-told m attribute width).listed

pub get_group0-listed : (attribute width value : ℕ) (m : Machine) → listed (get_group0 attribute width value m).errno ≡ true
get_group0-listed attribute width value m = (get_group0-told m attribute width value).listed

pub get_its_group0-listed : (attribute width : ℕ) (m : Machine) → listed (get_its_group0 attribute width m).errno ≡ true
get_its_group0-listed attribute width m = (get_its_group0-told m attribute width).listed

pub redist_base-listed : (k : ℕ) (m : Machine) → listed (redist_base k m).errno ≡ true
redist_base-listed k m = (redist_base-told m k).listed

pub redist_base-small : (k : ℕ) (m : Machine) → Good m → (redist_base k m).number < 2 ^ 63
redist_base-small k m = (redist_base-told m k).small
