-- What a caller may conclude from the three demands, in plain numbers and bytes. Each part of a statement is used here, so that a statement
-- that says less does not give these. Assumes nothing.
use Prim.Native.Nat.{ℕ, zero, suc, ◌+◌, ◌*◌, ◌^◌, ◌<◌}
use mathlib.Core.Path.{◌≡◌, refl, sym, ap, ◌∙◌}
use mathlib.Core.Bool.{Bool, true, false, ◌||◌}
use mathlib.Core.Logic.{◌⊎◌, inl, inr, ⊎_elim}
use mathlib.Core.List.{List, [], ◌∷◌}
use lib.IntN.{ℤ, pos, negsuc}
use lib.ListN.{length, get_or}
use lib.Dec.{eqb}
use borrow.Author.Tests.{eqb-true}
use Rattle.lists.proofs.All.{All, none, more}
use Rattle.words.proofs.Bytes.{Bytes}
use Rattle.answers.specs.Errno.{listed}
use Rattle.answers.specs.Answer.{refusal}
use Rattle.mapping.specs.declared.Device.{Device}
use Rattle.mapping.specs.Mapped.{Mapped}
use Rattle.mapping.specs.Commands.{device_entries}
use Rattle.layout.specs.Layout.{decode}
use Rattle.maplayout.specs.MapLayout.{decode_map}
use Rattle.tables.specs.Bytes.{device_table, collection_table, itt_table}
use Rattle.tables.specs.Saved.{events_of, saved_device, saved_event, saved_collection, table_of, saved_memory}
use Rattle.described.specs.Described.{Described}
use Rattle.kept.proofs.Choice.{never}
use Rattle.state.specs.Sound.{Sound}
use Rattle.step.specs.Step.{Call, After, step, setup, its_lookup, its_save, its_restore}
use Rattle.claims.specs.Claims.{Answers, succeeds, refuses, Passed}
use Rattle.claims.specs.Demand2 as claim
use Rattle.claims.specs.Demand3.{Ready, Open, Turn, Given, run, SamePlaces, SavedStand}
use Rattle.claims.proofs.Demand1.{demand1}
use Rattle.claims.proofs.Demand2.{demand2}
use Rattle.claims.proofs.Demand3.{demand3}

abbrev negative : ℤ → Bool
negative (pos n) = false
negative (negsuc n) = true

-- demand 1: where the answer is negative, the state and the lent bytes are as they were
pub refusal_keeps : (c : Call) (s v : List ℕ) (n : ℕ) → (step c s v).answer ≡ negsuc n → ((step c s v).state ≡ s) × ((step c s v).lent ≡ v)
refusal_keeps c s v n h = by (step c s v) (demand1 c s v) h
  where
    by : (a : After) → Answers s v a → a.answer ≡ negsuc n → (a.state ≡ s) × (a.lent ≡ v)
    by a (succeeds m e) h = never (ap negative (sym e ∙ h))
    by a (refuses e l q t w) h = (t, w)

-- demand 1: the answer is 0 or more, or one of nine numbers
pub data Number (a : ℤ) : Type 0 where
  success : (n : ℕ) → a ≡ pos n → Number a
  two : a ≡ refusal 2 → Number a
  six : a ≡ refusal 6 → Number a
  seven : a ≡ refusal 7 → Number a
  twelve : a ≡ refusal 12 → Number a
  fourteen : a ≡ refusal 14 → Number a
  sixteen : a ≡ refusal 16 → Number a
  seventeen : a ≡ refusal 17 → Number a
  nineteen : a ≡ refusal 19 → Number a
  twentytwo : a ≡ refusal 22 → Number a

or_either : (a b : Bool) → (a || b) ≡ true → (a ≡ true) ⊎ (b ≡ true)
or_either true b h = inl refl
or_either false b h = inr h

-- the first of a list, or one of the rest
first : (e x : ℕ) (rest : Bool) {A : Type 0} → (e ≡ x → A) → (rest ≡ true → A) → (eqb e x || rest) ≡ true → A
first e x rest f g h = ⊎_elim (λ p. f (eqb-true e x p)) g (or_either (eqb e x) rest h)

number : (a : ℤ) (e : ℕ) → listed e ≡ true → a ≡ refusal e → Number a
unfolding listed
number a e h q =
    let is : (n : ℕ) → e ≡ n → a ≡ refusal n = λ n p. q ∙ ap refusal p in
    first e 2 _ (λ p. two (is 2 p))
    (first e 6 _ (λ p. six (is 6 p))
    (first e 7 _ (λ p. seven (is 7 p))
    (first e 12 _ (λ p. twelve (is 12 p))
    (first e 14 _ (λ p. fourteen (is 14 p))
    (first e 16 _ (λ p. sixteen (is 16 p))
    (first e 17 _ (λ p. seventeen (is 17 p))
    (first e 19 _ (λ p. nineteen (is 19 p))
    (first e 22 _ (λ p. twentytwo (is 22 p)) never))))))))
    h

pub no_other_number : (c : Call) (s v : List ℕ) → Number (step c s v).answer
no_other_number c s v = by (step c s v) (demand1 c s v)
  where
    by : (a : After) → Answers s v a → Number a.answer
    by a (succeeds n e) = success n e
    by a (refuses e l q t w) = number a.answer e l q

-- demand 2: after an accepted set-up of any bytes, every state that calls leave is sound
runs_sound : (turns : List Turn) → All Given turns → (t : List ℕ) → Sound t → Sound (run turns t)
runs_sound [] none t h = h
runs_sound (x ∷ xs) (more g gs) t h =
    runs_sound xs gs (step x.call t x.lent).state (demand2.stays x.call t x.lent g.passed g.bytes h)

pub set_up_sound : (width start len : ℕ) (s v : List ℕ) → Bytes s → (step (setup width start len) s v).answer ≡ pos 0
    → (turns : List Turn) → All Given turns → Sound (run turns (step (setup width start len) s v).state)
set_up_sound width start len s v b a turns g = runs_sound turns g _ (demand2.makes width start len s v b a)

-- demand 2: an accepted save leaves the state and, outside the saved areas, each byte; the saved memory's tables are the mapping's
module _ (s mem : List ℕ) (b : Bytes s) (a : (step its_save s mem).answer ≡ pos 0) where
  pub save_keeps : (i : ℕ) → i < length mem → claim.Outside s ((decode s).memory.start + i)
      → ((step its_save s mem).state ≡ s) × (length (step its_save s mem).lent ≡ length mem) × (get_or (step its_save s mem).lent i 0 ≡ get_or mem i 0)
  save_keeps i l o = let w = demand2.saves s mem b a in (w.state, w.size, w.outside i l o)

  pub save_tables : (device_table (decode s) (saved_memory (decode s) (decode_map s) mem)
      ≡ table_of (saved_device (decode_map s).devices) (device_entries (decode s)))
      × (collection_table (decode s) (saved_memory (decode s) (decode_map s) mem)
      ≡ table_of (saved_collection (decode_map s).collections) (512 * (decode s).tables.collections.pages))
      × All (λ (d : Device). itt_table (decode s) (saved_memory (decode s) (decode_map s) mem) d
      ≡ table_of (saved_event (events_of d.id (decode_map s).events)) (2 ^ d.bits)) (decode_map s).devices
  save_tables = let w = demand2.saves s mem b a in rw (← w.memory) (w.devices, w.collections, w.itts)

-- demand 2: an accepted restore changes no byte of memory, and of the guest nothing but the mapping
pub restore_keeps : (s mem : List ℕ) → Bytes s → (step its_restore s mem).answer ≡ pos 0
    → ((step its_restore s mem).lent ≡ mem) × (decode (step its_restore s mem).state ≡ decode s)
restore_keeps s mem b a = let w = demand2.restores s mem b a in (w.memory, w.guest)

-- demand 2: neither the answer nor the lent value of a question about a VCPU's own bank depends on calls on another's
pub banks_apart : (j k : ℕ) → (j ≡ k → ⊥) → (c q : Call) (s v w : List ℕ) → Sound s → Passed c → Bytes v → claim.Names k s c
    → claim.About j s q
    → ((step q (step c s v).state w).answer ≡ (step q s w).answer) × ((step q (step c s v).state w).lent ≡ (step q s w).lent)
banks_apart j k n c q s v w h p b x y = let a = demand2.apart j k n c q s v w h p b x y in (a.answer, a.lent)

-- demand 3 (§10.6): a described mapping is restored, and where none is described restore is refused
module _ (s mem : List ℕ) (r : Ready s mem) where
  pub described_restored : (k : Mapped) → Described (decode s) mem k
      → ((step its_restore s mem).answer ≡ pos 0) × (decode_map (step its_restore s mem).state ≡ k)
  described_restored k d =
      let e = (demand3 s mem r).exact in
      let a = e.found k d in
      (a, e.unique _ k (e.accepted a) d)

  pub undescribed_refused : ((k : Mapped) → Described (decode s) mem k → ⊥) → (n : ℕ) × ((step its_restore s mem).answer ≡ negsuc n)
  unfolding listed
  undescribed_refused f = let d = (demand3 s mem r).exact.refused.1 f in by d.0 d.1 d.2
    where
      by : (e : ℕ) → listed e ≡ true → (step its_restore s mem).answer ≡ refusal e → (n : ℕ) × ((step its_restore s mem).answer ≡ negsuc n)
      by zero l q = never l
      by (suc n) l q = (n, q)

  pub refused_undescribed : (n : ℕ) → (step its_restore s mem).answer ≡ negsuc n → (k : Mapped) → Described (decode s) mem k → ⊥
  refused_undescribed n h k d = never (ap negative (sym (described_restored k d).0 ∙ h))

  -- §10.7, §10.8: save is accepted, and after any calls in between the mapping comes back with every lookup
  pub saved : (step its_save s mem).answer ≡ pos 0
  saved = (demand3 s mem r).saves

  module _ (t : List ℕ) (z : Sound t) (turns : List Turn) (g : All Given turns) (other : List ℕ) (o : Open (run turns t) other)
      (p : SamePlaces (decode s) (decode (run turns t))) (q : SavedStand s (step its_save s mem).lent other) where
    pub comes_back : ((step its_restore (run turns t) other).answer ≡ pos 0) × (decode_map (step its_restore (run turns t) other).state ≡ decode_map s)
    comes_back = let b = (demand3 s mem r).again t z turns g other o p q in (b.accepted, b.mapping)

    pub looks_back : (device event : ℕ) (v : List ℕ) → (step (its_lookup device event) (step its_restore (run turns t) other).state v).answer
        ≡ (step (its_lookup device event) s v).answer
    looks_back device event v =
        let b = (demand3 s mem r).again t z turns g other o p q in
        b.lookups device event v ∙ sym (b.at_save device event v)
