-- The ends of a call on lent bytes, and what the test of the state tells.
use Prim.Native.Nat.{ℕ}
use native.Mathlib.Omega.{arith}
use mathlib.Core.Path.{◌≡◌, refl, sym, ap, ap₂, ◌∙◌, subst}
use mathlib.Core.Bool.{Bool, true, false}
use mathlib.Core.List.{List, [], ◌∷◌}
use lib.ListN.{length}
use lib.Seq.{take_all}
use Rattle.words.specs.Words.{le, le_at}
use borrow.Author.Tests.{eq-eqb, ne_eqb, eqb-true}
use lib.Dec.{eqb}
use Rattle.std.specs.Prelude.{Result, Ok, Err}
use Rattle.answers.specs.declared.Errno.{Errno}
use Rattle.answers.specs.declared.Errno.TheVariants.{EFAULT, EINVAL}
use Rattle.answers.specs.Number.{number}
use Rattle.lists.specs.Rows.{choose}
use Rattle.answers.specs.Answer.{done}
use Rattle.guest.specs.declared.Guest.{Guest}
use Rattle.guest.specs.Machine.{Reading}
use Rattle.guest.specs.Machine as machine
use Rattle.guest.specs.Machine.{Machine, Held, view, fresh}
use Rattle.guest.specs.Returned.{Does, reading}
use Rattle.guest.proofs.Returned.{number_not_0}
use Rattle.areas.proofs.Tests.{split}
use Rattle.rules.specs.Rules.{rules, memory_ok, Kept}
use Rattle.mapping.specs.declared.Mapping.{Mapping}
use Rattle.mapping.specs.Mapped.{Mapped, rows, Within, empty}
use Rattle.mapping.specs.MapRules.{map_rules, MapKept}
use Rattle.layout.specs.Layout.{size, decode, stored, counts_ok}
use Rattle.maplayout.specs.MapLayout.{decode_map, stored_map, map_counts_ok}
use Rattle.calls.specs.declared.Change.{Change}
use Rattle.calls.specs.declared.Question.{Question}
use Rattle.calls.specs.declared.Contents.{Contents}
use Rattle.calls.specs.declared.Command.{Command}
use Rattle.calls.specs.Steps.{change_step, ask_step}
use Rattle.calls.specs.Commands.{BoxResult, BoxDoes, command_step, lookup_step}
use Rattle.state.specs.Sound.{sound}
use Rattle.calls.specs.Signed.{signed}
use Rattle.calls.specs.Call.{Reply, refused, guarded, untold, changes, asks, commands, looks, set_up, value_of, given, Gives, settled, settled_box}

-- The test of the state.

module _ (s : List ℕ) where
  pub fails_counts : counts_ok s ≡ false → false ≡ sound s
  unfolding sound
  fails_counts a = rw a

  module _ (a : counts_ok s ≡ true) where
    pub fails_map_counts : map_counts_ok s ≡ false → false ≡ sound s
    unfolding sound
    fails_map_counts b = rw (a, b)

    module _ (b : map_counts_ok s ≡ true) where
      pub fails_rules : rules (decode s) ≡ false → false ≡ sound s
      unfolding sound
      fails_rules c = rw (a, b, c)

      pub decides : {t : Bool} → rules (decode s) ≡ true → t ≡ map_rules (decode s) (decode_map s) → t ≡ sound s
      unfolding sound
      decides c d = rw (a, b, c) d

-- what sound bytes keep, and what is loaded from them
pub record Parts (s : List ℕ) : Type 0 where
  pub counts : counts_ok s ≡ true
  pub map_counts_lem : map_counts_ok s ≡ true
  pub guest : rules (decode s) ≡ true
  pub mapping : map_rules (decode s) (decode_map s) ≡ true

module _ (s : List ℕ) (u : sound s ≡ true) where
  pub parts : Parts s
  unfolding sound
  parts =
      let p = split (counts_ok s) (map_counts_ok s ∷ rules (decode s) ∷ map_rules (decode s) (decode_map s) ∷ []) u in
      record { counts = p.0; map_counts_lem = p.1.0; guest = p.1.1.0; mapping = p.1.1.1 }

  pub guest_kept : (g : Guest) → (view g ≡ decode s) × Held g → Kept g
  guest_kept g v = record { held = v.1; rules = ap rules v.0 ∙ parts.guest }

  pub box_kept : (g : Guest) (k : Mapping) → (view g ≡ decode s) × Held g → (rows k ≡ decode_map s) × Within k → MapKept g k
  box_kept g k v w = record { guest = guest_kept g v; within = w.1; rules = ap₂ map_rules v.0 w.0 ∙ parts.mapping }

-- How every call but set-up begins.

module _ (s : List ℕ) where
  pub check_short : (length s ≡ size → ⊥) → 14 ≡ guarded (λ e. e) 0 s
  check_short h = rw (ne_eqb (length s) size h)

  pub check_unsound : length s ≡ size → sound s ≡ false → 22 ≡ guarded (λ e. e) 0 s
  check_unsound h q = rw (eq-eqb (length s) size h, q)

  pub check_done : length s ≡ size → sound s ≡ true → 0 ≡ guarded (λ e. e) 0 s
  check_done h q = rw (eq-eqb (length s) size h, q)

  -- what the test tells once it is passed
  pub checked : 0 ≡ guarded (λ e. e) 0 s → (length s ≡ size) × (sound s ≡ true)
  checked = by (eqb (length s) size) (sound s) refl
    where
      by : (a b : Bool) → eqb (length s) size ≡ a → ◌≡◌ {A = ℕ} 0 (choose a (choose b 0 22) 14) → (length s ≡ size) × (b ≡ true)
      by true true p q = (eqb-true (length s) size p, refl)
      by true false p q = absurd (omega (arith, q))
      by false b p q = absurd (omega (arith, q))

  module _ {A : Type 0} (refuse : ℕ → A) (go : A) where
    pub stopped : (e : Errno) → number e ≡ guarded (λ e. e) 0 s → guarded refuse go s ≡ refuse (number e)
    stopped e = by (eqb (length s) size) (sound s)
      where
        by : (a b : Bool) → number e ≡ choose a (choose b 0 22) 14 → choose a (choose b go (refuse 22)) (refuse 14) ≡ refuse (number e)
        by true true q = absurd (number_not_0 e q)
        by true false q = ap refuse (sym q)
        by false b q = ap refuse (sym q)

    pub passed : 0 ≡ guarded (λ e. e) 0 s → guarded refuse go s ≡ go
    passed k = rw (eq-eqb (length s) size (checked k).0, (checked k).1)

-- a call that is refused, and one that is done
pub gives_refused : {r : Reply} (s : List ℕ) (e : Errno) {o : Result Unit Errno} → o ≡ Err e → r ≡ refused s (number e) → Gives r (signed o) s
gives_refused s e p q = rw (p, q) (record { number = refl; left = refl })

pub gives_done : {r : Reply} (t u : List ℕ) → r ≡ record { answer = done 0; lent = t } → u ≡ t → Gives r (done 0) u
gives_done t u q p = rw (q, p) (record { number = refl; left = refl })

pub reads_refused : (e : Errno) {r : Reading} {o : Result ℕ Errno} → o ≡ Err e → r ≡ untold (number e) → reading o ≡ r
reads_refused e p q = rw p (sym q)

-- A changing call.

module _ (c : Change) (s : List ℕ) where
  pub refuses : (e : Errno) {o : Result Unit Errno} → o ≡ Err e → number e ≡ guarded (λ e. e) 0 s → Gives (changes c s) (signed o) s
  unfolding changes
  refuses e p q = gives_refused s e p (stopped s (refused s) (settled s (change_step c (decode s))) e q)

  module _ (k : 0 ≡ guarded (λ e. e) 0 s) (g : Guest) (v : view g ≡ decode s) where
    called : {r : machine.Result} → r ≡ change_step c (view g) → changes c s ≡ settled s r
    unfolding changes
    called {r} d = passed s (refused s) (settled s (change_step c (decode s))) k ∙ ap (settled s) (sym (d ∙ ap (change_step c) v))

    pub step_refuses : (e : Errno) {o : Result Unit Errno} → o ≡ Err e → Does (view g) (Err e) (change_step c (view g)) → Gives (changes c s) (signed o) s
    step_refuses e p d = gives_refused s e p (called d.is ∙ rw (ne_eqb (number e) 0 (number_not_0 e)))

    pub settles : (next : Guest) (t : List ℕ) → Does (view g) (Ok next) (change_step c (view g)) → t ≡ stored (view next) s → Gives (changes c s) (done 0) t
    settles next t d w = gives_done (stored (view next) s) t (called d.is) w

-- A question.

module _ (q : Question) (s : List ℕ) where
  pub ask_refuses : (e : Errno) {o : Result ℕ Errno} → o ≡ Err e → number e ≡ guarded (λ e. e) 0 s → reading o ≡ asks q s
  unfolding asks
  ask_refuses e p k = reads_refused e p (stopped s untold (ask_step q (decode s)) e k)

  pub ask_answers : (o : Result ℕ Errno) → 0 ≡ guarded (λ e. e) 0 s → (g : Guest) → view g ≡ decode s → reading o ≡ ask_step q (view g) → reading o ≡ asks q s
  unfolding asks
  ask_answers o k g v d = (d ∙ ap (ask_step q) v) ∙ sym (passed s untold (ask_step q (decode s)) k)

-- An ITS command.

module _ (c : Command) (s : List ℕ) where
  pub command_refuses : (e : Errno) {o : Result Unit Errno} → o ≡ Err e → number e ≡ guarded (λ e. e) 0 s → Gives (commands c s) (signed o) s
  unfolding commands
  command_refuses e p q = gives_refused s e p (stopped s (refused s) (settled_box s (command_step c (decode s) (decode_map s))) e q)

  module _ (k : 0 ≡ guarded (λ e. e) 0 s) where
    box_called : {r : BoxResult} → r ≡ command_step c (decode s) (decode_map s) → commands c s ≡ settled_box s r
    unfolding commands
    box_called d = passed s (refused s) (settled_box s (command_step c (decode s) (decode_map s))) k ∙ ap (settled_box s) (sym d)

    pub command_fails : (e : Errno) {o : Result Unit Errno} → o ≡ Err e
        → BoxDoes (decode s) (decode_map s) (Err e) (command_step c (decode s) (decode_map s)) → Gives (commands c s) (signed o) s
    command_fails e p d = gives_refused s e p (box_called d.is ∙ rw (ne_eqb (number e) 0 (number_not_0 e)))

    pub command_settles : (b : Contents) (x : List ℕ) → BoxDoes (decode s) (decode_map s) (Ok b) (command_step c (decode s) (decode_map s))
        → x ≡ stored_map (rows b.mapping) (stored (view b.guest) s) → Gives (commands c s) (done 0) x
    command_settles b x d a = gives_done (stored_map (rows b.mapping) (stored (view b.guest) s)) x (box_called d.is) a

-- a command on what the bytes stand for, and its result stored
pub performed_is : (c : Command) (s : List ℕ) (g : Guest) (k : Mapping) (o : Result Contents Errno) → view g ≡ decode s → rows k ≡ decode_map s
    → BoxDoes (view g) (rows k) o (command_step c (view g) (rows k)) → BoxDoes (decode s) (decode_map s) o (command_step c (decode s) (decode_map s))
performed_is c s g k o v w d =
    subst (λ (m : Machine). BoxDoes m (decode_map s) o (command_step c m (decode_map s))) v
    (subst (λ (x : Mapped). BoxDoes (view g) x o (command_step c (view g) x)) w d)

pub stored_both : (b : Contents) (s t x : List ℕ) → t ≡ stored (view b.guest) s → x ≡ stored_map (rows b.mapping) t
    → x ≡ stored_map (rows b.mapping) (stored (view b.guest) s)
stored_both b s t x a d = d ∙ ap (stored_map (rows b.mapping)) a

-- Lookup.

module _ (device event : ℕ) (s : List ℕ) where
  pub look_refuses : (e : Errno) {o : Result ℕ Errno} → o ≡ Err e → number e ≡ guarded (λ e. e) 0 s → reading o ≡ looks device event s
  unfolding looks
  look_refuses e p k = reads_refused e p (stopped s untold (lookup_step device event (decode s) (decode_map s)) e k)

  pub look_answers : (o : Result ℕ Errno) → 0 ≡ guarded (λ e. e) 0 s → (g : Guest) → view g ≡ decode s → (k : Mapping) → rows k ≡ decode_map s
      → reading o ≡ lookup_step device event (view g) (rows k) → reading o ≡ looks device event s
  unfolding looks
  look_answers o k g v x w d =
      (d ∙ ap₂ (lookup_step device event) v w) ∙ sym (passed s untold (lookup_step device event (decode s) (decode_map s)) k)

-- A get, and the number of a lent value.

pub gives_no : (e : Errno) {o : Result Unit Errno} (value : List ℕ) → o ≡ Err e → Gives (given (untold (number e)) value) (signed o) value
gives_no e value p = gives_refused value e p (rw (ne_eqb (number e) 0 (number_not_0 e)))

pub value_four : (value : List ℕ) (r : ℕ) → length value ≡ 4 → r ≡ le_at value 0 4 → r ≡ value_of value
unfolding value_of le_at
value_four value r h e = rw (eq-eqb (length value) 4 h) (e ∙ ap le (take_all 4 value (omega arith)))

pub value_eight : (value : List ℕ) (r : ℕ) → length value ≡ 8 → r ≡ le_at value 0 8 → r ≡ value_of value
unfolding value_of le_at
value_eight value r h e =
    rw (ne_eqb (length value) 4 (λ z. omega arith), eq-eqb (length value) 8 h) (e ∙ ap le (take_all 8 value (omega arith)))

pub value_none : (value : List ℕ) → (length value ≡ 4 → ⊥) → (length value ≡ 8 → ⊥) → 0 ≡ value_of value
unfolding value_of
value_none value a b = rw (ne_eqb (length value) 4 a, ne_eqb (length value) 8 b)

-- Set-up.

module _ (width start len : ℕ) (s : List ℕ) where
  pub setup_short : (length s ≡ size → ⊥) → Gives (set_up width start len s) (signed (Err EFAULT)) s
  unfolding set_up
  setup_short h = let e = ne_eqb (length s) size h in record { number = rw e; left = rw e }

  module _ (h : length s ≡ size) where
    pub setup_refused : memory_ok (record { width = width; start = start; length = len }) ≡ false → Gives (set_up width start len s) (signed (Err EINVAL)) s
    unfolding set_up
    setup_refused q = let l = eq-eqb (length s) size h in record { number = rw (l, q); left = rw (l, q) }

    pub setup_done : (t u : List ℕ) (m : Machine) (k : Mapped) → memory_ok (record { width = width; start = start; length = len }) ≡ true
        → t ≡ stored_map k s → k ≡ empty → m ≡ fresh width start len → u ≡ stored m t
        → Gives (set_up width start len s) (done 0) u
    unfolding set_up
    setup_done t u m k q a n b w =
        let l = eq-eqb (length s) size h in
        record { number = rw (l, q); left = rw (l, q) (w ∙ ap₂ stored b (a ∙ ap (λ (x : Mapped). stored_map x s) n)) }
