-- What single calls do, proved over `step` by the laws of the layers below. Assumes nothing.
use Prim.Native.Nat.{ℕ, ◌<◌}
use native.Mathlib.Omega.{arith}
use mathlib.Core.Path.{◌≡◌, refl, sym, ap, ◌∙◌}
use mathlib.Core.Logic.{◌≢◌, ⊎_elim}
use mathlib.Core.Bool.{Bool, true, false}
use mathlib.Core.List.{List, []}
use lib.ListN.{length}
use lib.Dec.{eqb}
use borrow.Author.Tests.{eq-eqb, eqb-true, eqb-false}
use Rattle.lists.proofs.All.{none}
use Rattle.lists.proofs.Member.{all_in}
use Rattle.words.proofs.Bytes.{Bytes}
use Rattle.answers.specs.Errno.{listed}
use Rattle.answers.specs.Answer.{refusal, done}
use Rattle.guest.specs.Machine.{Machine, Result, fresh, initialised}
use Rattle.guest.specs.declared.Control.{Control}
use Rattle.rules.specs.Rules.{memory_ok}
use Rattle.frames.specs.Vcpus.{set_running}
use Rattle.frames.specs.Init.{vgic_init}
use Rattle.frames.proofs.Anchors.{init_again, init_empty, init_ready, init_unready, init_accepted, running_set}
use Rattle.mapping.specs.Mapped.{Mapped, empty}
use Rattle.mapping.specs.Commands.{lookup}
use Rattle.mapping.specs.Meaning.{MappingRules}
use Rattle.mapping.proofs.Meaning.{rules_say}
use Rattle.mapping.proofs.Anchors.{lookup_found, lookup_missing}
use Rattle.layout.specs.Layout.{size, decode, stored}
use Rattle.maplayout.specs.MapLayout.{decode_map, stored_map}
use Rattle.kept.proofs.Choice.{choose_by}
use Rattle.kept.proofs.Init.{vgic_init-keeps}
use Rattle.kept.proofs.Vcpus.{set_running-keeps}
use Rattle.calls.specs.declared.Change.{Change}
use Rattle.calls.specs.declared.Change.TheVariants.{Start, Stop, VgicSet}
use Rattle.calls.specs.declared.Command.TheVariants.{MapCollection, Reset}
use Rattle.calls.specs.Groups.{set_group4, vgic_set}
use Rattle.calls.specs.Steps.{change_step}
use Rattle.calls.specs.Commands.{BoxResult, lookup_step, command_step}
use Rattle.state.specs.Sound.{Sound}
use Rattle.calls.specs.Call.{Reply, value_of, answered, settled_box, changes, set_up}
use Rattle.calls.proofs.Anchors.{reset_empties, unplaced_lookup, unplaced_maps, maps_collection}
use Rattle.step.specs.Step.{step, setup, its_set, its_lookup, vgic_set as setVgic}
use Rattle.claims.specs.Demand3.{Accepted}
use Rattle.claims.specs.Anchors.{Nothing, Fresh, SetUp, Inits, Runs, Looks, Resets}
use Rattle.claims.proofs.Stored.{says, fresh_is, fresh_map}
use Rattle.claims.proofs.On.{change_done, change_next, change_refused, command_is, command_done, command_machine, command_mapping, look_is}
use Rattle.claims.proofs.Stays.{command_good, setup_good, sound_stays}
use Rattle.claims.proofs.Demand3.{unrefused, no_refusal}

-- set-up
nothing : (k : Mapped) → k ≡ empty → Nothing k
nothing k e = rw e (record { collections = refl; devices = refl; events = refl })

is_fresh : (width start len : ℕ) (m : Machine) → m ≡ fresh width start len → Fresh m
is_fresh width start len m e =
    rw e (record {
      irqs = refl;
      unset = refl;
      vcpus = refl;
      regions = refl;
      distributor = refl;
      single = refl;
      its = refl;
      devices = refl;
      collections = refl;
      init = refl;
      itsinit = refl;
      running = refl;
      status = refl;
      shared = refl;
    })

pub setup_fresh : (width start len : ℕ) (s v : List ℕ) → Bytes s → Accepted (step (setup width start len) s v) → SetUp width start len (step (setup width start len) s v)
unfolding set_up listed
setup_fresh width start len s v b =
    choose_by Made (eqb (length s) size)
    (λ l. choose_by Made (memory_ok (record { width = width; start = start; length = len }))
    (λ h _. made (eqb-true (length s) size l) h)
    (λ _ a. absurd (unrefused 22 refl (sym a))))
    (λ _ a. absurd (unrefused 14 refl (sym a)))
  where
    Made : Reply → Type 0
    Made r = r.answer ≡ done 0 → SetUp width start len (record { answer = r.answer; state = r.lent; lent = v })

    made : length s ≡ size → memory_ok (record { width = width; start = start; length = len }) ≡ true
        → SetUp width start len (record { answer = done 0; state = stored (fresh width start len) (stored_map empty s); lent = v })
    made l h =
        let g = setup_good width start len h in
        let m = fresh_is (fresh width start len) s l g in
        record {
          width = ap (λ (x : Machine). x.memory.width) m;
          start = ap (λ (x : Machine). x.memory.start) m;
          size = ap (λ (x : Machine). x.memory.length) m;
          fresh = is_fresh width start len _ m;
          mapping = nothing _ (fresh_map (fresh width start len) s l g);
        }

module _ (s : List ℕ) (h : Sound s) where
  -- only a step with errno 0 answers 0
  taken : (c : Change) → (changes c s).answer ≡ done 0 → (change_step c (decode s)).errno ≡ 0
  taken c a = by (eqb (change_step c (decode s)).errno 0) refl
    where
      by : (t : Bool) → eqb (change_step c (decode s)).errno 0 ≡ t → (change_step c (decode s)).errno ≡ 0
      by true e = eqb-true (change_step c (decode s)).errno 0 e
      by false e = no_refusal (change_step c (decode s)).errno (sym (change_refused s h c (eqb-false (change_step c (decode s)).errno 0 e)) ∙ a)

  -- INIT
  abbrev Init : Change
  Init = VgicSet 4 0 0 (value_of [])

  is_init : change_step Init (decode s) ≡ vgic_init (decode s)
  unfolding vgic_set set_group4
  is_init = refl

  init_zero : Accepted (step (setVgic 4 0) s []) → (vgic_init (decode s)).errno ≡ 0
  init_zero a = ap (λ (r : Result). r.errno) (sym is_init) ∙ taken Init a

  pub inits : Inits s
  inits = record {
    exactly = (λ a. (init_accepted (decode s)).0 (init_zero a), λ x. change_done s h Init (ap (λ (r : Result). r.errno) is_init ∙ (init_accepted (decode s)).1 x));
    marks = λ a. marks a (initialised (decode s)) refl;
    empty = λ i z. let n : (decode s).control.init ≢ 1 = λ q. omega arith in turned_down 19 (omega arith) (ap (λ (r : Result). r.errno) (init_empty (decode s) n (ap length z)));
    unready = λ i v u. let n : (decode s).control.init ≢ 1 = λ q. omega arith in turned_down 6 (omega arith) (ap (λ (r : Result). r.errno) (init_unready (decode s) n v u));
  }
    where
      turned_down : (e : ℕ) → 0 < e → (vgic_init (decode s)).errno ≡ e → (step (setVgic 4 0) s []).answer ≡ refusal e
      turned_down e l q =
          let z = ap (λ (r : Result). r.errno) is_init ∙ q in
          rw z at (change_refused s h Init (λ w. let x = sym z ∙ w in omega arith))

      next : Accepted (step (setVgic 4 0) s []) → decode (step (setVgic 4 0) s []).state ≡ (vgic_init (decode s)).next
      next a =
          change_next s h Init (taken Init a) (rw is_init (vgic_init-keeps (decode s) (says s h).good))
          ∙ ap (λ (r : Result). r.next) is_init

      marks : Accepted (step (setVgic 4 0) s []) → (t : Bool) → initialised (decode s) ≡ t → (decode (step (setVgic 4 0) s []).state).control.init ≡ 1
      marks a true i =
          let j = eqb-true (decode s).control.init 1 i in
          ap (λ (m : Machine). m.control.init) (next a ∙ ap (λ (r : Result). r.next) (init_again (decode s) j)) ∙ j
      marks a false i =
          let n = eqb-false (decode s).control.init 1 i in
          ⊎_elim (λ j. absurd (n j))
          (λ r. ap (λ (m : Machine). m.control.init) (next a ∙ ap (λ (r : Result). r.next) (init_ready (decode s) n r)))
          ((init_accepted (decode s)).0 (init_zero a))

  -- start and stop
  module _ (i : (decode s).control.init ≡ 1) where
    set_to : (c : Change) (mark : ℕ) → change_step c (decode s) ≡ set_running mark (decode s) → mark < 2
        → ((changes c s).answer ≡ done 0) × ((decode (changes c s).lent).control.running ≡ mark)
    set_to c mark e b =
        let q = e ∙ running_set (decode s) mark i in
        let z = ap (λ (r : Result). r.errno) q in (
          change_done s h c z,
          ap (λ (m : Machine). m.control.running)
              (change_next s h c z (rw e (set_running-keeps mark (omega arith) (decode s) (says s h).good)) ∙ ap (λ (r : Result). r.next) q),
        )

    pub runs : Runs s
    runs = record { started = set_to Start 1 refl (omega arith); stopped = set_to Stop 0 refl (omega arith) }

  -- lookup
  module _ (i : (decode s).control.itsinit ≡ 1) (p : (decode s).tables.devices.set ≡ 1) where
    placed_rules : MappingRules (decode s) (decode_map s)
    placed_rules = (rules_say (decode s) (decode_map s) (says s h).mapped).placed (eq-eqb (decode s).tables.devices.set 1 p)

    asked : (device event : ℕ) → (step (its_lookup device event) s []).answer ≡ answered (lookup device event (decode_map s))
    unfolding lookup_step
    asked device event = ap answered (look_is s h device event) ∙ rw (i, p)

    pub looks : Looks s
    looks = record {
      found = λ e c m n q. asked e.device e.event
          ∙ rw (lookup_found (decode_map s) placed_rules.events_rise placed_rules.collections_rise e c m n q);
      collected = λ e m. let f = all_in (decode_map s).events placed_rules.fit m in (f.collection, f.listed, f.icid);
      missing = λ device event f. asked device event ∙ rw (lookup_missing (decode_map s) device event f);
    }

  -- RESET
  module _ (i : (decode s).control.itsinit ≡ 1) (n : (decode s).control.running ≡ 0) where
    pub resets : Resets s
    resets =
        let m = decode s in
        let k = decode_map s in
        let r = command_step (Reset 0) m k in
        let e = reset_empties m k i (λ q. omega arith) in
        let g = command_good m k (says s h).good (says s h).mapped (Reset 0) in
        let t = (step (its_set 4 4) s []).state in
        let dm : decode t ≡ r.next.machine = command_machine s h (Reset 0) e.accepted g.good g.mapped in
        let dk : decode_map t ≡ r.next.mapped = command_mapping s h (Reset 0) e.accepted g.good g.mapped in
        let u : Sound t = sound_stays (its_set 4 4) s [] tt none h in
        let j : (decode t).control.itsinit ≡ 1 = ap (λ (x : Machine). x.control.itsinit) dm ∙ ap (λ (c : Control). c.itsinit) e.control ∙ i in
        let z : (decode t).tables.devices.set ≡ 0 = ap (λ (x : Machine). x.tables.devices.set) dm ∙ e.device_table in
        record {
          accepted = command_done s h (Reset 0) e.accepted;
          mapping = record {
            collections = ap (λ (x : Mapped). x.collections) dk ∙ e.collections;
            devices = ap (λ (x : Mapped). x.devices) dk ∙ e.devices;
            events = ap (λ (x : Mapped). x.events) dk ∙ e.events;
          };
          devices = z;
          collections = ap (λ (x : Machine). x.tables.collections.set) dm ∙ e.collection_table;
          control = ap (λ (x : Machine). x.control) dm ∙ e.control;
          commands = λ icid pe.
              ap (λ (x : Reply). x.answer) (command_is t u (MapCollection icid pe))
              ∙ ap (λ (x : BoxResult). (settled_box t x).answer) (unplaced_maps (decode t) (decode_map t) z j (MapCollection icid pe) (maps_collection icid pe));
          lookups = λ device event.
              ap answered (look_is t u device event) ∙ rw (unplaced_lookup (decode t) (decode_map t) z j device event);
        }
