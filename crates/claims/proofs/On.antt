-- A call on sound bytes is its step on the box that they stand for. Assumes nothing.
use Prim.Native.Nat.{ℕ}
use mathlib.Core.Path.{◌≡◌, ap, ◌∙◌}
use mathlib.Core.Bool.{true}
use mathlib.Core.List.{List}
use lib.ListN.{length}
use borrow.Author.Tests.{eq-eqb, ne_eqb}
use Rattle.answers.specs.Answer.{refusal, done}
use Rattle.guest.specs.Machine.{Machine}
use Rattle.rules.specs.Rules.{rules}
use Rattle.mapping.specs.Mapped.{Mapped}
use Rattle.mapping.specs.MapRules.{map_rules}
use Rattle.layout.specs.Layout.{size, decode, stored}
use Rattle.layout.proofs.Round.{length_stored}
use Rattle.maplayout.specs.MapLayout.{decode_map}
use Rattle.kept.specs.Good.{Good}
use Rattle.calls.specs.declared.Change.{Change}
use Rattle.calls.specs.declared.Command.{Command}
use Rattle.calls.specs.declared.Question.{Question}
use Rattle.calls.specs.Steps.{change_step, ask_step}
use Rattle.calls.specs.Commands.{command_step, lookup_step}
use Rattle.state.specs.Sound.{Sound}
use Rattle.calls.specs.Call.{settled, settled_box, changes, asks, commands, looks}
use Rattle.claims.proofs.Stored.{room, counts_of, stored_is, mapped_is, mapped_guest}

module _ (s : List ℕ) (h : Sound s) where
  pub change_is : (c : Change) → changes c s ≡ settled s (change_step c (decode s))
  unfolding changes
  change_is c = rw (eq-eqb (length s) size h.long, h.rules)

  pub command_is : (c : Command) → commands c s ≡ settled_box s (command_step c (decode s) (decode_map s))
  unfolding commands
  command_is c = rw (eq-eqb (length s) size h.long, h.rules)

  pub ask_is : (q : Question) → asks q s ≡ ask_step q (decode s)
  unfolding asks
  ask_is q = rw (eq-eqb (length s) size h.long, h.rules)

  pub look_is : (device event : ℕ) → looks device event s ≡ lookup_step device event (decode s) (decode_map s)
  unfolding looks
  look_is device event = rw (eq-eqb (length s) size h.long, h.rules)

  -- an accepted change: 0, and the bytes stand for the next machine
  module _ (c : Change) (z : (change_step c (decode s)).errno ≡ 0) where
    pub change_done : (changes c s).answer ≡ done 0
    change_done = rw (change_is c, z)

    pub change_next : Good (change_step c (decode s)).next → decode (changes c s).lent ≡ (change_step c (decode s)).next
    change_next g = rw (change_is c, z) (stored_is (change_step c (decode s)).next s h.long g)

  pub change_refused : (c : Change) → ((change_step c (decode s)).errno ≡ 0 → ⊥) → (changes c s).answer ≡ refusal (change_step c (decode s)).errno
  change_refused c n = rw (change_is c, ne_eqb (change_step c (decode s)).errno 0 n)

  -- an accepted command: 0, and the bytes stand for the next machine and mapping
  module _ (c : Command) (z : (command_step c (decode s) (decode_map s)).errno ≡ 0) where
    abbrev next_machine : Machine
    next_machine = (command_step c (decode s) (decode_map s)).next.machine

    abbrev next_mapped : Mapped
    next_mapped = (command_step c (decode s) (decode_map s)).next.mapped

    pub command_done : (commands c s).answer ≡ done 0
    command_done = rw (command_is c, z)

    module _ (g : Good next_machine) (e : map_rules next_machine next_mapped ≡ true) where
      pub command_machine : decode (commands c s).lent ≡ next_machine
      command_machine =
          let d = stored_is next_machine s h.long g in
          let r = room next_machine g.rules in
          rw (command_is c, z)
          (mapped_guest next_mapped (stored next_machine s) (length_stored next_machine s h.long r)
          (counts_of (stored next_machine s) next_machine d r) (ap rules d ∙ g.rules) (ap (λ (x : Machine). map_rules x next_mapped) d ∙ e)
          ∙ d)

      pub command_mapping : decode_map (commands c s).lent ≡ next_mapped
      command_mapping =
          let d = stored_is next_machine s h.long g in
          let r = room next_machine g.rules in
          rw (command_is c, z)
          (mapped_is next_mapped (stored next_machine s) (length_stored next_machine s h.long r)
          (counts_of (stored next_machine s) next_machine d r) (ap rules d ∙ g.rules) (ap (λ (x : Machine). map_rules x next_mapped) d ∙ e))
