-- What the test of a state says, both ways: the counts fit, and the guest and its mapping keep every rule.
use Prim.Native.Nat.{ℕ}
use mathlib.Core.Path.{◌≡◌}
use mathlib.Core.Bool.{true}
use mathlib.Core.List.{List, [], ◌∷◌}
use Rattle.areas.proofs.Tests.{split, join}
use Rattle.rules.specs.Rules.{rules}
use Rattle.mapping.specs.MapRules.{map_rules}
use Rattle.layout.specs.Layout.{decode, counts_ok}
use Rattle.maplayout.specs.MapLayout.{decode_map, map_counts_ok}
use Rattle.state.specs.Sound.{sound}

pub record Says (s : List ℕ) : Type 0 where
  pub counts : counts_ok s ≡ true
  pub map_counts : map_counts_ok s ≡ true
  pub rules : rules (decode s) ≡ true
  pub mapped : map_rules (decode s) (decode_map s) ≡ true

module _ (s : List ℕ) where
  pub sound_says : sound s ≡ true → Says s
  unfolding sound
  sound_says h =
      let p = split (counts_ok s) (map_counts_ok s ∷ rules (decode s) ∷ map_rules (decode s) (decode_map s) ∷ []) h in
      record { counts = p.0; map_counts = p.1.0; rules = p.1.1.0; mapped = p.1.1.1 }

  pub sound_is : Says s → sound s ≡ true
  unfolding sound
  sound_is p =
      join (counts_ok s) (map_counts_ok s ∷ rules (decode s) ∷ map_rules (decode s) (decode_map s) ∷ []) (p.counts, (p.map_counts, (p.rules, p.mapped)))
