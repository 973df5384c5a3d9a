-- Sound bytes: those that break no rule. Every call on a state but set-up answers -22 to others of the right length.
use Rattle.std.specs.Prelude.{ℕ, ◌≡◌, Bool, true, ◌&&◌, List, length}
use Rattle.words.proofs.Bytes.{Bytes}
use Rattle.rules.specs.Rules.{rules}
use Rattle.mapping.specs.MapRules.{map_rules}
use Rattle.layout.specs.Layout.{size, decode, counts_ok}
use Rattle.maplayout.specs.MapLayout.{decode_map, map_counts_ok}

-- §1.8: of bytes of the right length: the counts are within their limits, and the guest and its mapping keep the rules §1.9 to §1.16. The
-- test of §1.3
unfoldable pub sound : List ℕ → Bool
sound s = counts_ok s && (map_counts_ok s && (rules (decode s) && map_rules (decode s) (decode_map s)))

-- §1.8: a sound state: numbers below 256, as many as §1.2 says, that pass the test
pub record Sound (s : List ℕ) : Type 0 where
  pub bytes : Bytes s
  pub long : length s ≡ size
  pub rules : sound s ≡ true
