-- What is known of a state's bytes where the tests of the mapping begin, and where those that size an ITT or an event do.
use Rattle.std.specs.Prelude.{ℕ, ◌≡◌, true, List}
use Rattle.lists.specs.Rows.{all}
use Rattle.layout.specs.Layout.{decode}
use Rattle.layout.specs.Layout as layout
use Rattle.rules.specs.Rules.{rules}
use Rattle.mapping.specs.MapRules.{small_device}
use Rattle.maplayout.specs.MapLayout.{decode_map}
use Rattle.maplayout.specs.MapLayout as maplayout

-- Inner: every number of rows fits, and the guest keeps its own rules
pub record Examined (s : List ℕ) : Type 0 where
  pub guest : layout.Counted s
  pub mapping : maplayout.Counted s
  pub rules : rules (decode s) ≡ true

-- Inner: the mapping's numbers of rows fit, and no device has an ID of 65,536 or more or more than 16 bits
pub record Sized (s : List ℕ) : Type 0 where
  pub counted : maplayout.Counted s
  pub small : all small_device (decode_map s).devices ≡ true
