-- The state at the end of the main run is ready. Assumes nothing.
use Prim.Native.Nat.{ℕ}
use mathlib.Core.Path.{◌≡◌, refl, sym, ap, ◌∙◌}
use mathlib.Core.Bool.{Bool, true, false}
use mathlib.Core.List.{List, [], ◌∷◌}
use lib.ListN.{length}
use lib.Dec.{ltb}
use borrow.Author.Tests.{ltb-true}
use Rattle.lists.specs.Rows.{all}
use Rattle.lists.proofs.All.{from_all}
use Rattle.guest.specs.Machine.{is_running}
use Rattle.layout.specs.Layout.{decode}
use Rattle.mapping.specs.Mapped.{Mapped}
use Rattle.mapping.specs.MapRules.{is_placed}
use Rattle.maplayout.specs.MapLayout.{decode_map}
use Rattle.lists.proofs.Member.{all_weaker}
use Rattle.state.specs.Sound.{sound, Sound}
use Rattle.calls.specs.Commands.{its_initialised}
use Rattle.step.proofs.Computed.{computed}
use Rattle.claims.specs.Demand3.{Ready}
use Rattle.mapruns.specs.Main.{dirty, saved, end, Witness}

-- what is computed of a state, once for all
record Facts : Type 0 where
  bytes : Bool
  long : ℕ
  sound : Bool
  its : Bool
  placed : Bool
  memory : ℕ
  running : Bool
  mapping : Mapped

abbrev is_byte : ℕ → Bool
is_byte b = ltb b 256

abbrev facts : List ℕ → Facts
facts s = record {
  bytes = all is_byte s;
  long = length s;
  sound = sound s;
  its = its_initialised (decode s);
  placed = is_placed (decode s);
  memory = (decode s).memory.length;
  running = is_running (decode s);
  mapping = decode_map s;
}

abbrev good : Facts
good = record {
  bytes = true;
  long = 11400;
  sound = true;
  its = true;
  placed = true;
  memory = 0x4000;
  running = false;
  mapping = record {
    collections = record { icid = 7; pe = 1 } ∷ [];
    devices = record { id = 0; itt = 0x40002000; bits = 5 } ∷ [];
    events = record { device = 0; event = 1; lpi = 8192; icid = 7 } ∷ [];
  };
}

by_facts : facts end ≡ good
unfolding computed
by_facts = refl

saved_long : length saved ≡ 0x4000
unfolding computed
saved_long = refl

dirty_long : length dirty ≡ 0x4000
dirty_long = refl

module _ (s : List ℕ) (h : facts s ≡ good) where
  is_sound : Sound s
  is_sound = record {
    bytes = all_weaker (λ b e. ltb-true b 256 e) s (from_all is_byte s (ap (λ (f : Facts). f.bytes) h));
    long = ap (λ (f : Facts). f.long) h;
    rules = ap (λ (f : Facts). f.sound) h;
  }

  is_ready : (mem : List ℕ) → length mem ≡ 0x4000 → Ready s mem
  is_ready mem l = record {
    sound = is_sound;
    opened = record {
      initialised = ap (λ (f : Facts). f.its) h;
      placed = ap (λ (f : Facts). f.placed) h;
      size = l ∙ sym (ap (λ (f : Facts). f.memory) h);
      stopped = ap (λ (f : Facts). f.running) h;
    };
  }

pub witness : Witness
witness = record {
  ready = is_ready end by_facts saved saved_long;
  dirtied = is_ready end by_facts dirty dirty_long;
  mapping = ap (λ (f : Facts). f.mapping) by_facts;
}
