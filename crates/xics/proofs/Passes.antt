-- What holds where no refusal applies, and the size of one that does. Assumes nothing.
use Prim.Native.Nat.{ℕ, ◌^◌, ◌<◌}
use native.Mathlib.Omega.{arith}
use mathlib.Core.Path.{◌≡◌, refl}
use mathlib.Core.Bool.{Bool, true, false, ◌||◌, not}
use mathlib.Core.List.{List}
use lib.ListN.{length}
use lib.Dec.{leb, eqb}
use borrow.Author.Tests.{leb-false, eqb-true, not-false}
use Rattle.areas.proofs.Tests.{or_left, or_right}
use Rattle.lists.specs.Rows.{choose}
use Rattle.xicswords.specs.Word.{paired}
use Rattle.xicsrows.specs.XicsLayout.{Row}
use Rattle.xicsrows.specs.Registered.{registered}
use Rattle.xicsrules.specs.Sound.{takes}
use Rattle.xics.specs.Faults.{server_fault, source_fault, word_fault, source_word_fault, server_word_fault}

-- a refusal that does not apply, and none after it
passed : (b : Bool) (e x : ℕ) → 0 < e → choose b e x ≡ 0 → (b ≡ false) × (x ≡ 0)
passed true e x h q = absurd (omega arith)
passed false e x h q = (refl, q)

-- §14.7: server n among these
pub record NewServer (n : ℕ) (servers : List Row) : Type 0 where
  pub number : n < 2 ^ 32
  pub fresh : registered n servers ≡ false
  pub room : length servers < 64

pub new_server_lem : (n : ℕ) (servers : List Row) → server_fault n servers ≡ 0 → NewServer n servers
unfolding server_fault
new_server_lem n servers e =
    let a = passed (leb (2 ^ 32) n) 22 _ (omega arith) e in
    let b = passed (registered n servers) 17 _ (omega arith) a.1 in
    let d = passed (leb 64 (length servers)) 12 0 (omega arith) b.1 in
    record { number = leb-false _ _ a.0; fresh = b.0; room = leb-false _ _ d.0 }

-- §14.8: source n with server d
pub record NewSource (n d : ℕ) (servers sources : List Row) : Type 0 where
  pub number : n < 2 ^ 20
  pub server : d < 2 ^ 32
  pub fresh : registered n sources ≡ false
  pub known : registered d servers ≡ true
  pub room : length sources < 64

pub new_source_lem : (n d : ℕ) (servers sources : List Row) → source_fault n d servers sources ≡ 0 → NewSource n d servers sources
unfolding source_fault
new_source_lem n d servers sources e =
    let a = passed (leb (2 ^ 20) n || leb (2 ^ 32) d) 22 _ (omega arith) e in
    let b = passed (registered n sources) 17 _ (omega arith) a.1 in
    let k = passed (not (registered d servers)) 2 _ (omega arith) b.1 in
    let r = passed (leb 64 (length sources)) 12 0 (omega arith) k.1 in
    record {
      number = leb-false _ _ (or_left (leb (2 ^ 20) n) (leb (2 ^ 32) d) a.0);
      server = leb-false _ _ (or_right (leb (2 ^ 20) n) (leb (2 ^ 32) d) a.0);
      fresh = b.0;
      known = not-false _ k.0;
      room = leb-false _ _ r.0;
    }

-- §14.9: the word of a source, and §14.10: that of a server
pub record SourceWord (n width w : ℕ) (servers sources : List Row) : Type 0 where
  pub wide : width ≡ 8
  pub known : registered n sources ≡ true
  pub taken : takes servers w ≡ true

pub source_word_lem : (n width w : ℕ) (servers sources : List Row) → source_word_fault n width w servers sources ≡ 0 → SourceWord n width w servers sources
unfolding source_word_fault
source_word_lem n width w servers sources e =
    let a = passed (not (eqb width 8)) 14 _ (omega arith) e in
    let b = passed (not (registered n sources)) 2 _ (omega arith) a.1 in
    let d = passed (not (takes servers w)) 22 0 (omega arith) b.1 in
    record { wide = eqb-true _ _ (not-false _ a.0); known = not-false _ b.0; taken = not-false _ d.0 }

pub record ServerWord (n width v : ℕ) (servers : List Row) : Type 0 where
  pub wide : width ≡ 8
  pub known : registered n servers ≡ true
  pub taken : paired v ≡ true

pub server_word_lem : (n width v : ℕ) (servers : List Row) → server_word_fault n width v servers ≡ 0 → ServerWord n width v servers
unfolding server_word_fault
server_word_lem n width v servers e =
    let a = passed (not (eqb width 8)) 14 _ (omega arith) e in
    let b = passed (not (registered n servers)) 2 _ (omega arith) a.1 in
    let d = passed (not (paired v)) 22 0 (omega arith) b.1 in
    record { wide = eqb-true _ _ (not-false _ a.0); known = not-false _ b.0; taken = not-false _ d.0 }

-- every refusal is a number that an answer can turn
either_small : (b : Bool) (e x : ℕ) → e < 4096 → x < 4096 → choose b e x < 4096
either_small true e x h g = h
either_small false e x h g = g

pub word_small : (n width : ℕ) (rows : List Row) → word_fault n width rows < 4096
unfolding word_fault
word_small n width rows = either_small (not (eqb width 8)) 14 _ (omega arith) (either_small (not (registered n rows)) 2 0 (omega arith) (omega arith))
