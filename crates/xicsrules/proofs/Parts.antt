-- The rules of §14.12 on the rows of both tables, taken apart and put together again. Assumes nothing.
use Prim.Native.Nat.{ℕ, ◌^◌, ◌≤◌}
use native.Mathlib.Omega.{arith}
use mathlib.Core.Path.{◌≡◌}
use mathlib.Core.Bool.{Bool, true, ◌&&◌, and-eq-true_iff}
use mathlib.Core.List.{List}
use lib.ListN.{length}
use lib.Dec.{ltb}
use Rattle.lists.specs.Rows.{all}
use Rattle.words.proofs.Bytes.{Bytes}
use Rattle.xicswords.specs.Word.{destination, narrow}
use Rattle.xicsrows.specs.XicsLayout.{size, server, source, Row, table, counts_ok}
use Rattle.xicsrows.specs.Registered.{registered, distinct}
use Rattle.xicsrows.proofs.InPlace.{few}
use Rattle.xicsrows.proofs.Written.{counts_few}
use Rattle.xicsrules.specs.Sound.{server_ok, takes, source_ok, sound_xics, SoundXics}

-- both halves of a test
pub both : (a b : Bool) → (a && b) ≡ true → (a ≡ true) × (b ≡ true)
both a b h = (and-eq-true_iff a b).0 h

-- a source's rule says that its server is registered
pub ok_server : (a : List Row) (r : Row) → source_ok a r ≡ true → registered (destination r.word) a ≡ true
unfolding source_ok takes
ok_server a r h = (both (narrow r.word) _ (both (ltb r.number (2 ^ 20)) _ h).1).1

-- servers a and sources b that break no rule
pub record Parts (a b : List Row) : Type 0 where
  pub few_servers : length a ≤ 64
  pub few_sources : length b ≤ 64
  pub servers : all server_ok a ≡ true
  pub once_servers : distinct a ≡ true
  pub sources : all (source_ok a) b ≡ true
  pub once_sources : distinct b ≡ true

module _ (s : List ℕ) where
  abbrev a : List Row
  a = table server s

  abbrev b : List Row
  b = table source s

  -- the test of §14.3 says these
  pub sound_parts : sound_xics s ≡ true → Parts a b
  unfolding sound_xics
  sound_parts h =
      let p = both (counts_ok s) _ h in
      let q = both (all server_ok a && distinct a) _ p.1 in
      let x = both (all server_ok a) (distinct a) q.0 in
      let y = both (all (source_ok a) b) (distinct b) q.1 in
      record {
        few_servers = few server s p.0 (omega arith);
        few_sources = few source s p.0 (omega arith);
        servers = x.0;
        once_servers = x.1;
        sources = y.0;
        once_sources = y.1;
      }

  -- and these are all that it says
  pub parts_sound : Parts a b → sound_xics s ≡ true
  unfolding sound_xics
  parts_sound p =
      rw (counts_few s p.few_servers p.few_sources, p.servers, p.once_servers, p.sources, p.once_sources)

-- bytes of the right length with rows a and b
pub record Holds (s : List ℕ) (a b : List Row) : Type 0 where
  pub bytes : Bytes s
  pub long : length s ≡ size
  pub servers : table server s ≡ a
  pub sources : table source s ≡ b

-- are sound where the rows break no rule
pub holds_sound : {s : List ℕ} {a b : List Row} → Holds s a b → Parts a b → SoundXics s
holds_sound {s} {a} {b} h p = record { bytes = h.bytes; long = h.long; rules = parts_sound s (rw (h.servers, h.sources) p) }
