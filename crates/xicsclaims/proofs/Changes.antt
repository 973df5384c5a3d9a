-- The rows that each call leaves where all of its tests passed: one more, or one with another word, and no other changes. Assumes nothing.
use Prim.Native.Nat.{ℕ, ◌≤◌, ◌<◌, ◌^◌}
use native.Mathlib.Omega.{arith}
use mathlib.Core.Path.{◌≡◌, ◌∙◌}
use mathlib.Core.Bool.{true}
use mathlib.Core.List.{List, [], ◌∷◌, ◌++◌}
use lib.ListN.{get_or, set}
use borrow.Author.Tests.{ltb-true}
use Rattle.xicswords.specs.Word.{narrow, trimmed, fresh_server, fresh_source}
use Rattle.xicsrows.specs.XicsLayout.{server, source, Row, table, added, worded}
use Rattle.xicsrows.specs.Registered.{no_row, index_of}
use Rattle.xicsrows.proofs.Numbers.{registered_is}
use Rattle.xicsrows.proofs.Written.{length_worded, bytes_worded, table_worded, worded_else, length_added, bytes_added, table_added, added_else}
use Rattle.xicsrules.specs.Sound.{takes, SoundXics}
use Rattle.xicsrules.proofs.Parts.{Holds, Parts, both, sound_parts}
use Rattle.xicswords.proofs.Meaning.{fresh_server_lem, fresh_narrow, trim_narrow}
use Rattle.xics.proofs.Passes.{NewServer, NewSource, SourceWord, ServerWord}

-- rows with one more, and with word w in the row of number n
abbrev pub more : ℕ → ℕ → List Row → List Row
more n w l = l ++ (record { number = n; word = w } ∷ [])

abbrev pub other : ℕ → ℕ → List Row → List Row
other n w l = set l (index_of n l) (record { number = (get_or l (index_of n l) no_row).number; word = w })

-- a word that is taken is one of 8 bytes
pub taken_narrow : (a : List Row) (w : ℕ) → takes a w ≡ true → w < 2 ^ 43
unfolding takes
taken_narrow a w h = ltb-true w (2 ^ 43) (both (narrow w) _ h).0

module _ (s : List ℕ) (ok : SoundXics s) where
  abbrev a : List Row
  a = table server s

  abbrev b : List Row
  b = table source s

  -- the rows of a sound XICS break no rule
  pub parts : Parts a b
  parts = sound_parts s ok.rules

  -- §14.7: a server more
  pub server_added : (n : ℕ) → NewServer n a → Holds (added server n fresh_server s) (more n fresh_server a) b
  server_added n t =
      let f = parts.few_servers in
      let l : 0 ≤ 1 = omega arith in
      record {
        bytes = bytes_added server s l ok.long f n fresh_server t.room ok.bytes;
        long = length_added server s l ok.long f n fresh_server t.room ∙ ok.long;
        servers = table_added server s l ok.long f n fresh_server t.room (omega (arith, t.number)) (omega (arith, fresh_server_lem));
        sources = added_else server s l ok.long f n fresh_server t.room source (omega arith) (λ e. omega arith) parts.few_sources;
      }

  -- §14.8: a source more
  pub source_added : (n d : ℕ) → NewSource n d a b → Holds (added source n (fresh_source d) s) a (more n (fresh_source d) b)
  source_added n d t =
      let f = parts.few_sources in
      let l : 1 ≤ 1 = omega arith in
      let w : fresh_source d < 2 ^ 43 = fresh_narrow d t.server in
      record {
        bytes = bytes_added source s l ok.long f n (fresh_source d) t.room ok.bytes;
        long = length_added source s l ok.long f n (fresh_source d) t.room ∙ ok.long;
        servers = added_else source s l ok.long f n (fresh_source d) t.room server (omega arith) (λ e. omega arith) parts.few_servers;
        sources = table_added source s l ok.long f n (fresh_source d) t.room (omega (arith, t.number)) (omega arith);
      }

  -- §14.9: another word for source n
  pub source_worded : (n width w : ℕ) → SourceWord n width w a b → Holds (worded source (index_of n b) w s) a (other n w b)
  source_worded n width w t =
      let f = parts.few_sources in
      let l : 1 ≤ 1 = omega arith in
      let h = registered_is n b t.known in
      let g : w < 2 ^ 43 = taken_narrow a w t.taken in
      record {
        bytes = bytes_worded source s l ok.long f (index_of n b) w h ok.bytes;
        long = length_worded source s l ok.long f (index_of n b) w h ∙ ok.long;
        servers = worded_else source s l ok.long f (index_of n b) w h server (omega arith) (λ e. omega arith) parts.few_servers;
        sources = table_worded source s l ok.long f (index_of n b) w h (omega arith);
      }

  -- §14.10: another word for server n
  pub server_worded : (n width v : ℕ) → v < 2 ^ 64 → ServerWord n width v a → Holds (worded server (index_of n a) (trimmed v) s) (other n (trimmed v) a) b
  server_worded n width v word t =
      let f = parts.few_servers in
      let l : 0 ≤ 1 = omega arith in
      let h = registered_is n a t.known in
      record {
        bytes = bytes_worded server s l ok.long f (index_of n a) (trimmed v) h ok.bytes;
        long = length_worded server s l ok.long f (index_of n a) (trimmed v) h ∙ ok.long;
        servers = table_worded server s l ok.long f (index_of n a) (trimmed v) h (trim_narrow v word);
        sources = worded_else server s l ok.long f (index_of n a) (trimmed v) h source (omega arith) (λ e. omega arith) parts.few_sources;
      }
