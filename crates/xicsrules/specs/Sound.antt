-- §14.12: sound bytes of an XICS: those that break no rule. Every call on an XICS but set-up answers -22 to others of the right length.
use Rattle.std.specs.Prelude.{ℕ, ◌^◌, ◌≡◌, Bool, true, ◌&&◌, List, length, ltb}
use Rattle.lists.specs.Rows.{all}
use Rattle.words.proofs.Bytes.{Bytes}
use Rattle.xicswords.specs.Word.{destination, narrow, paired, is_trimmed}
use Rattle.xicsrows.specs.XicsLayout.{size, server, source, Row, table, counts_ok}
use Rattle.xicsrows.specs.Registered.{registered, distinct}

-- §14.12: a server: its number is below 2^32, and its word one that §14.10 takes, with bits 15:0 being 0
unfoldable pub server_ok : Row → Bool
server_ok r = ltb r.number (2 ^ 32) && (paired r.word && is_trimmed r.word)

-- §14.9: a word of a source that these servers take: no bit above 42, and its destination is one of them
unfoldable pub takes : List Row → ℕ → Bool
takes servers w = narrow w && registered (destination w) servers

-- §14.12: a source beside these servers: its number is below 2^20, and its word one that §14.9 takes
unfoldable pub source_ok : List Row → Row → Bool
source_ok servers r = ltb r.number (2 ^ 20) && takes servers r.word

-- §14.12: of bytes of the right length: the numbers of rows, then every server and every source, and no number twice in a table. The test of
-- §14.3
unfoldable pub sound_xics : List ℕ → Bool
sound_xics s =
    counts_ok s && ((all server_ok (table server s) && distinct (table server s))
    && (all (source_ok (table server s)) (table source s) && distinct (table source s)))

-- §14.12: a sound XICS: numbers below 256, as many as §14.2 says, that pass the test
pub record SoundXics (s : List ℕ) : Type 0 where
  pub bytes : Bytes s
  pub long : length s ≡ size
  pub rules : sound_xics s ≡ true
