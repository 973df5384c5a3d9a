-- §14.2: an XICS as bytes, little endian words of 8 bytes. At 0 and 8 the number of servers and of sources; from 16 the servers, from 1,040 the
-- sources, room for 64 rows each; a row is its number and its word. What lies past a table's last row is never read, and
-- stays but for a row that is added there.
use Rattle.std.specs.Prelude.{ℕ, ◌+◌, ◌*◌, ◌≡◌, Bool, true, ◌&&◌, List, length, drop, leb}
use Rattle.words.specs.Words.{le_at, bytes_of, rows_of, put_at}
use Rattle.xicsrows.specs.declared.Row as declared

-- §14.2: the length of an XICS
abbrev pub size : ℕ
size = 2064

-- §14.2: the two tables by number, in their order
abbrev pub server : ℕ
server = 0

abbrev pub source : ℕ
source = 1

-- §14.2: where the number of rows of table t stands, and where its rows begin
abbrev pub count_at : ℕ → ℕ
count_at t = t * 8

abbrev pub rows_at : ℕ → ℕ
rows_at t = 16 + t * 1024

-- §14.1: a source or a server that is registered: its number and its word
abbrev pub Row : Type 0
Row = declared.Row

-- §14.2: the row that 16 bytes stand for
unfoldable pub row_of : List ℕ → Row
row_of s = record { number = le_at s 0 8; word = le_at s 8 8 }

-- §14.2: the rows of table t, as many as its number says, in the order in which they were registered
unfoldable pub table : ℕ → List ℕ → List Row
table t s = rows_of row_of 16 (le_at s (count_at t) 8) (drop (rows_at t) s)

-- §14.2: the bytes with one word put at an index, and no other byte changed
unfoldable pub put_word : List ℕ → ℕ → ℕ → List ℕ
put_word s at w = put_at s at (bytes_of 8 w)

-- §14.2: the bytes with a row more in table t, behind its last: the row's number and word, and the table's number one more
unfoldable pub added : ℕ → ℕ → ℕ → List ℕ → List ℕ
added t number word s =
    let n = length (table t s) in
    put_word (put_word (put_word s (rows_at t + n * 16) number) (rows_at t + n * 16 + 8) word) (count_at t) (n + 1)

-- §14.2: the bytes with another word in row i of table t
unfoldable pub worded : ℕ → ℕ → ℕ → List ℕ → List ℕ
worded t i word s = put_word s (rows_at t + i * 16 + 8) word

-- §14.2, §14.4: the bytes without a row in either table
unfoldable pub cleared : List ℕ → List ℕ
cleared s = put_word (put_word s (count_at server) 0) (count_at source) 0

-- §14.12: at most 64 servers and at most 64 sources
unfoldable pub counts_ok : List ℕ → Bool
counts_ok s = leb (le_at s (count_at server) 8) 64 && leb (le_at s (count_at source) 8) 64

-- Inner: bytes of the right length whose numbers of rows fit: what reading a row asks
pub record Counted (s : List ℕ) : Type 0 where
  pub long : length s ≡ size
  pub counts : counts_ok s ≡ true
