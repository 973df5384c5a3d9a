-- Rows that break no rule still break none with a row more, or with another word in a row. Assumes nothing.
use Prim.Native.Nat.{ℕ, ◌<◌, ◌^◌}
use native.Mathlib.Omega.{arith}
use mathlib.Core.Path.{◌≡◌, ◌∙◌}
use mathlib.Core.Bool.{true, false}
use mathlib.Core.List.{List, [], ◌∷◌, ◌++◌}
use lib.ListN.{length, get_or, set, length-append, length-set}
use lib.Dec.{ltb}
use borrow.Author.Tests.{lt-ltb}
use Rattle.lists.specs.Rows.{all}
use Rattle.lists.proofs.All.{from_all, to_all}
use Rattle.lists.proofs.Member.{all_weaker}
use Rattle.xicswords.specs.Word.{destination, narrow, paired, is_trimmed}
use Rattle.xicsrows.specs.XicsLayout.{Row}
use Rattle.xicsrows.specs.Registered.{no_row, registered}
use Rattle.xicsrows.proofs.Numbers.{numbers_registered, numbers_distinct, numbers_set}
use Rattle.xicsrows.proofs.Edited.{registered_front, distinct_last, all_last, all_set, all_row}
use Rattle.xicsrules.specs.Sound.{server_ok, source_ok, takes}
use Rattle.xicsrules.proofs.Parts.{Parts, both}

-- sources whose destinations stay registered still keep their rule
others_keep : (a c : List Row) → ((d : ℕ) → registered d a ≡ true → registered d c ≡ true) → (b : List Row) → all (source_ok a) b ≡ true → all (source_ok c) b ≡ true
unfolding source_ok takes
others_keep a c f b h = to_all (source_ok c) b (all_weaker one b (from_all (source_ok a) b h))
  where
    one : (r : Row) → source_ok a r ≡ true → source_ok c r ≡ true
    one r q =
        let x = both (ltb r.number (2 ^ 20)) _ q in
        let y = both (narrow r.word) _ x.1 in
        rw (x.0, y.0) (f (destination r.word) y.1)

-- the rule of a server, and of a source, from its parts
pub server_rule : (n w : ℕ) → n < 2 ^ 32 → paired w ≡ true → is_trimmed w ≡ true → server_ok (record { number = n; word = w }) ≡ true
unfolding server_ok
server_rule n w h p t = rw (lt-ltb n (2 ^ 32) h, p, t)

pub source_rule : (a : List Row) (n w : ℕ) → n < 2 ^ 20 → takes a w ≡ true → source_ok a (record { number = n; word = w }) ≡ true
unfolding source_ok
source_rule a n w h t = rw (lt-ltb n (2 ^ 20) h, t)

-- a row that keeps its rule keeps it with another word that is taken
server_reworded : (r : Row) (w : ℕ) → server_ok r ≡ true → paired w ≡ true → is_trimmed w ≡ true → server_ok (record { number = r.number; word = w }) ≡ true
unfolding server_ok
server_reworded r w h p t = rw ((both (ltb r.number (2 ^ 32)) _ h).0, p, t)

source_reworded : (a : List Row) (r : Row) (w : ℕ) → source_ok a r ≡ true → takes a w ≡ true → source_ok a (record { number = r.number; word = w }) ≡ true
unfolding source_ok
source_reworded a r w h t = rw ((both (ltb r.number (2 ^ 20)) _ h).0, t)

module _ (a b : List Row) (p : Parts a b) where
  -- one row more
  module _ (n w : ℕ) where
    abbrev new : Row
    new = record { number = n; word = w }

    pub server_more : length a < 64 → registered n a ≡ false → server_ok new ≡ true → Parts (a ++ (new ∷ [])) b
    server_more room fresh good = record {
      few_servers = rw (length-append a (new ∷ [])) (omega arith);
      few_sources = p.few_sources;
      servers = all_last server_ok a new p.servers good;
      once_servers = distinct_last a new p.once_servers fresh;
      sources = others_keep a (a ++ (new ∷ [])) (λ d h. registered_front d a (new ∷ []) h) b p.sources;
      once_sources = p.once_sources;
    }

    pub source_more : length b < 64 → registered n b ≡ false → source_ok a new ≡ true → Parts a (b ++ (new ∷ []))
    source_more room fresh good = record {
      few_servers = p.few_servers;
      few_sources = rw (length-append b (new ∷ [])) (omega arith);
      servers = p.servers;
      once_servers = p.once_servers;
      sources = all_last (source_ok a) b new p.sources good;
      once_sources = distinct_last b new p.once_sources fresh;
    }

  -- another word in row i
  module _ (i w : ℕ) where
    abbrev on_server : Row
    on_server = record { number = (get_or a i no_row).number; word = w }

    abbrev on_source : Row
    on_source = record { number = (get_or b i no_row).number; word = w }

    pub server_other : i < length a → paired w ≡ true → is_trimmed w ≡ true → Parts (set a i on_server) b
    server_other h good low = record {
      few_servers = rw (length-set a i on_server) p.few_servers;
      few_sources = p.few_sources;
      servers = all_set server_ok a i on_server p.servers (server_reworded (get_or a i no_row) w (all_row server_ok a i p.servers h) good low);
      once_servers = numbers_distinct (set a i on_server) a (numbers_set a i w) ∙ p.once_servers;
      sources = others_keep a (set a i on_server) (λ d g. numbers_registered d (set a i on_server) a (numbers_set a i w) ∙ g) b p.sources;
      once_sources = p.once_sources;
    }

    pub source_other : i < length b → takes a w ≡ true → Parts a (set b i on_source)
    source_other h good = record {
      few_servers = p.few_servers;
      few_sources = rw (length-set b i on_source) p.few_sources;
      servers = p.servers;
      once_servers = p.once_servers;
      sources = all_set (source_ok a) b i on_source p.sources (source_reworded a (get_or b i no_row) w (all_row (source_ok a) b i p.sources h) good);
      once_sources = numbers_distinct (set b i on_source) b (numbers_set b i w) ∙ p.once_sources;
    }
