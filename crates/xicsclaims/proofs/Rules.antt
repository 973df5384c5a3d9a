-- `rules`: the test of §14.3 says no more and no less than the rules of §14.12, row by row. Assumes nothing.
use Prim.Native.Nat.{ℕ, ◌≤◌, ◌<◌, ◌^◌}
use native.Mathlib.Omega.{arith}
use mathlib.Core.Path.{◌≡◌, refl, sym, ap, ◌∙◌}
use mathlib.Core.Bool.{true}
use mathlib.Core.Logic.{◌↔◌}
use mathlib.Core.List.{List}
use lib.ListN.{length, get_or}
use lib.Dec.{ltb}
use borrow.Author.Tests.{eqb-true, eq-eqb, ltb-true, lt-ltb}
use Rattle.lists.proofs.All.{from_all, to_all}
use Rattle.lists.proofs.Member.{all_in, all_of, in_at}
use Rattle.fields.specs.Field.{get_field}
use Rattle.xicswords.specs.Word.{destination, narrow, paired}
use Rattle.xicswords.proofs.Meaning.{low_bits, paired_to, paired_from}
use Rattle.xicsrows.specs.XicsLayout.{server, source, Row, table}
use Rattle.xicsrows.specs.Registered.{no_row, index_of, distinct}
use Rattle.xicsrows.proofs.Numbers.{found, found_first, registered_is, once_at, distinct_holds}
use Rattle.xicsrules.specs.Sound.{server_ok, source_ok, takes, sound_xics}
use Rattle.xicsclaims.specs.XicsClaims.{ServerRule, SourceRule, Rules}
use Rattle.xicsrules.proofs.Parts.{both, sound_parts, parts_sound}
use Rattle.xicsclaims.proofs.Found.{in_registered}

-- ---- no number twice

module _ (l : List Row) where
  abbrev number : ℕ → ℕ
  number i = (get_or l i no_row).number

  -- equal numbers stand in one place only, and where they do no number occurs twice
  once_to : distinct l ≡ true → (i j : ℕ) → i < length l → j < length l → number i ≡ number j → i ≡ j
  once_to d i j h g e = sym (once_at l i d h) ∙ ap (λ (k : ℕ). index_of k l) e ∙ once_at l j d g

  once_from : ((i j : ℕ) → i < length l → j < length l → number i ≡ number j → i ≡ j) → distinct l ≡ true
  once_from f = distinct_holds l (λ k h.
      let j = index_of (number k) l in
      let q : j ≤ k = found_first (number k) l k h refl in
      let g : j < length l = omega arith in
      let e : j ≡ k = f j k g h (found (number k) l g) in
      omega arith)

-- ---- a server

-- the test of a server and its rule
server_to : (r : Row) → server_ok r ≡ true → ServerRule r
unfolding server_ok
server_to r h =
    let p = both (ltb r.number (2 ^ 32)) _ h in
    let q = both (paired r.word) _ p.1 in
    record { number = ltb-true _ _ p.0; paired = paired_to r.word q.0; unused = sym (low_bits r.word) ∙ eqb-true _ 0 q.1 }

server_from : (r : Row) → ServerRule r → server_ok r ≡ true
unfolding server_ok
server_from r k =
    rw (lt-ltb r.number (2 ^ 32) k.number, paired_from r.word k.paired, eq-eqb (get_field r.word 0 16) 0 (low_bits r.word ∙ k.unused))

-- ---- a source

-- the test of a source and its rule
module _ (s : List ℕ) (r : Row) where
  source_to : source_ok (table server s) r ≡ true → SourceRule s r
  unfolding source_ok takes
  source_to h =
      let a = table server s in
      let p = both (ltb r.number (2 ^ 20)) _ h in
      let q = both (narrow r.word) _ p.1 in
      let d = destination r.word in
      let i = registered_is d a q.1 in
      record {
        number = ltb-true _ _ p.0;
        narrow = ltb-true _ _ q.0;
        named = (get_or a (index_of d a) no_row, in_at a (index_of d a) no_row i, found d a i);
      }

  source_from : SourceRule s r → source_ok (table server s) r ≡ true
  unfolding source_ok takes
  source_from k =
      rw (lt-ltb r.number (2 ^ 20) k.number, lt-ltb r.word (2 ^ 43) k.narrow)
      (in_registered (destination r.word) (table server s) k.named.0 k.named.1 k.named.2)

-- ---- both tables

-- the test and the rules
rules_to : (s : List ℕ) → sound_xics s ≡ true → Rules s
rules_to s h =
    let a = table server s in
    let b = table source s in
    let p = sound_parts s h in
    record {
      servers = record { few = p.few_servers; once = once_to a p.once_servers };
      sources = record { few = p.few_sources; once = once_to b p.once_sources };
      server = λ r m. server_to r (all_in a (from_all server_ok a p.servers) m);
      source = λ r m. source_to s r (all_in b (from_all (source_ok a) b p.sources) m);
    }

rules_from : (s : List ℕ) → Rules s → sound_xics s ≡ true
rules_from s k =
    let a = table server s in
    let b = table source s in
    parts_sound s (record {
      few_servers = k.servers.few;
      few_sources = k.sources.few;
      servers = to_all server_ok a (all_of a (λ r m. server_from r (k.server r m)));
      once_servers = once_from a k.servers.once;
      sources = to_all (source_ok a) b (all_of b (λ r m. source_from s r (k.source r m)));
      once_sources = once_from b k.sources.once;
    })

-- §14.12
pub rules : (s : List ℕ) → (sound_xics s ≡ true) ↔ Rules s
rules s = (rules_to s, rules_from s)
