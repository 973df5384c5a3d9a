-- `makes` and `stays`: set-up makes sound bytes of any that have the right length, and no call leaves them otherwise. Assumes nothing.
use Prim.Native.Nat.{ℕ, ◌<◌, ◌^◌}
use native.Mathlib.Omega.{arith}
use mathlib.Core.Path.{◌≡◌, refl, ◌∙◌}
use mathlib.Core.Bool.{true}
use mathlib.Core.List.{List, []}
use lib.ListN.{length}
use lib.Dec.{eqb}
use borrow.Author.Tests.{eq-eqb, lt-ltb}
use Rattle.lists.specs.Rows.{all}
use Rattle.words.specs.Words.{le}
use Rattle.words.proofs.Bytes.{Bytes, le_bound}
use Rattle.calls.specs.Call.{Reply, value_of}
use Rattle.xicswords.specs.Word.{trimmed, fresh_server, fresh_source}
use Rattle.xicsrows.specs.XicsLayout.{size, server, source, Row, table, added, worded, cleared}
use Rattle.xicsrows.specs.Registered.{index_of, registered, distinct}
use Rattle.xicsrows.proofs.Numbers.{registered_is}
use Rattle.xicsrows.proofs.Written.{length_cleared, bytes_cleared, servers_cleared, sources_cleared}
use Rattle.xicsrules.specs.Sound.{takes, SoundXics}
use Rattle.xics.specs.declared.XicsChange.TheVariants.{AddServer, AddSource, SetSource, SetServer}
use Rattle.xics.specs.Calls.{set_up_xics}
use Rattle.xics.specs.XicsStep.{XicsCall, xics_step, xics_len, xics_setup, add_server, add_source, set_source, set_server, get_source, get_server, deliverable}
use Rattle.xicsclaims.specs.XicsClaims.{Made}
use Rattle.kept.proofs.Choice.{chosen}
use Rattle.xicsclaims.proofs.Guard.{change_by}
use Rattle.xicsrules.proofs.Parts.{Parts, Holds, holds_sound}
use Rattle.xicsclaims.proofs.Kept.{server_rule, source_rule, server_more, source_more, server_other, source_other}
use Rattle.xicswords.proofs.Meaning.{fresh_paired, fresh_trimmed, fresh_destination, fresh_narrow, trim_paired, trim_trimmed}
use Rattle.xics.proofs.Passes.{NewServer, NewSource, SourceWord, ServerWord, new_server_lem, new_source_lem, source_word_lem, server_word_lem}
use Rattle.xicsclaims.proofs.Changes.{parts, server_added, source_added, source_worded, server_worded}

-- ---- set-up

-- no row breaks no rule
no_rows : Parts [] []
unfolding all distinct
no_rows = record { few_servers = omega arith; few_sources = omega arith; servers = refl; once_servers = refl; sources = refl; once_sources = refl }

-- what set-up leaves has no row
cleared_holds : (s : List ℕ) → Bytes s → length s ≡ size → Holds (cleared s) [] []
cleared_holds s b l = record {
  bytes = bytes_cleared s l b;
  long = length_cleared s l ∙ l;
  servers = servers_cleared s l;
  sources = sources_cleared s l;
}

-- §14.4, §14.14
pub makes : (s v : List ℕ) → Bytes s → length s ≡ size → Made s v
unfolding set_up_xics
makes s v b l =
    let h = cleared_holds s b l in
    let e : eqb (length s) size ≡ true = eq-eqb (length s) size l in
    record {
      accepted = rw e;
      sound = rw e (holds_sound h no_rows);
      servers = rw e h.servers;
      sources = rw e h.sources;
    }

-- ---- calls on a sound XICS

-- the number of a value of 8 bytes, which is a word
pub value_is : (v : List ℕ) → length v ≡ 8 → value_of v ≡ le v
unfolding value_of
value_is v h = rw h

pub value_bound : (v : List ℕ) → Bytes v → length v ≡ 8 → value_of v < 2 ^ 64
value_bound v b h = rw (value_is v h) (le_bound 8 v b (omega arith))

-- the word of a source that is registered with server d is one that §14.9 takes
fresh_taken : (a : List Row) (d : ℕ) → d < 2 ^ 32 → registered d a ≡ true → takes a (fresh_source d) ≡ true
unfolding takes
fresh_taken a d h r = rw (lt-ltb (fresh_source d) (2 ^ 43) (fresh_narrow d h), fresh_destination d h) r

-- each of the four calls that may change an XICS, where all of its tests passed
module _ (s : List ℕ) (ok : SoundXics s) where
  pub server_added_sound : (n : ℕ) → NewServer n (table server s) → SoundXics (added server n fresh_server s)
  server_added_sound n t =
      holds_sound (server_added s ok n t)
      (server_more (table server s) (table source s) (parts s ok) n fresh_server t.room t.fresh
      (server_rule n fresh_server t.number fresh_paired fresh_trimmed))

  pub source_added_sound : (n d : ℕ) → NewSource n d (table server s) (table source s) → SoundXics (added source n (fresh_source d) s)
  source_added_sound n d t =
      holds_sound (source_added s ok n d t)
      (source_more (table server s) (table source s) (parts s ok) n (fresh_source d) t.room t.fresh
      (source_rule (table server s) n (fresh_source d) t.number (fresh_taken (table server s) d t.server t.known)))

  pub source_worded_sound : (n width w : ℕ) → SourceWord n width w (table server s) (table source s) → SoundXics (worded source (index_of n (table source s)) w s)
  source_worded_sound n width w t =
      holds_sound (source_worded s ok n width w t)
      (source_other (table server s) (table source s) (parts s ok) (index_of n (table source s)) w (registered_is n (table source s) t.known) t.taken)

  pub server_worded_sound : (n width v : ℕ) → v < 2 ^ 64 → ServerWord n width v (table server s) → SoundXics (worded server (index_of n (table server s)) (trimmed v) s)
  server_worded_sound n width v h t =
      holds_sound (server_worded s ok n width v h t)
      (server_other (table server s) (table source s) (parts s ok) (index_of n (table server s)) (trimmed v) (registered_is n (table server s) t.known)
      (trim_paired v ∙ t.taken) (trim_trimmed v))

  -- set-up reads nothing of what stood there
  cleared_sound : SoundXics (set_up_xics s).lent
  unfolding set_up_xics
  cleared_sound =
      chosen (λ (r : Reply). SoundXics r.lent) (eqb (length s) size) (holds_sound (cleared_holds s ok.bytes ok.long) no_rows) ok

-- §14.14
pub stays : (c : XicsCall) (s v : List ℕ) → Bytes v → SoundXics s → SoundXics (xics_step c s v).state
stays xics_len s v b ok = ok
stays xics_setup s v b ok = cleared_sound s ok
stays (add_server n) s v b ok =
    change_by (AddServer n) s ok (λ (r : Reply). SoundXics r.lent)
    (λ e. server_added_sound s ok n (new_server_lem n (table server s) e)) (λ e. ok)
stays (add_source n d) s v b ok =
    change_by (AddSource n d) s ok (λ (r : Reply). SoundXics r.lent)
    (λ e. source_added_sound s ok n d (new_source_lem n d (table server s) (table source s) e)) (λ e. ok)
stays (set_source n) s v b ok =
    change_by (SetSource n (length v) (value_of v)) s ok (λ (r : Reply). SoundXics r.lent)
    (λ e. source_worded_sound s ok n (length v) (value_of v) (source_word_lem n (length v) (value_of v) (table server s) (table source s) e)) (λ e. ok)
stays (set_server n) s v b ok =
    change_by (SetServer n (length v) (value_of v)) s ok (λ (r : Reply). SoundXics r.lent)
    (λ e. let t = server_word_lem n (length v) (value_of v) (table server s) e in
    server_worded_sound s ok n (length v) (value_of v) (value_bound v b t.wide) t) (λ e. ok)
stays (get_source n) s v b ok = ok
stays (get_server n) s v b ok = ok
stays (deliverable n) s v b ok = ok
