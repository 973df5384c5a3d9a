-- A good machine and a mapping that keeps the rules, stored in bytes, leave sound bytes.
use Prim.Native.Nat.{ℕ, ◌≤◌}
use native.Mathlib.Omega.{arith}
use mathlib.Core.Path.{◌≡◌, ap, ap₂, ◌∙◌}
use mathlib.Core.Bool.{true}
use mathlib.Core.List.{List}
use lib.ListN.{length, drop}
use borrow.Author.Tests.{le-leb}
use Rattle.words.specs.Words.{le_at}
use Rattle.words.proofs.Bytes.{Bytes}
use Rattle.words.proofs.Rows.{length-rows_of}
use Rattle.guest.specs.Machine.{Machine, shared_count}
use Rattle.rules.specs.Rules.{rules}
use Rattle.rules.proofs.Facts.{sound_frames, sound_vcpus, sound_shared, sound_irqs}
use Rattle.layout.specs.Layout.{size, decode, stored, counts_ok, region_of, vcpu_of, bank_of}
use Rattle.layout.proofs.Round.{Room, length_stored, decode_stored, bytes_stored}
use Rattle.layout.proofs.Typed.{decode_words}
use Rattle.mapping.specs.Mapped.{Mapped, empty}
use Rattle.mapping.specs.MapRules.{map_rules}
use Rattle.maplayout.specs.MapLayout.{device_of, collection_of, event_of, decode_map, stored_map, map_counts_ok}
use Rattle.maplayout.proofs.Round.{MapRoom, length-stored_map, guest_counts_kept, guest_kept, decode-stored_map, bytes-stored_map, map_kept, map_counts_kept}
use Rattle.mapkept.proofs.Placing as placing
use Rattle.mapkept.proofs.Words.{mapping_words}
use Rattle.kept.specs.Good.{Good}
use Rattle.kept.proofs.Choice.{and_both}
use Rattle.state.proofs.Meaning.{sound_says}
use Rattle.state.specs.Sound.{sound, Sound}

-- the rules bound the rows of each table
pub room : (m : Machine) → rules m ≡ true → Room m
room m h =
    let e = sound_shared m h in
    let q = (sound_irqs m h).most in
    record { regions = (sound_frames m h).few; vcpus = (sound_vcpus m h).few; shared = omega arith }

pub map_room : (m : Machine) (k : Mapped) → rules m ≡ true → map_rules m k ≡ true → MapRoom k
map_room m k h e =
    let s = placing.sound m k h e in
    record { collections = s.few_collections; devices = s.few_devices; events = s.few_events }

-- the counts that bytes hold are the numbers of rows of the machine that they stand for
pub counts_of : (t : List ℕ) (m : Machine) → decode t ≡ m → Room m → counts_ok t ≡ true
unfolding counts_ok decode
counts_of t m e r =
    let lr = length-rows_of region_of 16 (le_at t 168 8) (drop 184 t) in
    let lv = length-rows_of vcpu_of 20 (le_at t 176 8) (drop 696 t) in
    let lb = length-rows_of bank_of 12 (shared_count (le_at t 40 8)) (drop 1976 t) in
    let er = ap (λ (x : Machine). length x.regions) e in
    let ev = ap (λ (x : Machine). length x.vcpus) e in
    let eb = ap (λ (x : Machine). length x.shared) e in
    let a : le_at t 168 8 ≤ 32 = rw (← lr, er) r.regions in
    let b : le_at t 176 8 ≤ 64 = rw (← lv, ev) r.vcpus in
    let c : shared_count (le_at t 40 8) ≤ 31 = rw (← lb, eb) r.shared in
    and_both (le-leb _ _ a) (and_both (le-leb _ _ b) (le-leb _ _ c))

-- and those of its mapping
map_counts_of : (t : List ℕ) (k : Mapped) → decode_map t ≡ k → MapRoom k → map_counts_ok t ≡ true
unfolding map_counts_ok decode_map
map_counts_of t k e r =
    let ld = length-rows_of device_of 24 (le_at t 2352 8) (drop 2376 t) in
    let lc = length-rows_of collection_of 4 (le_at t 2360 8) (drop 3144 t) in
    let le = length-rows_of event_of 8 (le_at t 2368 8) (drop 3208 t) in
    let ed = ap (λ (x : Mapped). length x.devices) e in
    let ec = ap (λ (x : Mapped). length x.collections) e in
    let ee = ap (λ (x : Mapped). length x.events) e in
    let a : le_at t 2352 8 ≤ 32 = rw (← ld, ed) r.devices in
    let b : le_at t 2360 8 ≤ 16 = rw (← lc, ec) r.collections in
    let c : le_at t 2368 8 ≤ 1024 = rw (← le, ee) r.events in
    and_both (le-leb _ _ a) (and_both (le-leb _ _ b) (le-leb _ _ c))

-- what sound bytes say
pub record Says (s : List ℕ) : Type 0 where
  pub counts : counts_ok s ≡ true
  pub map_counts : map_counts_ok s ≡ true
  pub good : Good (decode s)
  pub mapped : map_rules (decode s) (decode_map s) ≡ true

pub says : (s : List ℕ) → Sound s → Says s
says s h =
    let p = sound_says s h.rules in
    record {
      counts = p.counts;
      map_counts = p.map_counts;
      good = record { words = decode_words s h.bytes; rules = p.rules };
      mapped = p.mapped;
    }

-- a machine stored over bytes whose mapping keeps its rules
module _ (m : Machine) (s : List ℕ) (l : length s ≡ size) (g : Good m) where
  pub stored_is : decode (stored m s) ≡ m
  stored_is = decode_stored m s l (room m g.rules) g.words (sound_shared m g.rules)

  pub stored_map_lem : decode_map (stored m s) ≡ decode_map s
  stored_map_lem = map_kept m s l (room m g.rules)

  pub stored_sound : Bytes s → map_counts_ok s ≡ true → map_rules m (decode_map s) ≡ true → Sound (stored m s)
  unfolding sound
  stored_sound b c e =
      let r = room m g.rules in
      record {
        bytes = bytes_stored m s b;
        long = length_stored m s l r;
        rules =
            and_both (counts_of (stored m s) m stored_is r)
            (and_both (map_counts_kept m s l r ∙ c)
            (and_both (ap rules stored_is ∙ g.rules) (ap₂ map_rules stored_is stored_map_lem ∙ e)));
      }

-- a mapping stored over bytes whose guest it fits
module _ (k : Mapped) (s : List ℕ) (l : length s ≡ size) (c : counts_ok s ≡ true) (r : rules (decode s) ≡ true) (e : map_rules (decode s) k ≡ true) where
  pub mapped_room : MapRoom k
  mapped_room = map_room (decode s) k r e

  pub mapped_is : decode_map (stored_map k s) ≡ k
  mapped_is = decode-stored_map k s l mapped_room (mapping_words (decode s) k r e)

  pub mapped_guest : decode (stored_map k s) ≡ decode s
  mapped_guest = guest_kept k s l mapped_room c

  pub mapped_sound : Bytes s → Sound (stored_map k s)
  unfolding sound
  mapped_sound b =
      record {
        bytes = bytes-stored_map k s b;
        long = length-stored_map k s l mapped_room;
        rules =
            and_both (guest_counts_kept k s l mapped_room ∙ c)
            (and_both (map_counts_of (stored_map k s) k mapped_is mapped_room)
            (and_both (ap rules mapped_guest ∙ r) (ap₂ map_rules mapped_guest mapped_is ∙ e)));
      }

-- both, over any bytes
pub box_sound : (m : Machine) (k : Mapped) (s : List ℕ) → Bytes s → length s ≡ size → Good m → map_rules m k ≡ true → Sound (stored_map k (stored m s))
box_sound m k s b l g e =
    let r = room m g.rules in
    let d = stored_is m s l g in
    mapped_sound k (stored m s) (length_stored m s l r) (counts_of (stored m s) m d r) (ap rules d ∙ g.rules)
    (ap (λ (x : Machine). map_rules x k) d ∙ e)
    (bytes_stored m s b)

-- a machine over bytes that got no mapping
module _ (m : Machine) (s : List ℕ) (l : length s ≡ size) (g : Good m) where
  empty_room : MapRoom empty
  empty_room = map_room m empty g.rules (placing.empty_ok m g.rules)

  empty_is : decode_map (stored_map empty s) ≡ empty
  empty_is = decode-stored_map empty s l empty_room (mapping_words m empty g.rules (placing.empty_ok m g.rules))

  pub fresh_is : decode (stored m (stored_map empty s)) ≡ m
  fresh_is = stored_is m (stored_map empty s) (length-stored_map empty s l empty_room) g

  pub fresh_map : decode_map (stored m (stored_map empty s)) ≡ empty
  fresh_map = stored_map_lem m (stored_map empty s) (length-stored_map empty s l empty_room) g ∙ empty_is

  pub fresh_sound : Bytes s → Sound (stored m (stored_map empty s))
  fresh_sound b =
      stored_sound m (stored_map empty s) (length-stored_map empty s l empty_room) g (bytes-stored_map empty s b)
      (map_counts_of (stored_map empty s) empty empty_is empty_room)
      (ap (map_rules m) empty_is ∙ placing.empty_ok m g.rules)
