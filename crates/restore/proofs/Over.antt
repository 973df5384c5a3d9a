-- Bytes with the mapping that was read so far: what they stand for, and one row more. Assumes nothing.
use Prim.Native.Nat.{ℕ, ◌+◌, ◌*◌, ◌≤◌, ◌<◌}
use native.Mathlib.Omega.{arith}
use mathlib.Core.Path.{◌≡◌, refl, ap, ap₂, ◌∙◌}
use mathlib.Core.Bool.{true}
use mathlib.Core.List.{List, [], ◌∷◌, ◌++◌}
use lib.ListN.{length, take, drop, length-append, length-drop}
use lib.Seq.{length-take-le}
use borrow.Author.Tests.{le-leb}
use Rattle.lists.specs.Rows.{all}
use Rattle.lists.proofs.All.{none, more, all_append, all_take, all_drop, from_all, to_all}
use Rattle.words.specs.Words.{le_at, put_at, bytes_of, bytes_all}
use Rattle.rules.specs.Rules.{rules}
use Rattle.mapping.specs.declared.Device.{Device}
use Rattle.mapping.specs.declared.Collection.{Collection}
use Rattle.mapping.specs.declared.Event.{Event}
use Rattle.mapping.specs.Mapped.{Mapped, empty, inserted_at}
use Rattle.mapping.specs.Commands.{with_devices, with_collections, with_events}
use Rattle.mapping.specs.MapWords.{DeviceWords, CollectionWords, EventWords}
use Rattle.layout.specs.Layout.{decode, counts_ok}
use Rattle.layout.specs.Layout as Layout
use Rattle.maplayout.specs.MapLayout.{device_bytes, collection_bytes, event_bytes, decode_map, stored_map, map_counts_ok}
use Rattle.maplayout.specs.MapLayout as MapLayout
use Rattle.maplayout.specs.Added.{device_added, collection_added, event_added}
use Rattle.maplayout.proofs.InPlace.{device_count, collection_count, event_count}
use Rattle.maplayout.proofs.Round.{length-stored_map, guest_counts_kept, guest_kept, decode-stored_map}
use Rattle.maplayout.proofs.Added.{device_added_lem, collection_added_lem, event_added_lem}
use Rattle.restore.specs.Begun.{Over, Begun}
use Rattle.restore.specs.Parts.{few_bits}

module _ {s₀ : List ℕ} {k : Mapped} {s : List ℕ} (o : Over s₀ k s) where
  -- the guest is the one of s₀, and the mapping is k
  pub same_guest : decode s ≡ decode s₀
  same_guest = ap decode o.is ∙ guest_kept k s₀ o.guest.long o.room o.guest.counts

  pub same_rows : decode_map s ≡ k
  same_rows = ap decode_map o.is ∙ decode-stored_map k s₀ o.guest.long o.room o.words

  pub guest_counted : Layout.Counted s
  guest_counted = record {
    long = ap length o.is ∙ length-stored_map k s₀ o.guest.long o.room;
    counts = ap counts_ok o.is ∙ guest_counts_kept k s₀ o.guest.long o.room ∙ o.guest.counts;
  }

  pub counted : MapLayout.Counted s
  unfolding map_counts_ok
  counted =
      let e = same_rows in
      let r = o.room in
      let d : le_at s 2352 8 ≡ length k.devices = device_count s ∙ ap (λ (x : Mapped). length x.devices) e in
      let c : le_at s 2360 8 ≡ length k.collections = collection_count s ∙ ap (λ (x : Mapped). length x.collections) e in
      let n : le_at s 2368 8 ≡ length k.events = event_count s ∙ ap (λ (x : Mapped). length x.events) e in
      record {
        long = guest_counted.long;
        counts =
            rw (d, c, n, le-leb (length k.devices) 32 r.devices, le-leb (length k.collections) 16 r.collections, le-leb (length k.events) 1024 r.events);
      }

  pub few_rows : all few_bits (decode_map s).devices ≡ true
  few_rows = ap (λ (x : Mapped). all few_bits x.devices) same_rows ∙ o.few

  -- a device more
  pub over_device : (d : Device) → DeviceWords d → d.bits ≤ 16 → length k.devices < 32 → (t : List ℕ) → t ≡ device_added d s
      → Over s₀ (with_devices (k.devices ++ (d ∷ [])) k) t
  unfolding device_added
  over_device d w b h t e =
      let l = length-append k.devices (d ∷ []) in
      record {
        guest = o.guest;
        rules = o.rules;
        room = record { collections = o.room.collections; devices = omega arith; events = o.room.events };
        words = record {
          collections = o.words.collections;
          devices = all_append k.devices o.words.devices (more w none);
          events = o.words.events;
        };
        few = to_all few_bits (k.devices ++ (d ∷ [])) (all_append k.devices (from_all few_bits k.devices o.few) (more (le-leb d.bits 16 b) none));
        is =
            e
            ∙ ap₂ (λ (x : List ℕ) (m : Mapped). put_at (put_at x (2376 + length m.devices * 24) (device_bytes d)) 2352 (bytes_of 8 (length m.devices + 1))) o.is same_rows
            ∙ device_added_lem k s₀ o.guest.long o.room d h;
      }

  -- a collection more
  pub over_collection : (i : ℕ) (c : Collection) → CollectionWords c → i ≤ length k.collections → length k.collections < 16
      → (t : List ℕ) → t ≡ collection_added i c s → Over s₀ (with_collections (inserted_at i c k.collections) k) t
  unfolding collection_added inserted_at
  over_collection i c w f h t e =
      let l = k.collections in
      let a = length-append (take i l) (c ∷ drop i l) in
      let b = length-take-le i l f in
      let d = length-drop i l in
      record {
        guest = o.guest;
        rules = o.rules;
        room = record { collections = omega arith; devices = o.room.devices; events = o.room.events };
        words = record {
          collections = all_append (take i l) (all_take i l o.words.collections) (more w (all_drop i l o.words.collections));
          devices = o.words.devices;
          events = o.words.events;
        };
        few = o.few;
        is =
            e
            ∙ ap₂ (λ (x : List ℕ) (m : Mapped). put_at (put_at x (3144 + i * 4) (bytes_all collection_bytes (c ∷ drop i m.collections))) 2360 (bytes_of 8 (length m.collections + 1))) o.is same_rows
            ∙ collection_added_lem k s₀ o.guest.long o.room i c f h;
      }

  -- an event more
  pub over_event : (x : Event) → EventWords x → length k.events < 1024 → (t : List ℕ) → t ≡ event_added x s
      → Over s₀ (with_events (k.events ++ (x ∷ [])) k) t
  unfolding event_added
  over_event x w h t e =
      let l = length-append k.events (x ∷ []) in
      record {
        guest = o.guest;
        rules = o.rules;
        room = record { collections = o.room.collections; devices = o.room.devices; events = omega arith };
        words = record {
          collections = o.words.collections;
          devices = o.words.devices;
          events = all_append k.events o.words.events (more w none);
        };
        few = o.few;
        is =
            e
            ∙ ap₂ (λ (y : List ℕ) (m : Mapped). put_at (put_at y (3208 + length m.events * 8) (event_bytes x)) 2368 (bytes_of 8 (length m.events + 1))) o.is same_rows
            ∙ event_added_lem k s₀ o.guest.long o.room x h;
      }

-- no row yet
pub over_empty : (s₀ s : List ℕ) → Layout.Counted s₀ → rules (decode s₀) ≡ true → s ≡ stored_map empty s₀ → Over s₀ empty s
unfolding all
over_empty s₀ s c r e = record {
  guest = c;
  rules = r;
  room = record { collections = omega arith; devices = omega arith; events = omega arith };
  words = record { collections = none; devices = none; events = none };
  few = refl;
  is = e;
}

-- counts of bytes into which was read are in range
pub begun_counted : (s : List ℕ) → Begun s → MapLayout.Counted s
begun_counted s b = counted b.over

pub begun_long : (s : List ℕ) → Begun s → length s ≡ Layout.size
begun_long s b = (guest_counted b.over).long

pub begun_guest : (s : List ℕ) → Begun s → Layout.Counted s
begun_guest s b = guest_counted b.over
