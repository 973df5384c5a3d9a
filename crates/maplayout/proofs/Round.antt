-- Decoding what was stored gives the mapping back; the guest's bytes are as they were, and storing the guest leaves the mapping's.
use Prim.Native.Nat.{ℕ, ◌+◌, ◌*◌, ◌^◌, ◌≤◌, ◌<◌}
use native.Mathlib.Nat.{mul-le-mul_right}
use native.Mathlib.Omega.{arith}
use mathlib.Core.Path.{◌≡◌, refl, sym, ap, ap₂, ◌∙◌}
use mathlib.Core.Bool.{true, ◌&&◌}
use mathlib.Core.List.{List, [], ◌++◌, append-nil}
use lib.ListN.{length, get_or, take, drop}
use lib.Dec.{lit<, leb}
use Rattle.lists.proofs.All.{All, none, more, all_append, all_take, all_drop}
use Rattle.words.specs.Words.{le_at, put_at, rows_of, bytes_all, bytes_of}
use Rattle.words.proofs.Laws.{length-put_at, le_at-drop, drop-put_at-here, drop-put_at-past}
use Rattle.words.proofs.Rows.{length-bytes_all, rows_back}
use Rattle.words.proofs.Back.{words_back}
use Rattle.words.proofs.Bytes.{Bytes, bytes_of-bytes, bytes_all-bytes}
use Rattle.guest.specs.Machine.{Machine, shared_count}
use Rattle.layout.specs.Layout.{size, memory_of, control_of, frames_of, tables_of, region_of, vcpu_of, bank_of, decode, stored, counts_ok}
use Rattle.layout.proofs.Counts.{counts}
use Rattle.layout.proofs.Round.{Room, past_stored}
use Rattle.mapping.specs.declared.Device.{Device}
use Rattle.mapping.specs.declared.Collection.{Collection}
use Rattle.mapping.specs.declared.Event.{Event}
use Rattle.mapping.specs.Mapped.{Mapped}
use Rattle.mapping.specs.MapWords.{MapWords, DeviceWords, CollectionWords, EventWords}
use Rattle.maplayout.specs.MapLayout.{device_of, device_bytes, device_words, collection_of, collection_bytes, collection_words, event_of, event_bytes, event_words, count_words, count_bytes, decode_map, stored_map, map_counts_ok}
use Rattle.maplayout.specs.Sizes.{device_sized, collection_sized, event_sized}
use Rattle.maplayout.proofs.Sizes.{counts_sized}
use Rattle.words.proofs.Alike.{take-put_at-before, le_at-alike, rows_alike, drop_alike, le_at-alike-past}

-- number k of a run of numbers that nothing follows
word_of : (n : ℕ) (ws : List ℕ) (k : ℕ) → All (λ w. w < 256 ^ n) ws → k < length ws → le_at (bytes_all (bytes_of n) ws) (k * n) n ≡ get_or ws k 0
word_of n ws k a h = ap (λ (t : List ℕ). le_at t (k * n) n) (sym (append-nil (bytes_all (bytes_of n) ws))) ∙ words_back n ws [] k a h

device_back : (d : Device) → DeviceWords d → device_of (device_bytes d) ≡ d
unfolding device_of device_bytes
device_back d w =
    let at : (k : ℕ) → k < 3 → le_at (bytes_all (bytes_of 8) (device_words d)) (k * 8) 8 ≡ get_or (device_words d) k 0 =
    λ k h. word_of 8 (device_words d) k (more w.id (more w.itt (more w.bits none))) h in
    λ i. record { id = at 0 (lit< tt) i; itt = at 1 (lit< tt) i; bits = at 2 (lit< tt) i }

collection_back : (c : Collection) → CollectionWords c → collection_of (collection_bytes c) ≡ c
unfolding collection_of collection_bytes
collection_back c w =
    let at : (k : ℕ) → k < 2 → le_at (bytes_all (bytes_of 2) (collection_words c)) (k * 2) 2 ≡ get_or (collection_words c) k 0 =
    λ k h. word_of 2 (collection_words c) k (more w.icid (more w.pe none)) h in
    λ i. record { icid = at 0 (lit< tt) i; pe = at 1 (lit< tt) i }

event_back : (e : Event) → EventWords e → event_of (event_bytes e) ≡ e
unfolding event_of event_bytes
event_back e w =
    let at : (k : ℕ) → k < 4 → le_at (bytes_all (bytes_of 2) (event_words e)) (k * 2) 2 ≡ get_or (event_words e) k 0 =
    λ k h. word_of 2 (event_words e) k (more w.device (more w.event (more w.lpi (more w.icid none)))) h in
    λ i. record { device = at 0 (lit< tt) i; event = at 1 (lit< tt) i; lpi = at 2 (lit< tt) i; icid = at 3 (lit< tt) i }

-- the rows of each table are within the room for them
pub record MapRoom (k : Mapped) : Type 0 where
  pub collections : length k.collections ≤ 16
  pub devices : length k.devices ≤ 32
  pub events : length k.events ≤ 1024

-- n rows of z bytes, at most c of them, take at most c * z bytes
rows_within : {A : Type 0} (b : A → List ℕ) (z : ℕ) → ((x : A) → length (b x) ≡ z) → (l : List A) (c : ℕ) → length l ≤ c → length (bytes_all b l) ≤ c * z
rows_within b z sized l c h = let e = length-bytes_all b z sized l in let f : length l * z ≤ c * z = mul-le-mul_right z h in omega arith

module _ (k : Mapped) (s : List ℕ) (h : length s ≡ size) (room : MapRoom k) where
  es₀ : List ℕ
  es₀ = bytes_all event_bytes k.events

  cs₀ : List ℕ
  cs₀ = bytes_all collection_bytes k.collections

  ds₀ : List ℕ
  ds₀ = bytes_all device_bytes k.devices

  ns₀ : List ℕ
  ns₀ = count_bytes k

  e_long : length es₀ ≤ 8192
  unfolding es₀
  e_long = rows_within event_bytes 8 event_sized k.events 1024 room.events

  c_long : length cs₀ ≤ 64
  unfolding cs₀
  c_long = rows_within collection_bytes 4 collection_sized k.collections 16 room.collections

  d_long : length ds₀ ≤ 768
  unfolding ds₀
  d_long = rows_within device_bytes 24 device_sized k.devices 32 room.devices

  n_long : length ns₀ ≡ 24
  unfolding ns₀
  n_long = counts_sized k

  t : List ℕ
  t = put_at s 3208 es₀

  u : List ℕ
  u = put_at t 3144 cs₀

  v : List ℕ
  v = put_at u 2376 ds₀

  is_stored : stored_map k s ≡ put_at v 2352 ns₀
  unfolding stored_map t u v es₀ cs₀ ds₀ ns₀
  is_stored = refl

  t_long : length t ≡ size
  unfolding t
  t_long = let a = e_long in length-put_at s 3208 es₀ (omega arith) ∙ h

  u_long : length u ≡ size
  unfolding u
  u_long = let a = c_long in let e = t_long in length-put_at t 3144 cs₀ (omega arith) ∙ t_long

  v_long : length v ≡ size
  unfolding v
  v_long = let a = d_long in let e = u_long in length-put_at u 2376 ds₀ (omega arith) ∙ u_long

  pub length-stored_map : length (stored_map k s) ≡ size
  length-stored_map = let a = n_long in let e = v_long in ap length is_stored ∙ length-put_at v 2352 ns₀ (omega arith) ∙ v_long

  -- what lies before the mapping is as it was
  pub before_stored : take 2352 (stored_map k s) ≡ take 2352 s
  unfolding t u v
  before_stored =
      let et = t_long in
      let eu = u_long in
      let ev = v_long in
      ap (take 2352) is_stored
      ∙ take-put_at-before v 2352 ns₀ 2352 (omega arith) (omega arith)
      ∙ take-put_at-before u 2376 ds₀ 2352 (omega arith) (omega arith)
      ∙ take-put_at-before t 3144 cs₀ 2352 (omega arith) (omega arith)
      ∙ take-put_at-before s 3208 es₀ 2352 (omega arith) (omega arith)

  counts_past : (i : ℕ) → 2376 ≤ i → i ≤ size → drop i (stored_map k s) ≡ drop i v
  counts_past i a b =
      let e = v_long in
      let f = n_long in
      ap (drop i) is_stored ∙ drop-put_at-past v 2352 ns₀ i (omega arith) (omega arith)

  devices_past : (i : ℕ) → 3144 ≤ i → i ≤ size → drop i v ≡ drop i u
  unfolding v
  devices_past i a b = let e = u_long in let f = d_long in drop-put_at-past u 2376 ds₀ i (omega arith) (omega arith)

  at_events : drop 3208 (stored_map k s) ≡ es₀ ++ drop (3208 + length es₀) s
  unfolding t u
  at_events =
      let e = t_long in
      let f = c_long in
      counts_past 3208 (omega arith) (omega arith) ∙ devices_past 3208 (omega arith) (omega arith)
      ∙ drop-put_at-past t 3144 cs₀ 3208 (omega arith) (omega arith) ∙ drop-put_at-here s 3208 es₀ (omega arith)

  at_collections : drop 3144 (stored_map k s) ≡ cs₀ ++ drop (3144 + length cs₀) t
  unfolding u
  at_collections =
      let e = t_long in
      counts_past 3144 (omega arith) (omega arith) ∙ devices_past 3144 (omega arith) (omega arith) ∙ drop-put_at-here t 3144 cs₀ (omega arith)

  at_devices : drop 2376 (stored_map k s) ≡ ds₀ ++ drop (2376 + length ds₀) u
  unfolding v
  at_devices = let e = u_long in counts_past 2376 (omega arith) (omega arith) ∙ drop-put_at-here u 2376 ds₀ (omega arith)

  at_counts : drop 2352 (stored_map k s) ≡ ns₀ ++ drop (2352 + length ns₀) v
  at_counts = let e = v_long in ap (drop 2352) is_stored ∙ drop-put_at-here v 2352 ns₀ (omega arith)

  count_at_lem : (i : ℕ) → i < 3 → le_at (stored_map k s) (2352 + i * 8) 8 ≡ get_or (count_words k) i 0
  unfolding ns₀ count_bytes
  count_at_lem i g =
      let a = room.devices in
      let b = room.collections in
      let c = room.events in
      sym (le_at-drop (stored_map k s) 2352 (i * 8) 8)
      ∙ ap (λ (x : List ℕ). le_at x (i * 8) 8) at_counts
      ∙ words_back 8 (count_words k) (drop (2352 + length ns₀) v) i (more (omega arith) (more (omega arith) (more (omega arith) none))) g

  word_kept : (at : ℕ) → at + 8 ≤ 2352 → le_at (stored_map k s) at 8 ≡ le_at s at 8
  word_kept at g = le_at-alike (stored_map k s) s 2352 before_stored at 8 g

  -- the guest's part stands as it stood
  pub guest_counts_kept : counts_ok (stored_map k s) ≡ counts_ok s
  unfolding counts_ok
  guest_counts_kept =
      let w = word_kept in
      λ i. leb (w 168 (omega arith) i) 32 && (leb (w 176 (omega arith) i) 64 && leb (shared_count (w 40 (omega arith) i)) 31)

  pub guest_kept : counts_ok s ≡ true → decode (stored_map k s) ≡ decode s
  unfolding decode memory_of control_of frames_of tables_of
  guest_kept ok =
      let n = counts (stored_map k s) (guest_counts_kept ∙ ok) in
      let w = word_kept in
      let r = rows_alike (stored_map k s) s 2352 before_stored region_of 16 _ _ 184 (w 168 (omega arith)) (omega arith) in
      let c = rows_alike (stored_map k s) s 2352 before_stored vcpu_of 20 _ _ 696 (w 176 (omega arith)) (omega arith) in
      let b = rows_alike (stored_map k s) s 2352 before_stored bank_of 12 _ _ 1976 (ap shared_count (w 40 (omega arith))) (omega arith) in
      λ i. record {
        memory = record { width = w 0 (omega arith) i; start = w 8 (omega arith) i; length = w 16 (omega arith) i };
        control = record {
          init = w 24 (omega arith) i;
          running = w 32 (omega arith) i;
          irqs = w 40 (omega arith) i;
          irqsset = w 48 (omega arith) i;
          status = w 56 (omega arith) i;
          itsinit = w 64 (omega arith) i;
        };
        frames = record {
          distributor = record { set = w 72 (omega arith) i; base = w 80 (omega arith) i };
          single = record { set = w 88 (omega arith) i; base = w 96 (omega arith) i };
          its = record { set = w 104 (omega arith) i; base = w 112 (omega arith) i };
        };
        regions = r i;
        vcpus = c i;
        shared = b i;
        tables = record {
          devices = record { set = w 120 (omega arith) i; start = w 128 (omega arith) i; pages = w 136 (omega arith) i };
          collections = record { set = w 144 (omega arith) i; start = w 152 (omega arith) i; pages = w 160 (omega arith) i };
        };
      }

  module _ (w : MapWords k) where
    devices_back : rows_of device_of 24 (le_at (stored_map k s) 2352 8) (drop 2376 (stored_map k s)) ≡ k.devices
    unfolding ds₀
    devices_back =
        ap₂ (λ (n : ℕ) (x : List ℕ). rows_of device_of 24 n x) (count_at_lem 0 (lit< tt)) at_devices
        ∙ rows_back device_bytes 24 device_sized device_of DeviceWords device_back k.devices _ w.devices

    collections_back : rows_of collection_of 4 (le_at (stored_map k s) 2360 8) (drop 3144 (stored_map k s)) ≡ k.collections
    unfolding cs₀
    collections_back =
        ap₂ (λ (n : ℕ) (x : List ℕ). rows_of collection_of 4 n x) (count_at_lem 1 (lit< tt)) at_collections
        ∙ rows_back collection_bytes 4 collection_sized collection_of CollectionWords collection_back k.collections _ w.collections

    events_back : rows_of event_of 8 (le_at (stored_map k s) 2368 8) (drop 3208 (stored_map k s)) ≡ k.events
    unfolding es₀
    events_back =
        ap₂ (λ (n : ℕ) (x : List ℕ). rows_of event_of 8 n x) (count_at_lem 2 (lit< tt)) at_events
        ∙ rows_back event_bytes 8 event_sized event_of EventWords event_back k.events _ w.events

    pub decode-stored_map : decode_map (stored_map k s) ≡ k
    unfolding decode_map
    decode-stored_map =
        let cs = collections_back in
        let ds = devices_back in
        let es = events_back in
        λ i. record { collections = cs i; devices = ds i; events = es i }

-- storing bytes among bytes gives bytes
bytes-put_at : (s : List ℕ) (at : ℕ) (bs : List ℕ) → Bytes s → Bytes bs → Bytes (put_at s at bs)
unfolding put_at
bytes-put_at s at bs a b = all_append (take at s ++ bs) (all_append (take at s) (all_take at s a) b) (all_drop (at + length bs) s a)

pub bytes-stored_map : (k : Mapped) (s : List ℕ) → Bytes s → Bytes (stored_map k s)
unfolding stored_map count_bytes device_bytes collection_bytes event_bytes
bytes-stored_map k s a =
    bytes-put_at _ 2352 _ (bytes-put_at _ 2376 _ (bytes-put_at _ 3144 _ (bytes-put_at s 3208 _ a
    (bytes_all-bytes _ (λ e. bytes_all-bytes (bytes_of 2) (bytes_of-bytes 2) (event_words e)) k.events))
    (bytes_all-bytes _ (λ c. bytes_all-bytes (bytes_of 2) (bytes_of-bytes 2) (collection_words c)) k.collections))
    (bytes_all-bytes _ (λ d. bytes_all-bytes (bytes_of 8) (bytes_of-bytes 8) (device_words d)) k.devices))
    (bytes_all-bytes (bytes_of 8) (bytes_of-bytes 8) (count_words k))

-- the mapping's part is read from 2,352 on
module _ (s t : List ℕ) (same : drop 2352 s ≡ drop 2352 t) where
  count_alike : (at : ℕ) → 2352 ≤ at → le_at s at 8 ≡ le_at t at 8
  count_alike at g = le_at-alike-past s t 2352 same at 8 g

  map_alike : decode_map s ≡ decode_map t
  unfolding decode_map
  map_alike =
      let w = count_alike in
      let d : (at : ℕ) → 2352 ≤ at → drop at s ≡ drop at t = drop_alike s t 2352 same in
      λ i. record {
        collections = rows_of collection_of 4 (w 2360 (omega arith) i) (d 3144 (omega arith) i);
        devices = rows_of device_of 24 (w 2352 (omega arith) i) (d 2376 (omega arith) i);
        events = rows_of event_of 8 (w 2368 (omega arith) i) (d 3208 (omega arith) i);
      }

  map_counts_alike : map_counts_ok s ≡ map_counts_ok t
  unfolding map_counts_ok
  map_counts_alike =
      let w = count_alike in
      λ i. leb (w 2352 (omega arith) i) 32 && (leb (w 2360 (omega arith) i) 16 && leb (w 2368 (omega arith) i) 1024)

-- storing the guest leaves the mapping as it stood
module _ (m : Machine) (s : List ℕ) (h : length s ≡ size) (room : Room m) where
  pub map_kept : decode_map (stored m s) ≡ decode_map s
  map_kept = map_alike (stored m s) s (past_stored m s h room 2352 (omega arith) (omega arith))

  pub map_counts_kept : map_counts_ok (stored m s) ≡ map_counts_ok s
  map_counts_kept = map_counts_alike (stored m s) s (past_stored m s h room 2352 (omega arith) (omega arith))
