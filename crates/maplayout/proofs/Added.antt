-- One row more in the bytes of a stored mapping: the bytes of the mapping with that row. Assumes nothing.
use Prim.Native.Nat.{ℕ, ◌+◌, ◌-◌, ◌*◌, ◌≤◌, ◌<◌}
use native.Mathlib.Omega.{arith}
use mathlib.Core.Path.{◌≡◌, refl, sym, ap, ap₂, ◌∙◌}
use mathlib.Core.List.{List, [], ◌∷◌, ◌++◌, append-nil, append_assoc}
use lib.ListN.{length, take, drop, take-append-drop, length-append, length-drop}
use lib.Seq.{length-take-le}
use Rattle.words.specs.Words.{put_at, bytes_all, bytes_of}
use Rattle.words.proofs.Laws.{length-put_at, length-bytes_of, put_next, put_at-none}
use Rattle.words.proofs.Rows.{length-bytes_all, bytes_all-append}
use Rattle.layout.specs.Layout.{size}
use Rattle.mapping.specs.declared.Device.{Device}
use Rattle.mapping.specs.declared.Collection.{Collection}
use Rattle.mapping.specs.declared.Event.{Event}
use Rattle.mapping.specs.Mapped.{Mapped, empty, inserted_at}
use Rattle.mapping.specs.Commands.{with_devices, with_collections, with_events}
use Rattle.maplayout.specs.MapLayout.{device_bytes, collection_bytes, event_bytes, count_bytes, decode_map, stored_map}
use Rattle.maplayout.specs.Added.{device_added, collection_added, event_added}
use Rattle.maplayout.specs.Sizes.{device_sized, collection_sized, event_sized}
use Rattle.maplayout.proofs.Sizes.{counts_sized}
use Rattle.maplayout.proofs.Stored.{stored_of}
use Rattle.maplayout.proofs.Round.{MapRoom}
use Rattle.maplayout.proofs.Puts.{put_at-swap, put_at-end, put_at-inside}

-- the bytes of no rows are none
pub stored_empty : (s t : List ℕ) → t ≡ put_at s 2352 (bytes_all (bytes_of 8) (0 ∷ 0 ∷ 0 ∷ [])) → t ≡ stored_map empty s
unfolding stored_map count_bytes bytes_all
stored_empty s t e = rw (put_at-none s 3208, put_at-none s 3144, put_at-none s 2376) e

-- one row behind the rest
rows_more : {A : Type 0} (b : A → List ℕ) (l : List A) (x : A) → bytes_all b (l ++ (x ∷ [])) ≡ bytes_all b l ++ b x
unfolding bytes_all
rows_more b l x = bytes_all-append b l (x ∷ []) ∙ ap (λ (r : List ℕ). bytes_all b l ++ r) (append-nil (b x))

-- another word at its place in a run of words
word_put : (s : List ℕ) (at p : ℕ) (ws : List ℕ) (x y : ℕ) (vs : List ℕ) → p ≡ at + length ws * 8 → p + 8 + length vs * 8 ≤ length s
    → put_at (put_at s at (bytes_all (bytes_of 8) (ws ++ (x ∷ vs)))) p (bytes_of 8 y) ≡ put_at s at (bytes_all (bytes_of 8) (ws ++ (y ∷ vs)))
unfolding bytes_all
word_put s at p ws x y vs e h =
    let a = length-bytes_all (bytes_of 8) 8 (length-bytes_of 8) ws in
    let b = length-bytes_all (bytes_of 8) 8 (length-bytes_of 8) vs in
    let m = length-bytes_of 8 x in
    let n = length-bytes_of 8 y in
    let xs = bytes_all (bytes_of 8) ws in
    let rest = bytes_all (bytes_of 8) vs in
    let f : p ≡ at + length xs = omega arith in
    let split : (w : ℕ) → bytes_all (bytes_of 8) (ws ++ (w ∷ vs)) ≡ xs ++ bytes_of 8 w ++ rest =
    λ w. bytes_all-append (bytes_of 8) ws (w ∷ vs) ∙ sym (append_assoc xs (bytes_of 8 w) rest) in
    ap₂ (λ (r : List ℕ) (i : ℕ). put_at (put_at s at r) i (bytes_of 8 y)) (split x) f
    ∙ put_at-inside s at xs (bytes_of 8 x) (bytes_of 8 y) rest (omega arith) (omega arith)
    ∙ ap (put_at s at) (sym (split y))

module _ (k : Mapped) (s : List ℕ) (h : length s ≡ size) (room : MapRoom k) where
  abbrev es : List ℕ
  es = bytes_all event_bytes k.events

  abbrev cs : List ℕ
  cs = bytes_all collection_bytes k.collections

  abbrev ds : List ℕ
  ds = bytes_all device_bytes k.devices

  e_long : length es ≡ length k.events * 8
  e_long = length-bytes_all event_bytes 8 event_sized k.events

  c_long : length cs ≡ length k.collections * 4
  c_long = length-bytes_all collection_bytes 4 collection_sized k.collections

  d_long : length ds ≡ length k.devices * 24
  d_long = length-bytes_all device_bytes 24 device_sized k.devices

  n_long : length (count_bytes k) ≡ 24
  n_long = counts_sized k

  -- the bytes with the events, then the collections, then the devices
  t : List ℕ
  t = put_at s 3208 es

  u : List ℕ
  u = put_at t 3144 cs

  v : List ℕ
  v = put_at u 2376 ds

  t_long : length t ≡ size
  unfolding t
  t_long = let a = e_long in let b = room.events in length-put_at s 3208 es (omega arith) ∙ h

  u_long : length u ≡ size
  unfolding u
  u_long = let a = c_long in let b = room.collections in let l = t_long in length-put_at t 3144 cs (omega arith) ∙ l

  v_long : length v ≡ size
  unfolding v
  v_long = let a = d_long in let b = room.devices in let l = u_long in length-put_at u 2376 ds (omega arith) ∙ l

  is_stored : stored_map k s ≡ put_at v 2352 (count_bytes k)
  unfolding stored_map t u v
  is_stored = refl

  -- bytes behind the counts, and behind the devices, may be put before those are
  under_counts : (at : ℕ) (bs : List ℕ) → 2376 ≤ at → at + length bs ≤ size → put_at (stored_map k s) at bs ≡ put_at (put_at v at bs) 2352 (count_bytes k)
  under_counts at bs f g =
      let l = v_long in
      let m = n_long in
      ap (λ (x : List ℕ). put_at x at bs) is_stored ∙ sym (put_at-swap v 2352 (count_bytes k) at bs (omega arith) (omega arith))

  under_devices : (at : ℕ) (bs : List ℕ) → 3144 ≤ at → at + length bs ≤ size → put_at v at bs ≡ put_at (put_at u at bs) 2376 ds
  unfolding v
  under_devices at bs f g =
      let l = u_long in
      let m = d_long in
      let r = room.devices in
      sym (put_at-swap u 2376 ds at bs (omega arith) (omega arith))

  under_collections : (at : ℕ) (bs : List ℕ) → 3208 ≤ at → at + length bs ≤ size → put_at u at bs ≡ put_at (put_at t at bs) 3144 cs
  unfolding u
  under_collections at bs f g =
      let l = t_long in
      let m = c_long in
      let r = room.collections in
      sym (put_at-swap t 3144 cs at bs (omega arith) (omega arith))

  pub device_added_lem : (d : Device) → length k.devices < 32
      → put_at (put_at (stored_map k s) (2376 + length k.devices * 24) (device_bytes d)) 2352 (bytes_of 8 (length k.devices + 1))
      ≡ stored_map (with_devices (k.devices ++ (d ∷ [])) k) s
  unfolding t u v count_bytes
  device_added_lem d g =
      let n = length k.devices in
      let at = 2376 + n * 24 in
      let b = device_sized d in
      let lu = u_long in
      let lv = v_long in
      let lp : length (put_at v at (device_bytes d)) ≡ length v = length-put_at v at (device_bytes d) (omega arith) in
      stored_of (with_devices (k.devices ++ (d ∷ [])) k) s t u (put_at v at (device_bytes d)) _ (n + 1) (length k.collections) (length k.events)
      (sym (length-append k.devices (d ∷ []))) refl refl refl refl
      (put_next u v (put_at v at (device_bytes d)) 2376 (n * 24) ds (device_bytes d) d_long (omega arith) refl refl
      ∙ ap (put_at u 2376) (sym (rows_more device_bytes k.devices d)))
      (ap (λ (x : List ℕ). put_at x 2352 (bytes_of 8 (n + 1))) (under_counts at (device_bytes d) (omega arith) (omega arith))
      ∙ word_put (put_at v at (device_bytes d)) 2352 2352 [] n (n + 1) (length k.collections ∷ length k.events ∷ []) (omega arith) (omega arith))

  pub collection_added_lem : (i : ℕ) (c : Collection) → i ≤ length k.collections → length k.collections < 16
      → put_at (put_at (stored_map k s) (3144 + i * 4) (bytes_all collection_bytes (c ∷ drop i k.collections))) 2360 (bytes_of 8 (length k.collections + 1))
      ≡ stored_map (with_collections (inserted_at i c k.collections) k) s
  unfolding t u v count_bytes inserted_at
  collection_added_lem i c f g =
      let l = k.collections in
      let n = length l in
      let at = 3144 + i * 4 in
      let zs = bytes_all collection_bytes (c ∷ drop i l) in
      let xs = bytes_all collection_bytes (take i l) in
      let ys = bytes_all collection_bytes (drop i l) in
      let ld = length-drop i l in
      let lt = length-take-le i l f in
      let lz : length zs ≡ (n - i + 1) * 4 = length-bytes_all collection_bytes 4 collection_sized (c ∷ drop i l) ∙ omega arith in
      let lx : length xs ≡ i * 4 = length-bytes_all collection_bytes 4 collection_sized (take i l) ∙ omega arith in
      let ly : length ys ≡ (n - i) * 4 = length-bytes_all collection_bytes 4 collection_sized (drop i l) ∙ omega arith in
      let lu = t_long in
      let lv = v_long in
      let lp : length (put_at v at zs) ≡ length v = length-put_at v at zs (omega arith) in
      let e : cs ≡ xs ++ ys = ap (bytes_all collection_bytes) (sym (take-append-drop i l)) ∙ bytes_all-append collection_bytes (take i l) (drop i l) in
      let p : at ≡ 3144 + length xs = omega arith in
      let q : length (take i l ++ (c ∷ drop i l)) ≡ n + 1 = length-append (take i l) (c ∷ drop i l) ∙ omega arith in
      stored_of (with_collections (inserted_at i c l) k) s t (put_at u at zs) (put_at v at zs) _ (length k.devices) (n + 1) (length k.events)
      refl (sym q) refl refl
      (ap₂ (λ (x : List ℕ) (y : ℕ). put_at (put_at t 3144 x) y zs) e p
      ∙ put_at-end t 3144 xs ys zs (omega arith) (omega arith)
      ∙ ap (put_at t 3144) (sym (bytes_all-append collection_bytes (take i l) (c ∷ drop i l))))
      (under_devices at zs (omega arith) (omega arith))
      (ap (λ (x : List ℕ). put_at x 2360 (bytes_of 8 (n + 1))) (under_counts at zs (omega arith) (omega arith))
      ∙ word_put (put_at v at zs) 2352 2360 (length k.devices ∷ []) n (n + 1) (length k.events ∷ []) (omega arith) (omega arith))

  pub event_added_lem : (e : Event) → length k.events < 1024
      → put_at (put_at (stored_map k s) (3208 + length k.events * 8) (event_bytes e)) 2368 (bytes_of 8 (length k.events + 1))
      ≡ stored_map (with_events (k.events ++ (e ∷ [])) k) s
  unfolding t u v count_bytes
  event_added_lem e g =
      let n = length k.events in
      let at = 3208 + n * 8 in
      let b = event_sized e in
      let lv = v_long in
      let lp : length (put_at v at (event_bytes e)) ≡ length v = length-put_at v at (event_bytes e) (omega arith) in
      stored_of (with_events (k.events ++ (e ∷ [])) k) s (put_at t at (event_bytes e)) (put_at u at (event_bytes e)) (put_at v at (event_bytes e)) _
      (length k.devices) (length k.collections) (n + 1) refl refl (sym (length-append k.events (e ∷ [])))
      (put_next s t (put_at t at (event_bytes e)) 3208 (n * 8) es (event_bytes e) e_long (omega arith) refl refl
      ∙ ap (put_at s 3208) (sym (rows_more event_bytes k.events e)))
      (under_collections at (event_bytes e) (omega arith) (omega arith))
      (under_devices at (event_bytes e) (omega arith) (omega arith))
      (ap (λ (x : List ℕ). put_at x 2368 (bytes_of 8 (n + 1))) (under_counts at (event_bytes e) (omega arith) (omega arith))
      ∙ word_put (put_at v at (event_bytes e)) 2352 2368 (length k.devices ∷ length k.collections ∷ []) n (n + 1) [] (omega arith) (omega arith))

-- the two stores of one row more
pub device_puts : (s t u : List ℕ) (d : Device) (n : ℕ) → n ≡ length (decode_map s).devices → t ≡ put_at s (2376 + n * 24) (device_bytes d)
    → u ≡ put_at t 2352 (bytes_of 8 (n + 1)) → u ≡ device_added d s
unfolding device_added
device_puts s t u d n l p q =
    q ∙ ap (λ (x : List ℕ). put_at x 2352 (bytes_of 8 (n + 1))) p
    ∙ ap (λ (i : ℕ). put_at (put_at s (2376 + i * 24) (device_bytes d)) 2352 (bytes_of 8 (i + 1))) l

pub collection_puts : (s t u : List ℕ) (i : ℕ) (c : Collection) (n : ℕ) → n ≡ length (decode_map s).collections
    → t ≡ put_at s (3144 + i * 4) (bytes_all collection_bytes (c ∷ drop i (decode_map s).collections))
    → u ≡ put_at t 2360 (bytes_of 8 (n + 1)) → u ≡ collection_added i c s
unfolding collection_added
collection_puts s t u i c n l p q =
    q ∙ ap₂ (λ (x : List ℕ) (m : ℕ). put_at x 2360 (bytes_of 8 (m + 1))) p l

pub event_puts : (s t u : List ℕ) (e : Event) (n : ℕ) → n ≡ length (decode_map s).events → t ≡ put_at s (3208 + n * 8) (event_bytes e)
    → u ≡ put_at t 2368 (bytes_of 8 (n + 1)) → u ≡ event_added e s
unfolding event_added
event_puts s t u e n l p q =
    q ∙ ap (λ (x : List ℕ). put_at x 2368 (bytes_of 8 (n + 1))) p
    ∙ ap (λ (i : ℕ). put_at (put_at s (3208 + i * 8) (event_bytes e)) 2368 (bytes_of 8 (i + 1))) l
