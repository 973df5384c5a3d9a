-- The laws of the three entries: both round trips, the words' bound, which words are valid, and what the fields hold. Assumes nothing.
use mathlib.Core.Path.{◌≡◌, refl, sym, ap, ◌∙◌}
use mathlib.Core.Bool.{true, false, not}
use Prim.Native.Nat.{ℕ, ◌+◌, ◌-◌, ◌*◌, ◌/◌, ◌^◌, ◌<◌}
use native.Mathlib.Omega.{arith}
use native.Mathlib.Nat.{mod-eq_of_lt}
use borrow.Author.Tests.{eq-eqb, ne_eqb, eqb-true}
use Rattle.fields.specs.Field.{get_field, put_field}
use Rattle.fields.proofs.Laws.{get_lt, get_put, get_above, get_below, put_keeps}
use Rattle.entries.specs.declared.DeviceEntry.{DeviceEntry}
use Rattle.entries.specs.declared.CollectionEntry.{CollectionEntry}
use Rattle.entries.specs.declared.EventEntry.{EventEntry}
use Rattle.entries.specs.Device.{DeviceFits, device_word, device_of, is_device}
use Rattle.entries.specs.Collection.{CollectionFits, collection_word, collection_of, is_collection}
use Rattle.entries.specs.Event.{EventFits, event_word, event_of, is_event}
use Rattle.entries.proofs.Packed.{packed_low, packed_mid, packed_high, packed_lt, packed_of, marked_low, marked_mid, marked_high, marked_bit, marked_lt, marked_of}

-- What is read from any word fits the entry's fields.

pub device_of_fits : (w : ℕ) → DeviceFits (device_of w)
unfolding device_of
device_of_fits w = omega (arith, get_lt w 49 14, get_lt w 5 44, get_lt w 0 5)

pub collection_of_fits : (w : ℕ) → CollectionFits (collection_of w)
unfolding collection_of
collection_of_fits w = record { pe = get_lt w 16 36; icid = get_lt w 0 16 }

pub event_of_fits : (w : ℕ) → EventFits (event_of w)
unfolding event_of
event_of_fits w = record { next = get_lt w 48 16; lpi = get_lt w 16 32; icid = get_lt w 0 16 }

-- A word that is written fits 64 bits.

pub device_word_lt : (e : DeviceEntry) → DeviceFits e → device_word e < 2 ^ 64
unfolding device_word
device_word_lt e f = marked_lt 5 44 14 (e.bits - 1) (e.itt / 256) e.next (omega arith) (omega arith) f.next

pub collection_word_lt : (e : CollectionEntry) → CollectionFits e → collection_word e < 2 ^ 64
unfolding collection_word
collection_word_lt e f = marked_lt 16 36 11 e.icid e.pe 0 f.icid f.pe (omega arith)

pub event_word_lt : (e : EventEntry) → EventFits e → event_word e < 2 ^ 64
unfolding event_word
event_word_lt e f = packed_lt 16 32 16 e.icid e.lpi e.next f.icid f.lpi f.next

-- A word that is written is valid; the zero word is blank.

pub device_word_valid : (e : DeviceEntry) → is_device (device_word e) ≡ true
unfolding is_device device_word
device_word_valid e = eq-eqb _ 1 (marked_bit 5 44 14 (e.bits - 1) (e.itt / 256) e.next)

pub collection_word_valid : (e : CollectionEntry) → is_collection (collection_word e) ≡ true
unfolding is_collection collection_word
collection_word_valid e = eq-eqb _ 1 (marked_bit 16 36 11 e.icid e.pe 0)

pub event_word_valid : (e : EventEntry) → EventFits e → 0 < e.lpi → is_event (event_word e) ≡ true
unfolding is_event event_word
event_word_valid e f h =
    let lpi : get_field (event_word e) 16 32 ≡ e.lpi = packed_mid 16 32 16 e.icid e.lpi e.next f.lpi in
    ap not (ne_eqb (get_field (event_word e) 16 32) 0 (λ z. omega arith))

pub device_zero_blank : is_device 0 ≡ false
unfolding is_device get_field
device_zero_blank = refl

pub collection_zero_blank : is_collection 0 ≡ false
unfolding is_collection get_field
collection_zero_blank = refl

pub event_zero_blank : is_event 0 ≡ false
unfolding is_event get_field
event_zero_blank = refl

-- An entry that is written reads back.

pub device_of_word : (e : DeviceEntry) → DeviceFits e → device_of (device_word e) ≡ e
unfolding device_of device_word
device_of_word e f =
    let x = e.bits - 1 in
    let y = e.itt / 256 in
    let size : get_field (device_word e) 0 5 ≡ x = marked_low 5 44 14 x y e.next (omega arith) in
    let page : get_field (device_word e) 5 44 ≡ y = marked_mid 5 44 14 x y e.next (omega arith) in
    let next : get_field (device_word e) 49 14 ≡ e.next = marked_high 5 44 14 x y e.next f.next in
    let itt : get_field (device_word e) 5 44 * 256 ≡ e.itt = omega arith in
    let bits : get_field (device_word e) 0 5 + 1 ≡ e.bits = omega arith in
    λ i. record { next = next i; itt = itt i; bits = bits i }

pub collection_of_word : (e : CollectionEntry) → CollectionFits e → collection_of (collection_word e) ≡ e
unfolding collection_of collection_word
collection_of_word e f =
    let pe : get_field (collection_word e) 16 36 ≡ e.pe = marked_mid 16 36 11 e.icid e.pe 0 f.pe in
    let icid : get_field (collection_word e) 0 16 ≡ e.icid = marked_low 16 36 11 e.icid e.pe 0 f.icid in
    λ i. record { pe = pe i; icid = icid i }

pub event_of_word : (e : EventEntry) → EventFits e → event_of (event_word e) ≡ e
unfolding event_of event_word
event_of_word e f =
    let next : get_field (event_word e) 48 16 ≡ e.next = packed_high 16 32 16 e.icid e.lpi e.next f.next in
    let lpi : get_field (event_word e) 16 32 ≡ e.lpi = packed_mid 16 32 16 e.icid e.lpi e.next f.lpi in
    let icid : get_field (event_word e) 0 16 ≡ e.icid = packed_low 16 32 16 e.icid e.lpi e.next f.icid in
    λ i. record { next = next i; lpi = lpi i; icid = icid i }

-- A word is its entry's, on the bits that are read.

-- a valid word has no bit that its entry lacks
pub device_word_of : (w : ℕ) → w < 2 ^ 64 → is_device w ≡ true → device_word (device_of w) ≡ w
unfolding is_device device_of device_word
device_word_of w h v =
    let size : get_field w 0 5 + 1 - 1 ≡ get_field w 0 5 = omega arith in
    let page : get_field w 5 44 * 256 / 256 ≡ get_field w 5 44 = omega arith in
    rw (size, page) (marked_of 5 44 14 w h (eqb-true (get_field w 63 1) 1 v))

-- bits [62:52] are not read: a valid word is its entry's but for these
pub collection_word_of : (w : ℕ) → w < 2 ^ 64 → is_collection w ≡ true → collection_word (collection_of w) ≡ put_field w 52 11 0
unfolding is_collection collection_of collection_word
collection_word_of w h v =
    let w' = put_field w 52 11 0 in
    let mark : get_field w' 63 1 ≡ 1 = get_above w 52 11 0 63 1 (omega arith) (omega arith) ∙ eqb-true (get_field w 63 1) 1 v in
    rw (← get_below w 52 11 0 0 16 (omega arith), ← get_below w 52 11 0 16 36 (omega arith))
    (ap (λ (z : ℕ). put_field (put_field (put_field (put_field 0 0 16 (get_field w' 0 16)) 16 36 (get_field w' 16 36)) 52 11 z) 63 1 1)
    (sym (get_put w 52 11 0 (omega arith)))
    ∙ marked_of 16 36 11 w' (put_keeps w 52 11 0 64 h (omega arith) (omega arith)) mark)

-- every word, blank or not, is its entry's
pub event_word_of : (w : ℕ) → w < 2 ^ 64 → event_word (event_of w) ≡ w
unfolding event_of event_word
event_word_of w h = packed_of 16 32 16 w ∙ mod-eq_of_lt h
