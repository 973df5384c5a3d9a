-- V of a device's entry (§6.2) is the highest bit of the entry's last byte. Assumes nothing.
use Prim.Native.Nat.{ℕ, ◌+◌, ◌*◌, ◌/◌, ◌^◌, ◌<◌}
use native.Mathlib.Omega.{arith}
use mathlib.Core.Path.{◌≡◌, refl}
use mathlib.Core.Bool.{Bool, true, false}
use mathlib.Core.List.{List}
use lib.ListN.{length, get_or}
use lib.Dec.{leb}
use borrow.Author.Tests.{leb-true, leb-false, eq-eqb, ne_eqb}
use Rattle.lists.proofs.All.{all_at}
use Rattle.words.specs.Words.{le_at}
use Rattle.words.proofs.Laws.{le_at-two, read_one}
use Rattle.words.proofs.Bytes.{Bytes, le_at-bound}
use Rattle.fields.specs.Field.{get_field}
use Rattle.entries.specs.Device.{is_device}
use Rattle.tables.specs.Bytes.{entry_at}

-- a word with the byte b above its 56 lowest bits has bit 63 where b has bit 7
top_bit : (lo b w : ℕ) → lo < 256 ^ 7 → b < 256 → w ≡ lo + b * 256 ^ 7 → (x : Bool) → leb 128 b ≡ x → is_device w ≡ x
unfolding is_device get_field
top_bit lo b w l m e true f = eq-eqb (get_field w 63 1) 1 (omega (arith, leb-true 128 b f))
top_bit lo b w l m e false f = ne_eqb (get_field w 63 1) 1 (λ z. omega (arith, leb-false 128 b f))

pub v_byte : (t : List ℕ) (i : ℕ) → Bytes t → i < length t / 8 → is_device (entry_at t i) ≡ leb 128 (get_or t (i * 8 + 7) 0)
unfolding entry_at
v_byte t i r h =
    let b = get_or t (i * 8 + 7) 0 in
    let small : b < 256 = all_at t (i * 8 + 7) 0 r (omega arith) in
    let two : entry_at t i ≡ le_at t (i * 8) 7 + le_at t (i * 8 + 7) 1 * 256 ^ 7 = le_at-two t (i * 8) 7 1 (omega arith) in
    let one = (read_one t (i * 8 + 7) (omega arith) small).is in
    top_bit (le_at t (i * 8) 7) b (entry_at t i) (le_at-bound t (i * 8) 7 r) small (rw one two) (leb 128 b) refl
