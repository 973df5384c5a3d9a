-- What the test of the counts says, and what the parts of the loaded mapping give together.
use Prim.Native.Nat.{ℕ, ◌≤◌}
use mathlib.Core.Path.{◌≡◌, ap, ◌∙◌}
use mathlib.Core.Bool.{true, and-eq-true_iff}
use mathlib.Core.List.{List}
use lib.ListN.{take, drop}
use borrow.Author.Tests.{leb-true}
use Rattle.words.specs.Words.{le_at, rows_of}
use Rattle.mapping.specs.declared.Device.{Device}
use Rattle.mapping.specs.declared.Collection.{Collection}
use Rattle.mapping.specs.declared.Event.{Event}
use Rattle.mapping.specs.Mapped.{Mapped}
use Rattle.maplayout.specs.MapLayout.{device_of, collection_of, event_of, decode_map, map_counts_ok}

pub record Counts (s : List ℕ) : Type 0 where
  pub devices : le_at s 2352 8 ≤ 32
  pub collections : le_at s 2360 8 ≤ 16
  pub events : le_at s 2368 8 ≤ 1024

pub counts : (s : List ℕ) → map_counts_ok s ≡ true → Counts s
unfolding map_counts_ok
counts s h =
    let a = (and-eq-true_iff _ _).0 h in
    let b = (and-eq-true_iff _ _).0 a.1 in
    record { devices = leb-true _ _ a.0; collections = leb-true _ _ b.0; events = leb-true _ _ b.1 }

pub loaded : (s : List ℕ) (ds : List Device) (cs : List Collection) (es : List Event) (i j n : ℕ)
    → i ≡ le_at s 2352 8 → j ≡ le_at s 2360 8 → n ≡ le_at s 2368 8
    → take i ds ≡ rows_of device_of 24 i (drop 2376 s) → take j cs ≡ rows_of collection_of 4 j (drop 3144 s) → take n es ≡ rows_of event_of 8 n (drop 3208 s)
    → ◌≡◌ {A = Mapped} (record { collections = take j cs; devices = take i ds; events = take n es }) (decode_map s)
unfolding decode_map
loaded s ds cs es i j n hi hj hn hd hc he =
    let ed = hd ∙ ap (λ (m : ℕ). rows_of device_of 24 m (drop 2376 s)) hi in
    let ec = hc ∙ ap (λ (m : ℕ). rows_of collection_of 4 m (drop 3144 s)) hj in
    let ee = he ∙ ap (λ (m : ℕ). rows_of event_of 8 m (drop 3208 s)) hn in
    λ x. record { collections = ec x; devices = ed x; events = ee x }
