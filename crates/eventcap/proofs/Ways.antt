-- Where an entry leads, and which IDs are chained, with the cap and without it. Assumes nothing.
use Prim.Native.Nat.{ℕ, ◌+◌, ◌/◌, ◌≤◌, ◌<◌}
use native.Mathlib.Omega.{arith}
use mathlib.Core.Path.{◌≡◌, refl, ◌∙◌}
use mathlib.Core.Bool.{Bool, true, false}
use mathlib.Core.Logic.{◌↔◌, ⊎_elim}
use mathlib.Core.List.{List, [], ◌∷◌}
use lib.ListN.{length}
use lib.Dec.{leb}
use borrow.Author.Tests.{lt-ltb, le-ltb, le-leb, lt-leb, ne_eqb}
use Rattle.entries.specs.Event.{is_event, event_of}
use Rattle.lists.specs.Rows.{choose}
use Rattle.chains.specs.declared.Next.{Next}
use Rattle.chains.specs.declared.Next.TheVariants.{Bad}
use Rattle.chains.specs.Slots.{uncapped, Slots, following, Link, Links}
use Rattle.chains.proofs.Scan.{lt_or_ge, first_hit, first_miss, first_end}
use Rattle.tables.specs.Bytes.{entry_at, device_slots, event_slots}
use Rattle.described.specs.Described.{Chain}
use Rattle.eventcap.proofs.Capped.{device_limit, event_limit, capped_following, CappedLink, CappedLinks, CappedChain}

same : (b : Bool) {x : Next} → choose b x x ≡ x
same true = refl
same false = refl

-- the chained IDs, link by link
module _ (cap : ℕ) (T : Slots) (both : (i j : ℕ) → CappedLink cap T i j ↔ Link T i j) where
  links_to : (i : ℕ) (js : List ℕ) → CappedLinks cap T i js → Links T i js
  links_to i [] l = l
  links_to i (j ∷ js) l = ((both i j).0 l.0, links_to j js l.1)

  links_from : (i : ℕ) (js : List ℕ) → Links T i js → CappedLinks cap T i js
  links_from i [] l = l
  links_from i (j ∷ js) l = ((both i j).1 l.0, links_from j js l.1)

  chain_same : (ids : List ℕ) → CappedChain cap T ids ↔ Chain T ids
  chain_same [] = (λ c. record { below = c.below; links = tt }, λ c. record { below = c.below; links = tt })
  chain_same (i ∷ is) = (
    λ c. record { below = c.below; links = (c.links.0, c.links.1, links_to i is c.links.2) },
    λ c. record { below = c.below; links = (c.links.0, c.links.1, links_from i is c.links.2) },
  )

-- device tables keep theirs
module _ (t : List ℕ) where
  pub device_ways : (i : ℕ) → capped_following device_limit (device_slots t) i ≡ following (device_slots t) i
  unfolding capped_following following device_slots
  device_ways i = refl

  device_link : (i j : ℕ) → CappedLink device_limit (device_slots t) i j ↔ Link (device_slots t) i j
  unfolding device_slots
  device_link i j = (
    λ l. let n = l.next in record { rises = l.rises; inside = l.inside; valid = l.valid; next = n; gap = λ g k x y. l.gap (omega arith) k (omega arith) y },
    λ l. let n = l.next in record { rises = l.rises; inside = l.inside; valid = l.valid; next = n; gap = λ g k x y. l.gap (omega arith) k (omega arith) y },
  )

  pub device_chain : (ids : List ℕ) → CappedChain device_limit (device_slots t) ids ↔ Chain (device_slots t) ids
  device_chain ids = chain_same device_limit (device_slots t) device_link ids

-- an ITT of at most 65,536 entries, the most that 16 bits of event ID name
module _ (t : List ℕ) (few : length t / 8 ≤ 65536) where
  abbrev T : Slots
  T = event_slots t

  plain : T.cap ≡ uncapped
  unfolding event_slots
  plain = refl

  size_le : T.size ≤ 65536
  unfolding event_slots
  size_le = few

  -- a next of 65,535 that stays inside lands on the last entry: the search from there is of that one
  last_way : (i : ℕ) → i + T.next i < T.size → event_limit ≤ T.next i → (b : Bool) → T.valid (i + T.next i) ≡ b
      → capped_following event_limit T i ≡ following T i
  unfolding capped_following following
  last_way i h c true e =
      let j = i + T.next i in
      rw (ne_eqb (T.next i) 0 (omega arith), lt-leb T.size j h, le-ltb (T.next i) event_limit c, e, first_hit T j h e, lt-ltb j T.size h, plain)
  last_way i h c false e =
      let j = i + T.next i in
      let out : T.size ≤ j + 1 = omega (arith, size_le) in
      rw (ne_eqb (T.next i) 0 (omega arith), lt-leb T.size j h, le-ltb (T.next i) event_limit c, e, first_miss T j h e ∙ first_end T (j + 1) out, le-ltb (j + 1) T.size out, plain)

  pub event_ways : (i : ℕ) → capped_following event_limit T i ≡ following T i
  unfolding capped_following following
  event_ways i = ⊎_elim
      (λ (c : T.next i < event_limit). rw (plain, lt-ltb (T.next i) event_limit c))
      (λ (c : event_limit ≤ T.next i). ⊎_elim
      (λ (h : i + T.next i < T.size). last_way i h c (T.valid (i + T.next i)) refl)
      (λ (h : T.size ≤ i + T.next i). rw (ne_eqb (T.next i) 0 (omega arith), le-leb T.size (i + T.next i) h))
      (lt_or_ge (i + T.next i) T.size))
      (lt_or_ge (T.next i) event_limit)

  -- said apart: entry 0 with a next of 65,535 onto a blank is a fault in both
  pub last_blank : (event_of (entry_at t 0)).next ≡ 65535 → is_event (entry_at t 65535) ≡ false
      → (following T 0 ≡ Bad) × (capped_following event_limit T 0 ≡ Bad)
  unfolding following event_slots
  last_blank n b =
      let bad : following T 0 ≡ Bad = rw (n, b) (same (leb (length t / 8) 65535)) in
      (bad, event_ways 0 ∙ bad)

  event_link : (i j : ℕ) → CappedLink event_limit T i j ↔ Link T i j
  unfolding event_slots
  event_link i j = (
    λ l. let h = l.inside in let n = l.next in
        record { rises = l.rises; inside = h; valid = l.valid; next = omega arith; gap = λ g. absurd (omega arith) },
    λ l. let h = l.inside in let n = l.next in
        record { rises = l.rises; inside = h; valid = l.valid; next = omega arith; gap = λ g. absurd (omega arith) },
  )

  pub event_chain : (ids : List ℕ) → CappedChain event_limit T ids ↔ Chain T ids
  event_chain ids = chain_same event_limit T event_link ids
