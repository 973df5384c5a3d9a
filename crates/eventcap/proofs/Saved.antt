-- A save never shortens a distance between two events. Assumes nothing.
use Prim.Native.Nat.{ℕ, ◌-◌, ◌^◌, ◌<◌, min}
use native.Mathlib.Omega.{arith}
use mathlib.Core.Path.{◌≡◌, refl, ap, fun_ext}
use mathlib.Core.Bool.{Bool, true, false}
use mathlib.Core.List.{List, [], ◌∷◌}
use Rattle.lists.proofs.All.{All, none, more}
use Rattle.lists.proofs.Member.{In, all_in, all_of, all_weaker}
use Rattle.words.specs.Words.{put_at}
use Rattle.guest.specs.Machine.{Machine}
use Rattle.mapping.specs.declared.Device.{Device}
use Rattle.mapping.specs.declared.Event.{Event}
use Rattle.mapping.specs.Mapped.{Mapped, device_key}
use Rattle.mapping.specs.Commands.{device_entries}
use Rattle.mapping.specs.MapRules.{is_placed, map_rules}
use Rattle.mapping.proofs.Edits.{all_kept}
use Rattle.mapping.proofs.Meaning.{rules_say, event_small}
use Rattle.layout.specs.Layout.{decode}
use Rattle.maplayout.specs.MapLayout.{decode_map}
use Rattle.chains.specs.Slots.{Cap, uncapped, capped}
use Rattle.tables.specs.Bytes.{device_cap}
use Rattle.tables.specs.Saved.{next_of, chain_word, device_entry, event_entry, event_id, is_of, events_of, saved_device, saved_event, table_of, saved_itts, saved_memory}
use Rattle.state.specs.Sound.{Sound}
use Rattle.state.proofs.Meaning.{sound_says}
use Rattle.eventcap.proofs.Capped.{device_limit, event_limit, capped_next, capped_word, capped_device, capped_event, capped_itts, capped_memory}

-- rows between which the limit and the cap do the same to a distance have the same words
module _ {A : Type 0} (key : A → ℕ) (word : A → ℕ → ℕ) (limit : ℕ) (cap : Cap) (P : A → Type 0)
    (one : (x y : A) → P x → P y → min (key y - key x) limit ≡ capped cap (key y - key x)) where
  next_same : (x : A) (l : List A) → All P (x ∷ l) → capped_next key limit x l ≡ next_of key cap x l
  unfolding capped_next next_of
  next_same x [] p = refl
  next_same x (y ∷ l) (more p (more q r)) = one x y p q

  word_same : (l : List A) (i : ℕ) → All P l → capped_word key word limit l i ≡ chain_word key word cap l i
  unfolding capped_word chain_word
  word_same [] i none = refl
  word_same (x ∷ l) i (more p r) = rw (next_same x l (more p r), word_same l i r)

  words_same : (l : List A) → All P l → (n : ℕ) → table_of (capped_word key word limit l) n ≡ table_of (chain_word key word cap l) n
  words_same l p n = ap (λ (w : ℕ → ℕ). table_of w n) (fun_ext (λ i. word_same l i p))

devices_same : (ds : List Device) (n : ℕ) → table_of (capped_device ds) n ≡ table_of (saved_device ds) n
devices_same ds n = words_same device_key device_entry device_limit device_cap (λ d. Unit {0}) (λ x y p q. refl) ds (all_of ds (λ d i. tt)) n

-- an event's ID has 16 bits
abbrev Small : Event → Type 0
Small e = e.event < 65536

apart : (e f : Event) → Small e → Small f → min (f.event - e.event) event_limit ≡ f.event - e.event
apart e f p q = omega arith

events_same : (es : List Event) → All Small es → (n : ℕ) → table_of (capped_event es) n ≡ table_of (saved_event es) n
events_same es p n = words_same event_id event_entry event_limit uncapped Small apart es p n

itts_same : (start : ℕ) (ds : List Device) (es : List Event) (mem : List ℕ) → All Small es → capped_itts start ds es mem ≡ saved_itts start ds es mem
unfolding capped_itts saved_itts
itts_same start [] es mem p = refl
itts_same start (d ∷ ds) es mem p =
    rw (events_same (events_of d.id es) (all_kept (is_of d.id) es p) (2 ^ d.bits))
    (itts_same start ds es (put_at mem (d.itt - start) (table_of (saved_event (events_of d.id es)) (2 ^ d.bits))) p)

-- a mapping that keeps its rules
module _ (m : Machine) (k : Mapped) (rules : map_rules m k ≡ true) where
  small : All Small k.events
  small = by (is_placed m) refl
    where
      by : (b : Bool) → is_placed m ≡ b → All Small k.events
      by true p = let o = (rules_say m k rules).placed p in all_weaker (event_small m k o) k.events o.owned
      by false p = rw ((rules_say m k rules).unplaced p) none

  pub distance_whole : (e f : Event) → In e k.events → In f k.events → min (f.event - e.event) event_limit ≡ f.event - e.event
  distance_whole e f p q = apart e f (all_in k.events small p) (all_in k.events small q)

  pub saved_same : (mem : List ℕ) → capped_memory m k mem ≡ saved_memory m k mem
  unfolding capped_memory saved_memory
  saved_same mem = rw (devices_same k.devices (device_entries m)) (itts_same m.memory.start k.devices k.events _ small)

-- so for every sound state
pub sound_saved : (s mem : List ℕ) → Sound s → capped_memory (decode s) (decode_map s) mem ≡ saved_memory (decode s) (decode_map s) mem
sound_saved s mem h = saved_same (decode s) (decode_map s) (sound_says s h.rules).mapped mem
