-- How large the errno and the number of a question are.
use Prim.Native.Nat.{ℕ, suc, ◌<◌, ◌^◌}
use native.Mathlib.Nat.{lt_of_le_of_lt}
use mathlib.Core.Path.{◌≡◌, ap}
use mathlib.Core.Bool.{true}
use mathlib.Core.List.{List, [], ◌∷◌}
use lib.ListN.{length, get_or}
use lib.Dec.{eqb, lit<}
use Rattle.lists.proofs.All.{none, more}
use Rattle.words.proofs.Bytes.{Bytes}
use Rattle.std.specs.Prelude.{Result, Ok, Err, IfOk}
use Rattle.answers.specs.declared.Errno.{Errno}
use Rattle.guest.specs.Machine.{Reading}
use Rattle.guest.specs.Returned.{reading}
use Rattle.rules.specs.Rules.{rules}
use Rattle.layout.specs.Layout.{size, decode, counts_ok}
use Rattle.mapping.specs.Commands.{lookup}
use Rattle.maplayout.specs.MapLayout.{decode_map, map_counts_ok}
use Rattle.mapkept.proofs.Words.{lookup_small}
use Rattle.calls.specs.Commands.{ready, lookup_step}
use Rattle.layout.proofs.Typed.{decode_words}
use Rattle.kept.specs.Good.{Good}
use Rattle.kept.proofs.Choice.{chosen, choose_by, and_left, and_right}
use Rattle.kept.proofs.Readings.{redist_base-small}
use Rattle.irqkept.proofs.Answers.{irq_pending-small}
use Rattle.calls.specs.declared.Question.{Question}
use Rattle.calls.specs.declared.Question.TheVariants.{RedistBase, Pending}
use Rattle.calls.specs.Steps.{ask_step}
use Rattle.state.specs.Sound.{sound}
use Rattle.calls.specs.Call.{asks, looks}
use Rattle.xicswords.specs.Word.{destination, delivers}
use Rattle.xicsrows.specs.XicsLayout.{server, source, table}
use Rattle.xicsrows.specs.Registered.{registered, word_of}
use Rattle.xicsrules.specs.Sound.{sound_xics}
use Rattle.xics.specs.Calls.{delivery, asks_delivery}

-- a number that is told is that of the answer
pub told_small : (r : Result ℕ Errno) {a : Reading} → reading r ≡ a → a.number < 2 ^ 63 → IfOk r (λ n. n < 2 ^ 63)
told_small (Ok n) q h = rw (ap (λ (x : Reading). x.number) q) h
told_small (Err e) q h = tt

pub bytes_from : (l : List ℕ) → ((k : ℕ) → get_or l k 0 < 256) → Bytes l
bytes_from [] h = none
bytes_from (x ∷ xs) h = more (h 0) (bytes_from xs (λ k. h (suc k)))

-- sound bytes stand for a good machine
pub good_decode : (s : List ℕ) → Bytes s → sound s ≡ true → Good (decode s)
unfolding sound
good_decode s b h =
    record { words = decode_words s b; rules = and_left (rules (decode s)) _ (and_right (map_counts_ok s) _ (and_right (counts_ok s) _ h)) }

number_small : (q : Question) (s : List ℕ) → (sound s ≡ true → (ask_step q (decode s)).number < 2 ^ 63) → (asks q s).number < 2 ^ 63
unfolding asks
number_small q s h =
    chosen (λ (r : Reading). r.number < 2 ^ 63) (eqb (length s) size)
    (choose_by (λ (r : Reading). r.number < 2 ^ 63) (sound s) h (λ _. lit< tt))
    (lit< tt)

pub redist_number : (k : ℕ) (s : List ℕ) → Bytes s → (asks (RedistBase k) s).number < 2 ^ 63
redist_number k s b = number_small (RedistBase k) s (λ h. redist_base-small k (decode s) (good_decode s b h))

pub pending_number : (k i : ℕ) (s : List ℕ) → (asks (Pending k i) s).number < 2 ^ 63
pending_number k i s = number_small (Pending k i) s (λ h. let e = irq_pending-small k i (decode s) in lt_of_le_of_lt e (lit< tt))

-- a lookup
look_sound : (device event : ℕ) (s : List ℕ) → sound s ≡ true → (lookup device event (decode_map s)).number < 2 ^ 63
unfolding sound
look_sound device event s h =
    let r = and_right (map_counts_ok s) _ (and_right (counts_ok s) _ h) in
    lookup_small device event (decode s) (decode_map s) (and_left (rules (decode s)) _ r) (and_right (rules (decode s)) _ r)

pub look_number : (device event : ℕ) (s : List ℕ) → (looks device event s).number < 2 ^ 63
unfolding looks lookup_step
look_number device event s =
    chosen Fits (eqb (length s) size)
    (choose_by Fits (sound s) (λ h. chosen Fits (ready (decode s)) (look_sound device event s h) (lit< tt)) (λ _. lit< tt))
    (lit< tt)
  where
    Fits : Reading → Type 0
    Fits r = r.number < 2 ^ 63

-- whether a source is deliverable
pub delivery_number : (n : ℕ) (s : List ℕ) → (asks_delivery n s).number < 2 ^ 63
unfolding asks_delivery delivery
delivery_number n s =
    chosen Fits (eqb (length s) 2064)
    (chosen Fits (sound_xics s)
    (chosen Fits (registered n (table source s))
    (chosen (λ (k : ℕ). k < 2 ^ 63) (delivers (word_of n (table source s)) (word_of (destination (word_of n (table source s))) (table server s))) (lit< tt) (lit< tt))
    (lit< tt))
    (lit< tt))
    (lit< tt)
  where
    Fits : Reading → Type 0
    Fits r = r.number < 2 ^ 63
