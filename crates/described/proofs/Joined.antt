-- The events of each device in turn are all the events.
use Prim.Native.Nat.{ℕ, ◌<◌}
use native.Mathlib.Omega.{arith}
use mathlib.Core.Path.{◌≡◌, refl, sym}
use mathlib.Core.Bool.{true}
use mathlib.Core.Logic.{⊎_elim}
use mathlib.Core.List.{List, [], ◌∷◌, ◌++◌, append_assoc}
use borrow.Author.Tests.{eq-eqb, eqb-true}
use Rattle.lists.proofs.All.{All, none, more, all_append}
use Rattle.mapping.specs.declared.Device.{Device}
use Rattle.mapping.specs.declared.Event.{Event}
use Rattle.mapping.specs.Mapped.{device_key, event_key, rising}
use Rattle.mapping.specs.Meaning.{Owned}
use Rattle.tables.specs.Saved.{is_of, events_of}
use Rattle.lists.proofs.Member.{In, member, nowhere, all_in, all_of, all_weaker, in_left, in_right}
use Rattle.mapping.proofs.Edits.{in_kept, all_kept, kept_pass}
use Rattle.mapping.proofs.Rise.{Above, rising_nil, rising_above, rising_rest, rising_append, rising_kept, rising_same}

abbrev pub joined : List Event → List Device → List Event
joined es [] = []
joined es (b ∷ ds) = events_of b.id es ++ joined es ds

module _ (es : List Event) where
  pub joined_append : (l r : List Device) → joined es (l ++ r) ≡ joined es l ++ joined es r
  joined_append [] r = refl
  joined_append (b ∷ l) r = rw (joined_append l r) (sym (append_assoc (events_of b.id es) (joined es l) (joined es r)))

  pub own_same : (b : Device) → All (λ e. e.device ≡ b.id) (events_of b.id es)
  own_same b = all_weaker (λ e p. eqb-true e.device b.id p) (events_of b.id es) (kept_pass (is_of b.id) es)

  -- a fact of all events is one of the joined
  all_joined : {P : Event → Type 0} (ds : List Device) → All P es → All P (joined es ds)
  all_joined [] a = none
  all_joined (b ∷ ds) a = all_append (events_of b.id es) (all_kept (is_of b.id) es a) (all_joined ds a)

  joined_above : (n : ℕ) (ds : List Device) → Above device_key n ds → All (λ e. n < e.device) (joined es ds)
  joined_above n [] none = none
  joined_above n (b ∷ ds) (more p a) =
      all_append (events_of b.id es) (all_weaker (λ e q. omega arith) (events_of b.id es) (own_same b)) (joined_above n ds a)

  joined_rise : (ds : List Device) → rising device_key ds ≡ true → rising event_key es ≡ true → All (λ e. e.event < 65536) es → rising event_key (joined es ds) ≡ true
  joined_rise [] r s a = rising_nil event_key
  joined_rise (b ∷ ds) r s a =
      let own = events_of b.id es in
      let rest = joined_above b.id ds (rising_above device_key b ds r) in
      rising_append event_key own (joined es ds) (rising_kept event_key (is_of b.id) es s) (joined_rise ds (rising_rest device_key b ds r) s a)
      (all_of own (λ e i.
      let h = all_in own (all_kept (is_of b.id) es a) i in
      let g = all_in own (own_same b) i in
      all_weaker (λ f q. omega arith) (joined es ds) rest))

  in_joined : (b : Device) (x : Event) (ds : List Device) → In b ds → In x (events_of b.id es) → In x (joined es ds)
  in_joined b x [] m i = absurd (nowhere m)
  in_joined b x (c ∷ ds) m i = ⊎_elim
      (λ e. in_left (joined es ds) (rw e at i))
      (λ n. in_right (events_of c.id es) (in_joined b x ds n i))
      (member m)

  pub joined_whole : (ds : List Device) → rising device_key ds ≡ true → rising event_key es ≡ true → All (λ e. e.event < 65536) es → All (Owned ds) es → joined es ds ≡ es
  joined_whole ds r s a o =
      rising_same event_key (joined es ds) es (joined_rise ds r s a) s
      (λ x i. all_in (joined es ds) (all_joined ds (all_of es (λ y j. j))) i)
      (λ x i.
      let w = all_in es o i in
      in_joined w.device x ds w.listed (in_kept (is_of w.device.id) es i (eq-eqb x.device w.device.id (sym w.id))))
