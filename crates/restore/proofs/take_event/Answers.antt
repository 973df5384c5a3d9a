-- `restore::take_event` meets its contract. Assumes nothing.
use native.Mathlib.Omega.{arith}
use borrow.Author.Rules.{rules}
use Rattle.restore.proofs.Over.{counted}
use Rattle.restore.proofs.Events.{icid_small, event_low, event_high, event_lost, event_astray, event_full, event_new}
use Rattle.restore.proofs.take_event.Goals as goal

pub returns-then-lpi-lt-FIRST_LPI : goal.returns-then-lpi-lt-FIRST_LPI
returns-then-lpi-lt-FIRST_LPI c =
    event_low _ _ _ _ _ _ _ c.entry_at.ensures c.event_entry-e.ensures c.if-lpi-lt-FIRST_LPI.true

pub returns-then-lpi-gt-LAST_LPI : goal.returns-then-lpi-gt-LAST_LPI
returns-then-lpi-gt-LAST_LPI c =
    event_high _ _ _ _ _ _ _ c.entry_at.ensures c.event_entry-e.ensures c.if-lpi-lt-FIRST_LPI.false c.if-lpi-gt-LAST_LPI.true

pub returns-then-not-good : goal.returns-then-not-good
returns-then-not-good c =
    event_lost _ _ _ _ _ _ _ c.entry_at.ensures c.event_entry-e.ensures c.if-lpi-lt-FIRST_LPI.false c.if-lpi-gt-LAST_LPI.false (c.if-not-good.true)

pub returns-then-collection_count-find_collection : goal.returns-then-collection_count-find_collection
returns-then-collection_count-find_collection c =
    event_astray _ _ _ _ _ _ _ c.entry_at.ensures c.event_entry-e.ensures c.if-lpi-lt-FIRST_LPI.false c.if-lpi-gt-LAST_LPI.false (c.if-not-good.false)
    _ _ c.find_collection.ensures c.collection_count.ensures c.if-collection_count-find_collection.true

pub returns-then-event_count-ge-MAX_EVENTS : goal.returns-then-event_count-ge-MAX_EVENTS
returns-then-event_count-ge-MAX_EVENTS c =
    event_full _ _ _ _ _ _ _ c.entry_at.ensures c.event_entry-e.ensures c.if-lpi-lt-FIRST_LPI.false c.if-lpi-gt-LAST_LPI.false (c.if-not-good.false)
    _ _ c.find_collection.ensures c.collection_count.ensures c.if-collection_count-find_collection.false _ c.event_count.ensures c.if-event_count-ge-MAX_EVENTS.true

pub overflow_cast-row-3 : goal.overflow_cast-row-3
overflow_cast-row-3 c =
    omega (arith, icid_small _ _ c.event_entry-e.ensures)

pub add_event-requires : goal.add_event-requires
add_event-requires c =
    (counted c.requires.0.over, omega (arith, c.event_count.ensures, c.if-event_count-ge-MAX_EVENTS.false))

pub returns : goal.returns
returns c =
    event_new _ _ _ _ _ _ _ c.entry_at.ensures c.event_entry-e.ensures c.if-lpi-lt-FIRST_LPI.false c.if-lpi-gt-LAST_LPI.false (c.if-not-good.false)
    _ _ c.find_collection.ensures c.collection_count.ensures c.if-collection_count-find_collection.false _ c.event_count.ensures c.if-event_count-ge-MAX_EVENTS.false
    (search rules) c.requires.2 _ c.add_event.ensures
