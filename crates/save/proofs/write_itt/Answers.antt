-- `save::write_itt` meets its contract. Assumes nothing.
use Rattle.save.proofs.Itts.{first_before, events_ready, itt_saved}
use Rattle.save.proofs.write_itt.Goals as goal

pub first_event-to-requires : goal.first_event-to-requires
first_event-to-requires c =
    (c.requires.0, first_before _ _ _ c.first_event-from.ensures)

pub write_chain-requires : goal.write_chain-requires
write_chain-requires c = (
  c.requires.0,
  events_ready _ _ _ _ _ c.requires.1.events c.first_event-from.ensures c.first_event-to.ensures c.itt_entries.ensures _ _ c.requires.1.itt,
)

pub returns : goal.returns
returns c = (
  itt_saved _ c.args.d _ _ _ c.requires.1.events c.first_event-from.ensures c.first_event-to.ensures c.itt_entries.ensures _ _ _ c.write_chain.ensures,
  c.first_event-to.ensures,
)
