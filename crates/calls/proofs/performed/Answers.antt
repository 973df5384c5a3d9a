use Rattle.calls.proofs.Laws.{parts, box_kept, performed_is}
use Rattle.calls.proofs.performed.Goals as goal

pub load_guest-requires : goal.load_guest-requires
load_guest-requires c = (c.requires.0, (parts _ c.requires.1).counts)

pub load_mapping-requires : goal.load_mapping-requires
load_mapping-requires c = (c.requires.0, (parts _ c.requires.1).map_counts_lem)

pub perform-requires : goal.perform-requires
perform-requires c =
    box_kept _ c.requires.1 _ _ c.load_guest.ensures c.load_mapping.ensures

pub returns : goal.returns
returns c =
    performed_is c.args.c _ c.load_guest.result c.load_mapping.result c.perform.result c.load_guest.ensures.0 c.load_mapping.ensures.0
    c.perform.ensures
