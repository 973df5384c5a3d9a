-- `image::store_guest_of` meets its contract. Assumes nothing.
use Rattle.image.proofs.store_guest_of.Goals as goal

pub store_guest-requires : goal.store_guest-requires
store_guest-requires c =
    (c.requires, c.guest_of-g.ensures.1)

pub returns : goal.returns
returns c =
    rw (← c.guest_of-g.ensures.0) c.store_guest.ensures
