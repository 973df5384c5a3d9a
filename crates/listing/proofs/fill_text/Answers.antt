-- `listing::fill_text` meets its contract. Assumes nothing.
use Rattle.lines.proofs.Laws.{adds_both, at_start}
use Rattle.listing.specs.Listing.{table, listing}
use Rattle.listing.proofs.fill_text.Goals as goal

pub returns : goal.returns
unfolding table listing
returns c =
    at_start c.clear.ensures (adds_both (adds_both c.put_table.ensures c.put_table-2.ensures) c.put_table-3.ensures)
