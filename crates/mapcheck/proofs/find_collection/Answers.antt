-- `mapcheck::find_collection` meets its contract. Assumes nothing.
use Rattle.std.proofs.Common.{rules}
use Rattle.mapping.specs.Mapped.{no_collection}
use Rattle.maplayout.specs.MapLayout.{decode_map}
use Rattle.mapcheck.proofs.find_collection.Goals as goal

pub returns : goal.returns
returns c =
    c.find_row.ensures (decode_map c.args.s.now).collections no_collection (record { count = c.collection_count.ensures; row = λ i x p. search rules })
