-- `frames::bases::get_region` meets its contract. Assumes nothing.
use Prim.Native.Nat.{◌<◌, ◌^◌}
use native.Mathlib.Omega.{arith}
use Rattle.fields.proofs.Laws.{get_lt}
use Rattle.guest.specs.Machine.{view}
use Rattle.rules.proofs.Rows.{no_region}
use Rattle.frames.proofs.Known.{region_at}
use Rattle.frames.proofs.bases.get_region.Goals as goal

pub region_word-requires : goal.region_word-requires
region_word-requires c =
    let there = c.in-Some.ensures.lookup.3 in
    let f = region_at (view c.args.g) c.requires.rules _ there.0 in
    let i : c.get-index.result < 2 ^ 12 = rw c.get-index.ensures (get_lt c.args.w 0 12) in
    rw (there.1 no_region) (i, omega (arith, f), f.small)
