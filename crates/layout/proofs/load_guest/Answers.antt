use native.Mathlib.Omega.{arith}
use mathlib.Core.Path.{◌∙◌, ap}
use lib.Dec.{lit<}
use Rattle.guest.specs.Machine.{shared_count}
use Rattle.layout.proofs.Counts.{counts, loaded, irqs_of}
use Rattle.layout.proofs.load_guest.Goals as goal

pub load_rows-requires : goal.load_rows-requires
load_rows-requires c =
    let k = (counts _ c.requires.1).regions in
    let e = c.get64-regions.ensures.is in
    (lit< tt, (rw e k, omega (arith, c.requires.0, e, k)))

pub load_rows-requires-2 : goal.load_rows-requires-2
load_rows-requires-2 c =
    let k = (counts _ c.requires.1).vcpus in
    let e = c.get64-vcpus.ensures.is in
    (lit< tt, (rw e k, omega (arith, c.requires.0, e, k)))

pub load_rows-requires-3 : goal.load_rows-requires-3
load_rows-requires-3 c =
    let k = (counts _ c.requires.1).shared in
    let e = c.shared_count-banks.ensures ∙ ap shared_count (irqs_of _ _ c.load_control-control.ensures) in
    (lit< tt, (rw e k, omega (arith, c.requires.0, e, k)))

pub returns : goal.returns
returns c =
    let k = counts _ c.requires.1 in
    let ei = c.get64-regions.ensures.is in
    let ej = c.get64-vcpus.ensures.is in
    let ek = c.shared_count-banks.ensures ∙ ap shared_count (irqs_of _ _ c.load_control-control.ensures) in (
      loaded _ _ _ _ _ _ _ _ _ _ _ c.load_memory.ensures c.load_control-control.ensures c.load_frames.ensures c.load_tables.ensures ei ej ek c.load_rows.ensures c.load_rows-2.ensures c.load_rows-3.ensures,
      record { regions = rw ei k.regions; vcpus = rw ej k.vcpus; shared = rw ek k.shared },
    )
