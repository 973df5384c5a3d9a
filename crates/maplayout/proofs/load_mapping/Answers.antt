use native.Mathlib.Omega.{arith}
use lib.Dec.{lit<}
use Rattle.maplayout.proofs.Counts.{counts, loaded}
use Rattle.maplayout.proofs.load_mapping.Goals as goal

pub load_rows-requires : goal.load_rows-requires
load_rows-requires c =
    let k = (counts _ c.requires.1).devices in
    let e = c.get64-ndevices.ensures.is in
    (lit< tt, (rw e k, omega (arith, c.requires.0, e, k)))

pub load_rows-requires-2 : goal.load_rows-requires-2
load_rows-requires-2 c =
    let k = (counts _ c.requires.1).collections in
    let e = c.get64-ncollections.ensures.is in
    (lit< tt, (rw e k, omega (arith, c.requires.0, e, k)))

pub load_rows-requires-3 : goal.load_rows-requires-3
load_rows-requires-3 c =
    let k = (counts _ c.requires.1).events in
    let e = c.get64-nevents.ensures.is in
    (lit< tt, (rw e k, omega (arith, c.requires.0, e, k)))

pub returns : goal.returns
returns c =
    let k = counts _ c.requires.1 in
    let ei = c.get64-ndevices.ensures.is in
    let ej = c.get64-ncollections.ensures.is in
    let en = c.get64-nevents.ensures.is in (
      loaded _ _ _ _ _ _ _ ei ej en c.load_rows.ensures c.load_rows-2.ensures c.load_rows-3.ensures,
      record { collections = rw ej k.collections; devices = rw ei k.devices; events = rw en k.events },
    )
