-- `naming::put_place` meets its contract. Assumes nothing.
use native.Mathlib.Omega.{arith}
use mathlib.Core.List.{append_assoc}
use Rattle.lines.specs.Text.{ascii, decimal}
use Rattle.lines.proofs.Laws.{adds_as, adds_both}
use Rattle.naming.specs.Naming.{place_text}
use Rattle.naming.proofs.Texts.{itt_pieces}
use Rattle.naming.proofs.put_place.Goals as goal

pub returns-in-Collection : goal.returns-in-Collection
unfolding place_text
returns-in-Collection g c =
    adds_as c.put_number.ensures (rw c.in-Collection.is (simp append_assoc)) (omega arith)

pub returns-in-Device : goal.returns-in-Device
unfolding place_text
returns-in-Device g c =
    adds_as c.put_number-in-Device.ensures (rw c.in-Device.is (simp append_assoc)) (omega arith)

pub returns-in-Event : goal.returns-in-Event
unfolding place_text
returns-in-Event g c =
    adds_as (adds_both c.put_number-in-Event.ensures c.put_number-in-Event-2.ensures)
    (rw c.in-Event.is
    (itt_pieces (ascii "ITT of device ") (decimal c.in-Event.id) (ascii ",") (ascii " entry ") (decimal c.in-Event.i) (ascii ":")))
    (omega arith)
