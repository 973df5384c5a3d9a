-- The explaining program: the text that it writes for an image.
use Rattle.std.specs.Prelude.{ℕ, List, ◌++◌, length}
use Rattle.lists.specs.Rows.{choose}
use Rattle.tables.specs.Fault.{Fault, kind_errno}
use Rattle.tables.specs.Restored.{Out, fault, found, restored}
use Rattle.lines.specs.Text.{ascii, decimal}
use Rattle.naming.specs.Naming.{fault_text}
use Rattle.image.specs.Image.{is_image, guest_of}

-- §13.11: what a refusal begins with: the answer is the errno with its sign turned (§2.1)
abbrev pub refused : ℕ → List ℕ
refused errno = ascii "refused -" ++ decimal errno ++ ascii ": "

-- §13.11: the line of a fault
unfoldable pub fault_line : Fault → List ℕ
fault_line f = refused (kind_errno f.kind) ++ fault_text f ++ ascii "\n"

-- §13.11: the line for a length that no image has
unfoldable pub early : List ℕ
early = refused 14 ++ ascii "before any table is read\n"

-- §13.11: what is said of a restore that is not refused before
abbrev pub told : Out → List ℕ
told (fault f) = fault_line f
told (found k) = ascii "described\n"

-- §13.11: the whole text
unfoldable pub explained : List ℕ → List ℕ
explained image = choose (is_image (length image)) (told (restored (guest_of (length image)) image)) early
