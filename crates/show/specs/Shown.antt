-- The showing program: the text that it writes for an image.
use Rattle.std.specs.Prelude.{ℕ, List, ◌++◌, length}
use Rattle.lists.specs.Rows.{choose}
use Rattle.tables.specs.Fault.{kind_errno}
use Rattle.tables.specs.Restored.{Out, fault, found, restored}
use Rattle.lines.specs.Text.{ascii, decimal}
use Rattle.listing.specs.Listing.{listing}
use Rattle.image.specs.Image.{is_image, guest_of}

-- §11.3: the line of a refusal: the answer is the errno with its sign turned (§2.1)
unfoldable pub refusal : ℕ → List ℕ
refusal errno = ascii "refused -" ++ decimal errno ++ ascii "\n"

-- §11.2, §11.3: the mapping that a restore finds, or the line of its refusal
abbrev pub answered : Out → List ℕ
answered (fault f) = refusal (kind_errno f.kind)
answered (found k) = listing k

-- §11.1: the whole text: of a length that no image has, the line of -14
unfoldable pub shown : List ℕ → List ℕ
shown image = choose (is_image (length image)) (answered (restored (guest_of (length image)) image)) (refusal 14)
