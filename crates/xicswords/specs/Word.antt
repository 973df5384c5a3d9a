-- The 64-bit words of an XICS: the fields of a source's word and of a server's, which words are taken, which are fresh.
use Rattle.std.specs.Prelude.{ℕ, ◌^◌, Bool, ◌&&◌, not, ltb, eqb}
use Rattle.lists.specs.Rows.{choose}
use Rattle.fields.specs.Field.{get_field, put_field}

-- §14.5: the fields of a source's word
abbrev pub destination : ℕ → ℕ
destination w = get_field w 0 32

abbrev pub priority : ℕ → ℕ
priority w = get_field w 32 8

abbrev pub level : ℕ → ℕ
level w = get_field w 40 1

abbrev pub masked : ℕ → ℕ
masked w = get_field w 41 1

abbrev pub pending : ℕ → ℕ
pending w = get_field w 42 1

-- §14.6: the fields of a server's word
abbrev pub pending_priority : ℕ → ℕ
pending_priority v = get_field v 16 8

abbrev pub ipi_priority : ℕ → ℕ
ipi_priority v = get_field v 24 8

abbrev pub source_number : ℕ → ℕ
source_number v = get_field v 32 24

abbrev pub current_priority : ℕ → ℕ
current_priority v = get_field v 56 8

-- §14.5, §14.9: no bit above 42 is set
abbrev pub narrow : ℕ → Bool
narrow w = ltb w (2 ^ 43)

-- §14.10: the source number is 0 where the pending priority is 255, and nowhere else
unfoldable pub paired : ℕ → Bool
paired v = choose (eqb (source_number v) 0) (eqb (pending_priority v) 255) (not (eqb (pending_priority v) 255))

-- §14.10: a server's word with bits 15:0 made 0; §14.12: they are 0
abbrev pub trimmed : ℕ → ℕ
trimmed v = put_field v 0 16 0

abbrev pub is_trimmed : ℕ → Bool
is_trimmed v = eqb (get_field v 0 16) 0

-- §14.7: the word of a server that was just registered: nothing pending at either priority, all else 0
abbrev pub fresh_server : ℕ
fresh_server = put_field (put_field 0 16 8 255) 24 8 255

-- §14.8: the word of a source that was just registered with server d: destination d, priority 255, masked, all else 0
abbrev pub fresh_source : ℕ → ℕ
fresh_source d = put_field (put_field d 32 8 255) 41 1 1

-- §14.11: a source with word w is deliverable to its server, whose word is v
unfoldable pub delivers : ℕ → ℕ → Bool
delivers w v = eqb (pending w) 1 && (eqb (masked w) 0 && ltb (priority w) (current_priority v))
