-- Every definition that a run of calls on an XICS computes with, under one name: a proof that says `unfolding computed` has them all.
use Prim.Native.Nat.{ℕ}
use Rattle.lists.specs.Rows.{find_ix, all}
use Rattle.fields.specs.Field.{get_field, put_field}
use Rattle.words.specs.Words.{le, bytes_of, le_at, put_at, rows_of, bytes_all}
use Rattle.calls.specs.Call.{value_of}
use Rattle.xicswords.specs.Word.{paired, delivers}
use Rattle.xicsrows.specs.XicsLayout.{row_of, table, put_word, added, worded, cleared, counts_ok}
use Rattle.xicsrows.specs.Registered.{index_of, registered, word_of, distinct}
use Rattle.xicsrules.specs.Sound.{server_ok, takes, source_ok, sound_xics}
use Rattle.xics.specs.Faults.{server_fault, source_fault, word_fault, source_word_fault, server_word_fault}
use Rattle.xics.specs.Calls.{changes_xics, set_up_xics, asks_word, delivery, asks_delivery}

unfoldable pub computed : ℕ
unfolding find_ix all get_field put_field le bytes_of le_at put_at rows_of bytes_all value_of paired delivers row_of table put_word added worded cleared counts_ok index_of registered word_of distinct server_ok takes source_ok sound_xics server_fault source_fault word_fault source_word_fault server_word_fault changes_xics set_up_xics asks_word delivery asks_delivery
computed = 0
