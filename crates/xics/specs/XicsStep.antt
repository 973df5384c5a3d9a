-- §14.13: one total definition of every call on an XICS; the promise of each of these exports says that the call leaves what is said here.
use Rattle.std.specs.Prelude.{ℕ, List, pos, length}
use Rattle.calls.specs.Call.{value_of, given, answered}
use Rattle.step.specs.Step.{After, writes, gives, tells}
use Rattle.xicsrows.specs.XicsLayout.{size, server, source}
use Rattle.xics.specs.declared.XicsChange.TheVariants.{AddServer, AddSource, SetSource, SetServer}
use Rattle.xics.specs.Calls.{changes_xics, set_up_xics, asks_word, asks_delivery}

-- §14.13: a call: one for each function of the header whose name begins with rk_xics_, with its numbers in their order
pub data XicsCall : Type 0 where
  xics_len xics_setup : XicsCall
  add_server : ℕ → XicsCall
  add_source : ℕ → ℕ → XicsCall
  set_source set_server get_source get_server deliverable : ℕ → XicsCall

-- §14.13: the call on an XICS and the value that is lent to it, which is empty where none is. §14.2: the length is answered of every XICS
abbrev pub xics_step : XicsCall → List ℕ → List ℕ → After
xics_step xics_len s v = tells (pos size) s v
xics_step xics_setup s v = writes (set_up_xics s) v
xics_step (add_server n) s v = writes (changes_xics (AddServer n) s) v
xics_step (add_source n d) s v = writes (changes_xics (AddSource n d) s) v
xics_step (set_source n) s v = writes (changes_xics (SetSource n (length v) (value_of v)) s) v
xics_step (set_server n) s v = writes (changes_xics (SetServer n (length v) (value_of v)) s) v
xics_step (get_source n) s v = gives s (given (asks_word source n (length v) s) v)
xics_step (get_server n) s v = gives s (given (asks_word server n (length v) s) v)
xics_step (deliverable n) s v = tells (answered (asks_delivery n s)) s v
