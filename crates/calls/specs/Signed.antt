-- The answer of the C interface to what the code of a call hands back.
use Rattle.std.specs.Prelude.{Result, Ok, Err, ℤ}
use Rattle.answers.specs.declared.Errno.{Errno}
use Rattle.answers.specs.Number.{number}
use Rattle.answers.specs.Answer.{refusal, done}

-- Inner: §2.1, §2.3: done, where no number was asked for, or refused
abbrev pub signed : Result Unit Errno → ℤ
signed (Ok u) = done 0
signed (Err e) = refusal (number e)
