-- `fields::field_put` meets its contract. Assumes nothing.
use mathlib.Core.Path.{◌≡◌}
use Prim.Native.Nat.{◌+◌, ◌-◌, ◌^◌}
use native.Mathlib.Omega.{arith}
use Rattle.fields.proofs.Masks.{put_word_lem}
use Rattle.fields.proofs.field_put.Goals as goal

pub returns : goal.returns
returns c =
    let a = c.args in
    let j = 64 - (a.width + a.pos) in
    let e : j + (a.width + a.pos) ≡ 64 = omega arith in
    let m : c.ones.result ≡ 2 ^ a.width - 1 = omega arith in
    rw e at (put_word_lem j a.width a.pos a.word a.value c.ones.result (rw e c.ranges.word.fits) c.requires.2 m)
