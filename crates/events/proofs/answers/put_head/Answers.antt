use native.Mathlib.Omega.{arith}
use Rattle.events.proofs.Puts.{put_then}
use Rattle.events.proofs.Ends.{number_end}
use Rattle.events.proofs.answers.put_head.Goals as goal

pub put_word-requires : goal.put_word-requires
put_word-requires c =
    let n : _ = c.put_number-end.ensures in
    omega (arith, number_end c.args.number n)

pub returns : goal.returns
returns c =
    let n : _ = c.put_number-end.ensures in
    let a : _ = c.args in
    put_then n c.put_word.ensures (omega (arith, number_end a.number n))
