use native.Mathlib.Omega.{arith}
use Rattle.octets.specs.Text.{text}
use Rattle.events.proofs.Ends.{number_end, head_end}
use Rattle.events.proofs.Printed.{refusal_put}
use Rattle.events.proofs.answers.put_refusal.Goals as goal

pub put_word-told-requires : goal.put_word-told-requires
put_word-told-requires c =
    let a : _ = c.args in
    omega (arith, head_end a.number a.word.now c.put_head-named.ensures)

pub put_number-counted-requires : goal.put_number-counted-requires
put_number-counted-requires c =
    let a : _ = c.args in
    omega (arith, head_end a.number a.word.now c.put_head-named.ensures, c.put_word-told.ensures.place)

pub put_last-requires : goal.put_last-requires
put_last-requires c =
    let a : _ = c.args in
    omega (
      arith,
      head_end a.number a.word.now c.put_head-named.ensures,
      c.put_word-told.ensures.place,
      number_end a.refusal c.put_number-counted.ensures,
    )

pub returns : goal.returns
unfolding text
returns c =
    let a : _ = c.args in
    refusal_put a.number a.word.now c.put_head-named.ensures a.refusal c.put_word-told.ensures
    c.put_number-counted.ensures c.put_last.ensures (omega arith)
