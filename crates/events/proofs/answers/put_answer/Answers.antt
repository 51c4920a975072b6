use native.Mathlib.Omega.{arith}
use lib.ListN.{length}
use Rattle.events.proofs.Ends.{number_end, head_end, outcome_end}
use Rattle.events.proofs.Printed.{answer_put}
use Rattle.events.proofs.answers.put_answer.Goals as goal

pub put_outcome-told-requires : goal.put_outcome-told-requires
put_outcome-told-requires c =
    let a : _ = c.args in
    omega (arith, head_end a.number a.word.now c.put_head-named.ensures)

pub put_number-counted-requires : goal.put_number-counted-requires
put_number-counted-requires c =
    let a : _ = c.args in
    omega (
      arith,
      head_end a.number a.word.now c.put_head-named.ensures,
      outcome_end a.outcome c.put_outcome-told.ensures,
    )

pub put_last-requires : goal.put_last-requires
put_last-requires c =
    let a : _ = c.args in
    omega (
      arith,
      head_end a.number a.word.now c.put_head-named.ensures,
      outcome_end a.outcome c.put_outcome-told.ensures,
      number_end (length a.octets.now) c.put_number-counted.ensures,
    )

pub returns : goal.returns
returns c =
    let a : _ = c.args in
    answer_put a.number a.word.now c.put_head-named.ensures a.outcome a.octets.now c.put_outcome-told.ensures
    c.put_number-counted.ensures c.put_last.ensures (omega arith)
