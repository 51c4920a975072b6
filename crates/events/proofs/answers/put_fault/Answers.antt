use native.Mathlib.Omega.{arith}
use Rattle.octets.specs.Text.{text}
use Rattle.events.proofs.Ends.{decimal_end, number_end}
use Rattle.events.proofs.Printed.{fault_put}
use Rattle.events.proofs.answers.put_fault.Goals as goal

pub put_decimal-end-requires : goal.put_decimal-end-requires
put_decimal-end-requires c =
    let a : _ = c.args in
    omega (arith, c.put_word-named.ensures.place, number_end a.line c.put_number-told.ensures)

pub bounds-out-end : goal.bounds-out-end
bounds-out-end c =
    let a : _ = c.args in
    omega (
      arith,
      c.put_word-named.ensures.place,
      number_end a.line c.put_number-told.ensures,
      decimal_end a.reason c.put_decimal-end.ensures,
    )

pub returns : goal.returns
unfolding text
returns c =
    let a : _ = c.args in
    fault_put a.line a.reason c.put_word-named.ensures c.put_number-told.ensures
    c.put_decimal-end.ensures (omega arith)
