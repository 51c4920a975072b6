use borrow.Author.Tests.{eq-eqb, ne_eqb}
use Rattle.plan.specs.Line.{is_address, address_in}
use Rattle.plan_lines.specs.Fields.{is_hex, hex_on}
use Rattle.plan_lines.proofs.fields.address_of.Goals as goal

pub returns-then-f-ne-ADDRESS_DIGITS : goal.returns-then-f-ne-ADDRESS_DIGITS
unfolding is_address
returns-then-f-ne-ADDRESS_DIGITS c = simp (ne_eqb _ _ c.if-f-ne-ADDRESS_DIGITS.true)

pub returns : goal.returns
unfolding is_address address_in hex_on is_hex
returns c = simp (eq-eqb _ _ c.if-f-ne-ADDRESS_DIGITS.false) c.hex_of.ensures
