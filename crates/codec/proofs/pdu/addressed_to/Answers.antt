use mathlib.Core.Path.{◌∙◌}
use borrow.Author.Tests.{le-leb, eq-eqb, ne_eqb}
use Rattle.codec.proofs.pdu.addressed_to.Goals as goal

pub returns-then-n-ge-LEAST_PDU : goal.returns-then-n-ge-LEAST_PDU
returns-then-n-ge-LEAST_PDU c =
    simp (
      ne_eqb _ _ c.if-h-port.false,
      eq-eqb _ _ (c.if-h-class2_of.true ∙ c.class2_of.ensures),
      eq-eqb _ _ c.if-h-eq-STATE.true,
      le-leb _ _ c.if-n-ge-LEAST_PDU.true,
    )
