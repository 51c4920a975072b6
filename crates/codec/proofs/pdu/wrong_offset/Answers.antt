use borrow.Author.Tests.{eq-eqb, ne_eqb}
use Rattle.codec.specs.Request.{wrong_offset, version_of, offset_of, octet}
use Rattle.codec.proofs.pdu.wrong_offset.Goals as goal

pub returns-then-version-eq0 : goal.returns-then-version-eq0
unfolding wrong_offset version_of offset_of octet
returns-then-version-eq0 c =
    rw (← c.octet_at-offset.ensures, ← c.octet_at-version.ensures) (simp (eq-eqb _ _ c.if-version-eq0.true))

pub returns-else-version-eq0 : goal.returns-else-version-eq0
unfolding wrong_offset version_of offset_of octet
returns-else-version-eq0 c =
    rw (← c.octet_at-offset.ensures, ← c.octet_at-version.ensures) (simp (ne_eqb _ _ c.if-version-eq0.false))
