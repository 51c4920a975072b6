use Rattle.machine.specs.Machine.{is_open}
use Rattle.machine.specs.Management.{managed_by}
use Rattle.std.proofs.Common.{eq-eqb, ne_eqb}
use Rattle.machine.proofs.management.managed_by.Goals as goal
use Rattle.machine.proofs.management.managed_by.Goals.{else-s-eq0-via-then-s-eq0+else-s-flow, else-s-eq0-via-else-s-eq0}

pub returns-then-s-flow : goal.returns-then-s-flow
unfolding managed_by is_open
returns-then-s-flow c = rw (eq-eqb _ _ c.if-s-eq0.true, eq-eqb _ _ c.if-s-flow.true) c.closed_by.ensures

pub returns : goal.returns
unfolding managed_by is_open
returns c =
    elim c.else-s-eq0.branch [
      | else-s-eq0-via-then-s-eq0+else-s-flow w ↦ rw (eq-eqb _ _ w.if-s-eq0.true, ne_eqb _ _ w.if-s-flow.false)
      | else-s-eq0-via-else-s-eq0 w ↦ rw (ne_eqb _ _ w.if-s-eq0.false)
    ]
