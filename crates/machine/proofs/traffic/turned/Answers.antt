use Rattle.machine.specs.Machine.{turned}
use Rattle.std.proofs.Common.{sym, ◌∙◌, eq-eqb, ne_eqb}
use Rattle.machine.proofs.traffic.turned.Goals as goal

pub returns-in_default : goal.returns-in_default
unfolding turned
returns-in_default c = rw c.in_default.is

pub returns-then-passes : goal.returns-then-passes
unfolding turned
returns-then-passes c = rw (c.in-Active.is, sym c.passes.ensures ∙ c.if-passes.true)

pub returns-then-side-s : goal.returns-then-side-s
unfolding turned
returns-then-side-s c = rw (c.in-Active.is, sym c.passes.ensures ∙ c.if-passes.false, eq-eqb _ _ c.if-side-s.true)

pub returns : goal.returns
unfolding turned
returns c = rw (c.in-Active.is, sym c.passes.ensures ∙ c.if-passes.false, ne_eqb _ _ c.if-side-s.false)
