use mathlib.Core.Path.{refl, sym, ◌∙◌}
use lib.Dec.{eqb}
use Rattle.plan.specs.Plan.{no_port}
use Rattle.plan_reader.proofs.ReasonLaws.{found_there}
use Rattle.plan_reader.proofs.reasons.port_again.Goals as goal

pub returns-then-is_some : goal.returns-then-is_some
unfolding no_port
returns-then-is_some c =
    let t : _ = found_there (λ p. p.number) (λ p. eqb p.number c.args.number) no_port c.args.ports.now c.port_numbered.ensures refl in
    rw (sym t ∙ sym c.is_some.ensures ∙ c.if-is_some.true) c.if-is_some.true

pub returns-else-is_some : goal.returns-else-is_some
unfolding no_port
returns-else-is_some c =
    let t : _ = found_there (λ p. p.number) (λ p. eqb p.number c.args.number) no_port c.args.ports.now c.port_numbered.ensures refl in
    rw (sym t ∙ sym c.is_some.ensures ∙ c.if-is_some.false) c.address_held.ensures
