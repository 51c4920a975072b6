use mathlib.Core.Path.{refl, sym, ◌∙◌}
use lib.Dec.{eqb}
use Rattle.plan.specs.Plan.{no_flow}
use Rattle.plan_reader.proofs.ReasonLaws.{found_there}
use Rattle.plan_reader.proofs.reasons.flow_again.Goals as goal

pub returns-then-is_some : goal.returns-then-is_some
unfolding no_flow
returns-then-is_some c =
    let t : _ = found_there (λ f. f.number) (λ f. eqb f.number c.args.number) no_flow c.args.flows.now c.flow_numbered.ensures refl in
    rw (sym t ∙ sym c.is_some.ensures ∙ c.if-is_some.true) c.if-is_some.true

pub returns-else-is_some : goal.returns-else-is_some
unfolding no_flow
returns-else-is_some c =
    let t : _ = found_there (λ f. f.number) (λ f. eqb f.number c.args.number) no_flow c.args.flows.now c.flow_numbered.ensures refl in
    rw (sym t ∙ sym c.is_some.ensures ∙ c.if-is_some.false) c.set_held.ensures
