use mathlib.Core.Path.{refl}
use Rattle.plan.specs.Plan.{no_flow}
use Rattle.plan_records.proofs.records.no_flow.Goals as goal

pub returns : goal.returns
unfolding no_flow
returns c = refl
