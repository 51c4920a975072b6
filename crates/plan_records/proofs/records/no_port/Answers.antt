use mathlib.Core.Path.{refl}
use Rattle.plan.specs.Plan.{no_port}
use Rattle.plan_records.proofs.records.no_port.Goals as goal

pub returns : goal.returns
unfolding no_port
returns c = refl
