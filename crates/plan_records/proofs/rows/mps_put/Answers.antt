use Rattle.std.proofs.Common.{arith, sym, ◌∙◌}
use Rattle.plan_records.proofs.InsertLaws.{changed_turn, changed_end, changed_all}
use Rattle.plan_records.proofs.rows.mps_put.Goals as goal

pub loop-f-init : goal.loop-f-init
loop-f-init c = changed_all _ _

pub loop-f-preserved : goal.loop-f-preserved
loop-f-preserved c = changed_turn c.loop-f.f-index _ _ c.loop-f.flows (omega arith) c.mp_put.ensures ∙ c.loop-f.invariant

pub returns : goal.returns
returns c = sym (changed_end c.loop-f.f-index _ c.loop-f.flows (omega arith)) ∙ c.loop-f.invariant
