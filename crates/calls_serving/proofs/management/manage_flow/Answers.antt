use Rattle.machine.specs.Management.{managed_by}
use Rattle.state_store.proofs.Steps.{kept_key, keeps_managed}
use Rattle.std.proofs.Common.{rules}
use Rattle.calls_serving.proofs.ManageLaws.{managed_there}
use Rattle.calls_serving.proofs.management.manage_flow.Goals as goal

pub returns : goal.returns
returns c =
    let p : _ = c.requires.0 in
    managed_there _ p.ok _ _ p.low p.high c.allowed_by-on.ensures c.action-act.ensures
    (c.sweep_sessions.ensures.mapped (managed_by c.action-act.result c.args.flow) (λ x. kept_key (keeps_managed c.action-act.result c.args.flow x)) (λ x y says. search rules)) c.set_allowed.ensures
