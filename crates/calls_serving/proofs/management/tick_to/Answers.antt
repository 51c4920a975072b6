use Rattle.machine.specs.Time.{ticked}
use Rattle.state_store.proofs.Steps.{kept_key, keeps_ticked}
use Rattle.std.proofs.Common.{rules}
use Rattle.calls_serving.proofs.ManageLaws.{ticked_there}
use Rattle.calls_serving.proofs.management.tick_to.Goals as goal

pub returns : goal.returns
returns c =
    ticked_there _ c.requires.ok _ c.clock_of.ensures c.elapsed-passed.ensures
    (c.sweep_sessions.ensures.mapped (ticked c.elapsed-passed.result) (λ x. kept_key (keeps_ticked c.elapsed-passed.result x)) (λ x y says. search rules)) c.set_clock.ensures
