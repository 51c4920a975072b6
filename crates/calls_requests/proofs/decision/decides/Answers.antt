use mathlib.Core.Path.{◌∙◌}
use Rattle.state.specs.Image.{state_of}
use Rattle.calls_requests.specs.Arrival.{arrived_in}
use Rattle.calls_requests.proofs.Arrivals.{allowed_is, session_is}
use Rattle.calls_requests.proofs.Decisions.{fault_right, decision_right}
use Rattle.calls_requests.proofs.decision.decides.Goals as goal

pub returns-in-Err : goal.returns-in-Err
unfolding arrived_in
returns-in-Err c =
    let a : _ = c.args in
    fault_right (state_of a.b.now) (arrived_in a.b.now a.a a.frame.now) a.request c.in-Err.code c.in-Err.ensures.0

pub new_session-new-requires : goal.new_session-new-requires
new_session-new-requires c =
    let k : _ = c.requires.known in
    (k.tag_few, k.tag_whole)

pub returns : goal.returns
unfolding arrived_in
returns c =
    let a : _ = c.args in
    let k : _ = c.requires.known in
    decision_right (state_of a.b.now) (arrived_in a.b.now a.a a.frame.now) a.request c.in-Ok.asked a.m
    c.in-Ok.ensures.0 c.in-Ok.ensures.1 (allowed_is k ∙ c.requires.allowed.0)
    c.requires.allowed.1.0 (c.new_session-new.ensures ∙ session_is k c.requires.allowed.1.1) c.condition_of.ensures.0 c.action-act.ensures
    c.full_at.ensures c.decide.ensures
