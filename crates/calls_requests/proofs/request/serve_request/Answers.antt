use mathlib.Core.Path.{◌≡◌, sym, ◌∙◌}
use Rattle.state.specs.Image.{state_of}
use Rattle.state.specs.State.{is_allowed}
use Rattle.calls_requests.proofs.Ways.{short_served, long_served, forwarded_served, dropped_served}
use Rattle.calls_requests.proofs.request.serve_request.Goals as goal

pub allows-requires : goal.allows-requires
allows-requires c =
    let k : _ = c.requires.0 in
    rw c.wide.ensures.0 (k.flow_some, k.flow_fits)

pub returns-then-frame-a : goal.returns-then-frame-a
returns-then-frame-a c =
    let allowed : c.allows.result ≡ is_allowed c.args.a.flow (state_of c.args.image.now) = rw (← c.wide.ensures.0) c.allows.ensures in
    short_served c.requires.0 c.requires.1.1 _ c.args.whom (sym allowed ∙ c.if-allows.true) c.if-frame-a.true

pub answers-requires : goal.answers-requires
answers-requires c =
    let allowed : c.allows.result ≡ is_allowed c.args.a.flow (state_of c.args.image.now) = rw (← c.wide.ensures.0) c.allows.ensures in
    let p : _ = c.requires in
    record { known = (p.0, p.1.0); allowed = (sym allowed ∙ c.if-allows.true, (c.if-frame-a.false, p.1.1)) }

pub returns-then-allows : goal.returns-then-allows
returns-then-allows c =
    let allowed : c.allows.result ≡ is_allowed c.args.a.flow (state_of c.args.image.now) = rw (← c.wide.ensures.0) c.allows.ensures in
    long_served c.requires.0 c.requires.1.1 c.args.out.now c.args.whom (sym allowed ∙ c.if-allows.true) c.if-frame-a.false c.answers.ensures

pub returns-then-goes_on : goal.returns-then-goes_on
returns-then-goes_on c =
    let allowed : c.allows.result ≡ is_allowed c.args.a.flow (state_of c.args.image.now) = rw (← c.wide.ensures.0) c.allows.ensures in
    forwarded_served c.requires.0 c.requires.1.1 _ c.args.whom (sym allowed ∙ c.if-allows.false) c.goes_on.ensures c.if-goes_on.true

pub returns : goal.returns
returns c =
    let allowed : c.allows.result ≡ is_allowed c.args.a.flow (state_of c.args.image.now) = rw (← c.wide.ensures.0) c.allows.ensures in
    dropped_served c.requires.0 c.requires.1.1 _ c.args.whom (sym allowed ∙ c.if-allows.false) c.goes_on.ensures c.if-goes_on.false
