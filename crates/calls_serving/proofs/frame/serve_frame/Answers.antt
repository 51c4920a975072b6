use native.Mathlib.Omega.{arith}
use Rattle.codec.proofs.Places.{tag_whole}
use Rattle.state.proofs.Inside.{flow_inside}
use Rattle.state.proofs.RowAnswers.{number_none, number_some}
use Rattle.calls_serving.proofs.FrameLaws.{no_set, there, no_flow_lem, flow_some, known, of_flow_lem}
use Rattle.calls_serving.proofs.frame.serve_frame.Goals as goal

pub set_of-requires : goal.set_of-requires
set_of-requires c = (c.requires.frame_some, c.source_of-sender.ensures.0)

pub returns-in_default : goal.returns-in_default
returns-in_default c =
    no_set _ _ _ _ _ c.requires c.set_of.result c.set_of.ensures c.in_default.is

pub number_of-requires : goal.number_of-requires
number_of-requires c = flow_inside _ c.requires.long _ _ c.flow_at-row.ensures

pub returns-in_default-number_of : goal.returns-in_default-number_of
returns-in_default-number_of c =
    no_flow_lem _ _ _ _ _ c.requires c.set_of.result c.set_of.ensures c.in-Some.is c.flow_at-row.ensures
    (number_none c.args.image.now _ c.in_default-number_of.ensures)

pub heading_of-heading-requires : goal.heading_of-heading-requires
heading_of-heading-requires c =
    let k : _ = c.requires in (
      tag_whole _ c.args.port.kind
          (there _ c.args.port _ _ _ k c.set_of.result c.set_of.ensures c.in-Some.is c.flow_at-row.ensures) k.frame_some,
      c.source_of-sender.ensures.0,
    )

pub mp_of-mp-requires : goal.mp_of-mp-requires
mp_of-mp-requires c = flow_inside _ c.requires.long _ _ c.flow_at-row.ensures

pub serve_arrival-requires : goal.serve_arrival-requires
serve_arrival-requires c =
    let n : _ = number_some c.args.image.now _ c.in-Some-number_of.ensures in
    let some : _ = flow_some _ c.args.port _ _ _ c.requires c.set_of.result c.set_of.ensures c.in-Some.is c.flow_at-row.ensures n.1 in (
      known _ _ _ _ _ c.requires c.set_of.result c.set_of.ensures c.in-Some.is c.flow_at-row.ensures
          n.0 (λ z. omega (arith, n.0, some)) c.heading_of-heading.ensures.0 c.mp_of-mp.ensures
          (rw c.source_of-sender.ensures.0 at c.source_of-sender.ensures.1) c.heading_of-heading.ensures.1,
      c.requires.room,
    )

pub returns : goal.returns
returns c =
    let n : _ = number_some c.args.image.now _ c.in-Some-number_of.ensures in
    let some : _ = flow_some _ c.args.port _ _ _ c.requires c.set_of.result c.set_of.ensures c.in-Some.is c.flow_at-row.ensures n.1 in
    of_flow_lem _ _ _ _ _ c.requires c.set_of.result c.set_of.ensures c.in-Some.is c.flow_at-row.ensures
    n.0 (λ z. omega (arith, n.0, some)) c.heading_of-heading.ensures.0 c.mp_of-mp.ensures
    c.serve_arrival.ensures
