use native.Mathlib.Omega.{arith}
use Rattle.plan_reader.proofs.AddLaws.{FlowFits, flow_fits_lem, flow_added}
use Rattle.plan_reader.proofs.additions.with_flow.Goals as goal

pub returns : goal.returns
returns c =
    let fits : let a : _ = c.args in FlowFits a.r.now a.number a.port a.kind a.vid = let a : _ = c.args in
    flow_fits_lem a.r.now c.requires.1 a.number a.port a.kind a.vid c.requires.2 in
    let a : _ = c.args in
    flow_added a.r.now c.requires.0 a.number a.port a.kind a.vid fits
    c.flow_put.ensures

pub overflow_cast-flow : goal.overflow_cast-flow
overflow_cast-flow c =
    let fits : let a : _ = c.args in FlowFits a.r.now a.number a.port a.kind a.vid = let a : _ = c.args in
    flow_fits_lem a.r.now c.requires.1 a.number a.port a.kind a.vid c.requires.2 in
    omega (arith, fits.low)

pub overflow_cast-flow-2 : goal.overflow_cast-flow-2
overflow_cast-flow-2 c =
    let fits : let a : _ = c.args in FlowFits a.r.now a.number a.port a.kind a.vid = let a : _ = c.args in
    flow_fits_lem a.r.now c.requires.1 a.number a.port a.kind a.vid c.requires.2 in
    omega (arith, fits.port_low)

pub overflow_cast-flow-3 : goal.overflow_cast-flow-3
overflow_cast-flow-3 c =
    let fits : let a : _ = c.args in FlowFits a.r.now a.number a.port a.kind a.vid = let a : _ = c.args in
    flow_fits_lem a.r.now c.requires.1 a.number a.port a.kind a.vid c.requires.2 in
    omega (arith, fits.vid_low)
