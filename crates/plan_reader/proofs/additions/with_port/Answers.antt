use native.Mathlib.Omega.{arith}
use Rattle.plan_reader.proofs.AddLaws.{PortFits, port_fits_lem, port_added}
use Rattle.plan_reader.proofs.additions.with_port.Goals as goal

pub returns : goal.returns
returns c =
    let fits : PortFits c.args.r.now c.args.number = let a : _ = c.args in
    port_fits_lem a.r.now c.requires.1 a.number a.address c.requires.2 in
    let a : _ = c.args in
    port_added a.r.now c.requires.0 a.number a.kind a.address fits c.port_put.ensures

pub overflow_cast-port : goal.overflow_cast-port
overflow_cast-port c =
    let fits : PortFits c.args.r.now c.args.number = let a : _ = c.args in
    port_fits_lem a.r.now c.requires.1 a.number a.address c.requires.2 in
    omega (arith, fits.low)
