use mathlib.Core.Path.{refl, sym, ap}
use native.Mathlib.Omega.{arith}
use lib.Seq.{get_or-drop}
use Rattle.plan.specs.declared.Port.{Port}
use Rattle.plan.specs.Plan.{no_port}
use Rattle.state.specs.Image.{port_in}
use Rattle.state.proofs.Answers.{port_found}
use Rattle.state.proofs.Inside.{port_fits_lem}
use Rattle.state.proofs.RowFound.{found_none, found_some, found_there}
use Rattle.state_tables.proofs.flows.kind_of.Goals as goal

pub returns-in_default : goal.returns-in_default
unfolding no_port
returns-in_default c =
    ap (λ (p : Port). p.kind)
    ((port_found c.args.b.now c.args.port refl).nothing (sym (found_none c.in_default.ensures)))

pub overflow_add-result : goal.overflow_add-result
overflow_add-result c = omega (arith, port_fits_lem _ _ (found_some c.in-Some.ensures))

pub bounds-b-at : goal.bounds-b-at
bounds-b-at c = omega (arith, port_fits_lem _ _ (found_some c.in-Some.ensures))

pub returns : goal.returns
unfolding port_in
returns c =
    rw get_or-drop
    at (ap (λ (p : Port). p.kind) ((port_found _ _ (found_some c.in-Some.ensures)).something (found_there _ c.in-Some.ensures)))
