use mathlib.Core.Path.{refl, sym, ◌∙◌}
use native.Mathlib.Omega.{arith}
use Rattle.plan.specs.Plan.{no_port}
use Rattle.state.proofs.Answers.{port_found}
use Rattle.state.proofs.Inside.{port_fits_lem}
use Rattle.state.proofs.RowFound.{found_none, found_some, found_there}
use Rattle.state.proofs.fields.port_numbered.Goals as goal

pub returns-in_default : goal.returns-in_default
unfolding no_port
returns-in_default c = (port_found _ _ refl).nothing (sym (found_none c.in_default.ensures))

pub read_port-requires : goal.read_port-requires
read_port-requires c = omega (arith, port_fits_lem _ _ (found_some c.in-Some.ensures))

pub returns : goal.returns
returns c = c.read_port.ensures ∙ (port_found _ _ (found_some c.in-Some.ensures)).something (found_there _ c.in-Some.ensures)
