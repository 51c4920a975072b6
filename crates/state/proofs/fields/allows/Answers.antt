use native.Mathlib.Omega.{arith}
use Rattle.state.specs.State.{is_allowed}
use Rattle.state.specs.Image.{state_of}
use Rattle.state.proofs.RowAnswers.{allowed_at_lem}
use Rattle.state.proofs.fields.allows.Goals as goal

pub returns : goal.returns
unfolding is_allowed state_of
returns c = allowed_at_lem c.args.b.now c.args.flow (omega arith) (omega arith)
