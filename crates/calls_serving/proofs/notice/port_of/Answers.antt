use mathlib.Core.Path.{refl}
use Prim.Native.Nat.{◌+◌, ◌≤◌}
use native.Mathlib.Omega.{arith}
use lib.ListN.{length}
use Rattle.state.proofs.Inside.{numbered_fits}
use Rattle.state.proofs.RowFound.{if_found}
use Rattle.calls_serving.proofs.NoticeLaws.{port_found}
use Rattle.calls_serving.proofs.notice.port_of.Goals as goal

pub port_in-requires : goal.port_in-requires
port_in-requires c =
    if_found (λ at. at + 32 ≤ length c.args.b.now) c.numbered_at-row.ensures
    (omega (arith, c.requires.long, numbered_fits c.args.b.now c.args.x.flow refl))

pub returns : goal.returns
returns c = port_found _ c.requires.ok _ c.numbered_at-row.ensures c.port_in.ensures c.port_numbered.ensures
