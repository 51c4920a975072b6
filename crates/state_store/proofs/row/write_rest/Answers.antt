use Prim.Native.Nat.{◌+◌}
use Rattle.octets.proofs.Over.{splice_as}
use Rattle.state_store.proofs.row.write_rest.Goals as goal

pub returns : goal.returns
returns c =
    let a : _ = c.args in
    splice_as (a.at + 8) a.b.now c.put_at.ensures c.rest_octets.ensures
