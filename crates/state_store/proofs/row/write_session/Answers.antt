use mathlib.Core.Path.{◌∙◌}
use Rattle.octets.proofs.Over.{splice_as}
use Rattle.machine.specs.Machine.{key_of}
use Rattle.state_store.proofs.RowOctets.{to_low_8}
use Rattle.state_store.proofs.Ways.{row_written}
use Rattle.state_store.proofs.row.write_session.Goals as goal

pub returns : goal.returns
returns c =
    let a : _ = c.args in
    row_written a.at a.x a.b.now c.requires.0
    (splice_as a.at a.b.now c.put_at.ensures (rw c.key_of.ensures at c.to_le_bytes.ensures ∙ to_low_8 (key_of a.x)))
    c.write_rest.ensures
