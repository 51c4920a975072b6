use mathlib.Core.Path.{◌∙◌}
use Rattle.octets.specs.Octets.{low_octets}
use Rattle.state.specs.Image.{zeros, session_row}
use Rattle.state_store.proofs.RowOctets.{to_low_4, to_low_8}
use Rattle.state_store.proofs.row.rest_octets.Goals as goal

pub returns : goal.returns
unfolding session_row low_octets zeros
returns c =
    let a : _ = c.args.x in
    rw (c.to_le_bytes-left.ensures ∙ to_low_4 a.left, c.to_le_bytes-tag.ensures ∙ to_low_8 a.tag)
