use native.Mathlib.Nat.{div-div-eq-div-mul}
use Rattle.octets.specs.Octets.{low_octets}
use Rattle.state.specs.Image.{zeros, port_row}
use Rattle.state_maker.proofs.image.port_octets.Goals as goal

pub returns : goal.returns
unfolding port_row low_octets zeros
returns c = rw (c.copy_from_slice.ensures.after, c.to_le_bytes.ensures) (simp div-div-eq-div-mul)
