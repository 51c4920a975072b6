-- The library's word for a number's octets, the lowest first, says the same as ours.
use mathlib.Core.Path.{◌≡◌}
use Prim.Native.Nat.{ℕ}
use native.Mathlib.Nat.{div-div-eq-div-mul}
use Rattle.std.specs.Int.{w32, w64, to_le_bytes}
use Rattle.octets.specs.Octets.{low_octets}

pub to_low_4 : (x : ℕ) → to_le_bytes w32 x ≡ low_octets 4 x
unfolding low_octets
to_low_4 x = simp div-div-eq-div-mul

pub to_low_8 : (x : ℕ) → to_le_bytes w64 x ≡ low_octets 8 x
unfolding low_octets
to_low_8 x = simp div-div-eq-div-mul
