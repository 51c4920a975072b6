-- The library's words for a number's octets, in either order, say the same as ours: of octets read at a place, and of those written.
use mathlib.Core.Path.{◌≡◌}
use mathlib.Core.List.{List, [], ◌∷◌}
use Prim.Native.Nat.{ℕ, ◌+◌}
use native.Mathlib.Nat.{div-one, div-div-eq-div-mul, add_assoc, add-zero}
use native.Mathlib.Omega.{arith}
use lib.ListN.{get_or, drop}
use lib.Seq.{get_or-drop, drop-drop}
use Rattle.std.specs.Int.{w16, w32, w64, to_le_bytes, to_be_bytes, from_le_bytes, from_be_bytes}
use Rattle.octets.specs.Octets.{number, octets, low_number, low_octets}

-- octets read at a place
module _ (at : ℕ) (l : List ℕ) where
  pub low_2 : from_le_bytes w16 (get_or l at 0 ∷ get_or l (at + 1) 0 ∷ [])
      ≡ low_number 2 (drop at l)
  unfolding low_number
  low_2 = simp (get_or-drop, drop-drop, add_assoc, add-zero) (omega arith)

  pub low_4 : from_le_bytes w32 (get_or l at 0 ∷ get_or l (at + 1) 0 ∷ get_or l (at + 2) 0 ∷ get_or l (at + 3) 0 ∷ [])
      ≡ low_number 4 (drop at l)
  unfolding low_number
  low_4 = simp (get_or-drop, drop-drop, add_assoc, add-zero) (omega arith)

  pub low_8 : from_le_bytes w64 (get_or l at 0 ∷ get_or l (at + 1) 0 ∷ get_or l (at + 2) 0 ∷ get_or l (at + 3) 0 ∷ get_or l (at + 4) 0 ∷ get_or l (at + 5) 0 ∷ get_or l (at + 6) 0 ∷ get_or l (at + 7) 0 ∷ [])
      ≡ low_number 8 (drop at l)
  unfolding low_number
  low_8 = simp (get_or-drop, drop-drop, add_assoc, add-zero) (omega arith)

  pub high_2 : from_be_bytes w16 (get_or l at 0 ∷ get_or l (at + 1) 0 ∷ [])
      ≡ number 2 (drop at l)
  unfolding number
  high_2 = simp (get_or-drop, drop-drop, add_assoc, add-zero) (omega arith)

  pub high_4 : from_be_bytes w32 (get_or l at 0 ∷ get_or l (at + 1) 0 ∷ get_or l (at + 2) 0 ∷ get_or l (at + 3) 0 ∷ [])
      ≡ number 4 (drop at l)
  unfolding number
  high_4 = simp (get_or-drop, drop-drop, add_assoc, add-zero) (omega arith)

pub to_high_4 : (x : ℕ) → to_be_bytes w32 x ≡ octets 4 x
unfolding octets
to_high_4 x = rw div-one

pub to_low_4 : (x : ℕ) → to_le_bytes w32 x ≡ low_octets 4 x
unfolding low_octets
to_low_4 x = simp div-div-eq-div-mul
