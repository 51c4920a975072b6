-- Parts of a frame: its source, and the PDU behind its tag.
use mathlib.Core.Path.{◌≡◌}
use mathlib.Core.List.{List}
use Prim.Native.Nat.{ℕ, ◌+◌, ◌-◌, ◌<◌, ◌^◌}
use native.Mathlib.Omega.{arith}
use lib.ListN.{length, take, drop, length-drop}
use lib.Seq.{take_all}
use Rattle.octets.proofs.Laws.{Octets, octets_drop}
use Rattle.octets.proofs.Round.{number_fits}
use Rattle.codec.specs.FrameSet.{source, pdu_of}

-- the part of a frame behind its tag and type is its PDU
pub pdu_part : (taglen : ℕ) (frame : List ℕ) → take (length frame - (14 + taglen)) (drop (14 + taglen) frame) ≡ pdu_of taglen frame
unfolding pdu_of
pdu_part taglen frame =
    take_all (length frame - (14 + taglen)) (drop (14 + taglen) frame) (omega (arith, length-drop (14 + taglen) frame))

pub source_fits : (frame : List ℕ) → Octets frame → source frame < 2 ^ 48
unfolding source
source_fits frame o = number_fits 6 (drop 6 frame) (octets_drop 6 frame o)
