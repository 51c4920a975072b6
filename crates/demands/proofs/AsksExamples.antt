-- Demand 3 on the bench: the replies to B1 and B2, and requests that are not such as it speaks of.
use mathlib.Core.Path.{◌≡◌, refl, sym}
use mathlib.Core.Bool.{Bool, true, false, not, true≢false}
use mathlib.Core.List.{List, [], ◌∷◌, ◌++◌, map}
use Prim.Native.Nat.{ℕ}
use native.Mathlib.Omega.{arith}
use lib.Dec.{leb}
use lib.ListN.{length}
use Rattle.octets.specs.Lists.{within}
use Rattle.octets.specs.Text.{hex}
use Rattle.codec.specs.FrameSet.{external, cen, destination}
use Rattle.codec.specs.Request.{type_of, malformed}
use Rattle.plan.proofs.Examples.{bench_plan}
use Rattle.calls.specs.Frame.{pdu, for_mp}
use Rattle.calls.specs.Bench.{to_port, to_tester}
use Rattle.demands.specs.World.{fresh}
use Rattle.demands.specs.Frame.{is_for, arrived}
use Rattle.demands.specs.LaterRuns.{Asks, Replies}
use Rattle.demands.proofs.BenchLater.{timer, unknown9, computed}
use Rattle.demands.proofs.LaterBench.{set20}

-- The replies of the bench are two such replies.
b2_replies :
    Replies 20 (timer ∷ []) (unknown9 ∷ timer ∷ [])
    (to_tester (hex "80 38 01 08 01 00 02 00 00 00 00 01 25 00 05 01 00 00 00 3C 00"))
    (to_tester (hex "80 38 05 08 01 00 02 00 00 00 00 01 25 00 05 01 00 00 00 3C 09 00 01 FF 00"))
unfolding computed
b2_replies =
    record {
      start = hex "02 00 00 00 00 AA 02 00 00 00 00 01 81 00 00 14 89 02 80 38";
      flags = 1;
      rest = hex "08 01 00 02 00 00 00 00 01 25 00 05 01 00 00 00 3C";
      start_length = refl;
      flags_small = omega arith;
      old_is = refl;
      new_is = refl;
    }

-- ---- requests that are none of those

-- From a side, with a PDU: is it for an MP; has it 12 PDU octets; is its type 1 to 3; is it well-formed?
asked : ℕ → List ℕ → List Bool
unfolding fresh
asked side written =
    let a = arrived (fresh bench_plan 0) 1 side set20 4 (to_port written) in
    is_for (for_mp a)
    ∷ leb 12 (length (pdu a))
    ∷ within 1 3 (type_of (pdu a))
    ∷ not (malformed (for_mp a) (destination (to_port written)) (pdu a))
    ∷ []

-- B1; at level 5; cut to 11 octets; of type 4; with its End cut off; and B1 from the other side
asked_each :
    map (asked cen) (
    hex "80 39 00 08 01 00 02 00 00 00 00 01 25 00 05 01 00 00 00 3C 00"
    ∷ hex "A0 39 00 08 01 00 02 00 00 00 00 01 25 00 05 01 00 00 00 3C 00"
    ∷ hex "80 39 00 08 01 00 02 00 00 00 00"
    ∷ hex "80 39 00 08 04 00 02 00 00 00 00 01 00"
    ∷ hex "80 39 00 08 01 00 02 00 00 00 00 01 25 00 05 01 00 00 00 3C"
    ∷ [])
    ++ (asked external (hex "80 39 00 08 01 00 02 00 00 00 00 01 25 00 05 01 00 00 00 3C 00") ∷ [])
    ≡ (true ∷ true ∷ true ∷ true ∷ [])
    ∷ (false ∷ true ∷ true ∷ true ∷ [])
    ∷ (true ∷ false ∷ true ∷ false ∷ [])
    ∷ (true ∷ true ∷ false ∷ true ∷ [])
    ∷ (true ∷ true ∷ true ∷ false ∷ [])
    ∷ (false ∷ true ∷ true ∷ true ∷ [])
    ∷ []
unfolding computed asked
asked_each = refl

-- So of a request with its End cut off, or of type 4, there is no rewriting.
cut_not_asked : Asks (fresh bench_plan 0) 1 cen set20 4 (to_port (hex "80 39 00 08 01 00 02 00 00 00 00 01 25 00 05 01 00 00 00 3C")) → ⊥
unfolding computed fresh
cut_not_asked a = true≢false a.well_formed

type_4_not_asked : Asks (fresh bench_plan 0) 1 cen set20 4 (to_port (hex "80 39 00 08 04 00 02 00 00 00 00 01 00")) → ⊥
unfolding computed fresh
type_4_not_asked a = true≢false (sym a.type_known)
