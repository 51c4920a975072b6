-- One flow's row: what the pass tests in its octets, and the flow that is read from it.
use mathlib.Core.Path.{◌≡◌}
use mathlib.Core.Bool.{Bool, true, false, ◌&&◌, and_assoc, and_comm, and-true, and-false}
use mathlib.Core.List.{List}
use Prim.Native.Nat.{ℕ, ◌+◌, ◌*◌, ◌/◌, ◌%◌, ◌^◌, ◌≤◌, ◌<◌}
use native.Mathlib.Omega.{arith}
use lib.Dec.{eqb, ltb, leb}
use lib.ListN.{length, get_or, take, drop, length-drop}
use lib.Seq.{get_or-drop, drop-drop, length-take-le}
use borrow.Author.Tests.{lt-leb}
use Rattle.octets.specs.Octets.{low_number, same, all_zero}
use Rattle.octets.specs.Lists.{within, every}
use Rattle.octets.proofs.Cases.{by_eq}
use Rattle.octets.proofs.LowLaws.{low_fits}
use Rattle.octets.proofs.Laws.{Octets, octets_drop}
use Rattle.plan.specs.declared.Flow.{Flow}
use Rattle.plan.specs.declared.Port.{Port}
use Rattle.plan.specs.Plan.{Plan, mip, set_key, flow_key, port_numbered, in_plan, good_kind, good_vid, good_port, good_flow}
use Rattle.state.specs.Image.{flow_row, flow_in, state_of}
use Rattle.state.proofs.Cuts.{low_within}
use Rattle.state.proofs.RowLaws.{flow_key_in, flow_exact, flow_length}
use Rattle.state_tables.specs.Pass.{Seen, marks_of, place_fits, flow_fits, flow_seen}
use Rattle.state_tables.proofs.Tests.{and_left_comm}
use Rattle.octets.proofs.LowLaws.{sum_zero}
use Rattle.state_tables.proofs.OddLaw.{even, even_fits, even_seen, odd_row}
use Rattle.state_tables.proofs.SetLaw.{set_law}

-- ---- the number, alone in its four octets, and its place

four_octets : (l : List ℕ) → low_number 4 l ≡ get_or l 0 0 + (get_or l 1 0 + (get_or l 2 0 + get_or l 3 0 * 256) * 256) * 256
unfolding low_number
four_octets l = simp (get_or-drop, drop-drop) (omega arith)

too_high : (n k : ℕ) → (k ≡ 0 → ⊥) → within 1 32 (n + k * 256) ≡ false
unfolding within
too_high n k h = rw (lt-leb (n + k * 256) 32 (omega arith)) (and-false (leb 1 (n + k * 256)))

place_octets : (b : List ℕ) (place x n k : ℕ) → x < 256 → n < 256
    → place_fits b place (x + (n + k * 256) * 256) ≡ (eqb x 0 && eqb k 0 && (within 1 32 n && eqb (get_or b (63 + n) 0) place))
unfolding place_fits
place_octets b place x n k hx hn =
    let low : (x + (n + k * 256) * 256) % 256 ≡ x = omega arith in
    let high : (x + (n + k * 256) * 256) / 256 ≡ n + k * 256 = omega arith in
    by_eq k 0
    (λ t none. let e : n + k * 256 ≡ n = omega arith in rw (low, high, e, t) (simp (and_assoc, and-true)))
    (λ t more. rw (low, high, t, too_high n k more) (simp and-false))

place_law : (b l : List ℕ) (place : ℕ) → Octets l
    → place_fits b place (low_number 4 l)
    ≡ (eqb (get_or l 0 0) 0 && (eqb (get_or l 2 0) 0 && eqb (get_or l 3 0) 0)
    && (within 1 32 (get_or l 1 0) && eqb (get_or b (63 + get_or l 1 0) 0) place))
place_law b l place o =
    rw (four_octets l, place_octets b place (get_or l 0 0) (get_or l 1 0) (get_or l 2 0 + get_or l 3 0 * 256) (o 0) (o 1), sum_zero)

-- ---- the whole row

-- what the pass asks of a flow, and what it knows behind it
unfoldable pub fits : List ℕ → Seen → Flow → Bool
fits b s f = ltb s.last (flow_key f) && good_flow (state_of b).plan f && eqb (get_or b (63 + f.number) 0) (s.place + 1)

unfoldable pub next : Seen → Flow → Seen
next s f = record { last = flow_key f; place = s.place + 1; odd = 0; marks = s.marks + marks_of (low_number 8 f.mps) }

row_turn : (a i k v x y z w p e r : Bool)
    → (a && (i && k && v) && (x && (y && z) && (w && p)) && (e && r))
    ≡ (a && (w && i && k && v && true && e) && p && (x && y && z && r))
row_turn a i k v x y z w p e r = simp (and_assoc, and_left_comm, and_comm)

mps_eight : (l : List ℕ) → 32 ≤ length l → length (take 8 (drop 8 l)) ≡ 8
mps_eight l h = length-take-le 8 (drop 8 l) (omega (arith, length-drop 8 l))

vid_small : (l : List ℕ) → Octets l → low_number 2 (drop 4 l) < 65536
vid_small l o = low_fits 2 (drop 4 l) (octets_drop 4 l o)

set_in : (l : List ℕ) → Octets l → low_number 4 (drop 4 l) % 2 ^ 24 ≡ get_or l 6 0 * 65536 + low_number 2 (drop 4 l)
unfolding flow_in flow_key set_key
set_in l o = omega (arith, flow_key_in l, o 6, vid_small l o)

pub flow_law : (b : List ℕ) → every good_port (state_of b).plan.ports ≡ true
    → (s : Seen) (l : List ℕ) → Octets l → 32 ≤ length l
    → even_fits b s l ≡ (fits b s (flow_in l) && same (flow_row (flow_in l)) (take 32 l))
unfolding even_fits flow_fits fits good_flow flow_in
flow_law b g s l o h =
    let plan : Plan = (state_of b).plan in
    let port : Port = port_numbered (get_or l 7 0) plan in
    rw (
      flow_exact l o h,
      odd_row l o h,
      place_law b l (s.place + 1) o,
      set_in l o,
      set_law plan (get_or l 7 0) (get_or l 6 0) (low_number 2 (drop 4 l)) g (vid_small l o),
      flow_key_in l,
      mps_eight l h,
    )
    (row_turn (ltb s.last (low_number 4 (drop 4 l))) (in_plan port.number) (good_kind (get_or l 6 0) port.kind)
    (good_vid (get_or l 6 0) (low_number 2 (drop 4 l))) (eqb (get_or l 0 0) 0) (eqb (get_or l 2 0) 0) (eqb (get_or l 3 0) 0)
    (within 1 32 (get_or l 1 0)) (eqb (get_or b (63 + get_or l 1 0) 0) (s.place + 1))
    (every (λ mp. leb mp mip) (take 8 (drop 8 l))) (all_zero (take 16 (drop 16 l))))

pub next_law : (s : Seen) (l : List ℕ) → even_seen s l ≡ next s (flow_in l)
unfolding even_seen even flow_seen next flow_in
next_law s l = rw (flow_key_in l, low_within 8 8 (drop 8 l) (omega arith))

pub wide_law : (l : List ℕ) → 32 ≤ length l → length (flow_row (flow_in l)) ≡ 32
unfolding flow_in
wide_law l h = flow_length (flow_in l) (mps_eight l h)
