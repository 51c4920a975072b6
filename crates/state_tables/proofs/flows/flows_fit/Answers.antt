use mathlib.Core.Path.{◌≡◌, ◌∙◌}
use mathlib.Core.List.{List}
use mathlib.Core.Bool.{false, and-true}
use Prim.Native.Nat.{ℕ, ◌*◌}
use native.Mathlib.Omega.{arith}
use lib.ListN.{get_or, drop}
use lib.Seq.{get_or-drop, drop-drop}
use Rattle.octets.specs.Octets.{low_number}
use Rattle.plan.specs.Plan.{port_numbered}
use Rattle.state.specs.Image.{state_of}
use Rattle.state_tables.specs.Pass.{none_seen, flow_fits, flow_seen, flows_right, ok_flows}
use Rattle.state_tables.proofs.TurnLaws.{ok_start, ok_end, ok_bad, ok_next, ok_done, none_behind}
use Rattle.state_tables.proofs.FlowTest.{seen, flow_low, flow_seen_lem, set_bad, place_told, right_at}
use Rattle.state_tables.proofs.flows.flows_fit.Goals as goal

pub loop-i-init : goal.loop-i-init
unfolding none_seen
loop-i-init c =
    let a : _ = c.args in
    let start : _ = ok_start (flow_fits a.b.now) flow_seen (flows_right a.b.now) 32 32 none_seen a.t.now in
    (start, (c.kind_of-kind.ensures, omega arith))

pub rest_zero-requires : goal.rest_zero-requires
rest_zero-requires c = (omega arith, omega arith)

pub returns-then-marks_fit : goal.returns-then-marks_fit
unfolding ok_flows
returns-then-marks_fit c =
    let s : _ = c.loop-i in
    let a : _ = c.args in
    let right : _ = right_at a.b.now s.last s.i s.odd s.marks c.marks_fit.ensures
    ∙ c.if-marks_fit.true in
    c.rest_zero.ensures
    ∙ (rw right at (ok_end s.invariant.0 (omega arith) c.low8.ensures c.if-low8-eq0.true))

pub returns-else-marks_fit : goal.returns-else-marks_fit
unfolding ok_flows
returns-else-marks_fit c =
    let s : _ = c.loop-i in
    let a : _ = c.args in
    let wrong : _ = right_at a.b.now s.last s.i s.odd s.marks c.marks_fit.ensures ∙ c.if-marks_fit.false in
    c.if-marks_fit.false ∙ (rw wrong at (ok_end s.invariant.0 (omega arith) c.low8.ensures c.if-low8-eq0.true))

pub returns-then-key-last : goal.returns-then-key-last
unfolding ok_flows
returns-then-key-last c =
    let row : List ℕ = drop (c.loop-i.i * 32)
    c.args.t.now in
    let keyed : c.low4-key.result ≡ low_number 4 (drop 4 row) = rw drop-drop c.low4-key.ensures in
    let bad : let a = c.args in let s = c.loop-i in flow_fits a.b.now (seen s.last s.i s.odd s.marks) row ≡ false → false ≡ ok_flows a.b.now a.t.now = λ e. let s : _ = c.loop-i in
    ok_bad s.invariant.0 (omega arith) c.low8.ensures c.if-low8-eq0.false e in
    bad (flow_low _ _ _ _ _ _ keyed c.if-key-last.true)

pub kind_again-kind-requires : goal.kind_again-kind-requires
kind_again-kind-requires c = c.loop-i.invariant.1.0

pub overflow_add-marks : goal.overflow_add-marks
overflow_add-marks c =
    omega (arith, c.marks_of-marks.ensures.1, c.loop-i.invariant.1.1)

pub loop-i-preserved : goal.loop-i-preserved
loop-i-preserved c =
    let row : List ℕ = drop (c.loop-i.i * 32)
    c.args.t.now in
    let keyed : c.low4-key.result ≡ low_number 4 (drop 4 row) = rw drop-drop c.low4-key.ensures in
    let known : let a = c.args in c.kind_again-kind.result ≡ (port_numbered (get_or row 7 0) (state_of a.b.now).plan).kind = rw get_or-drop c.kind_again-kind.ensures in
    let s : _ = c.loop-i in
    let o : _ = c.odd_of-odd.ensures in (
      ok_next s.invariant.0 (omega arith) c.low8.ensures c.if-low8-eq0.false
          (place_told _ _ _ _ _ _ keyed c.if-key-last.false known c.set_fits.ensures
          c.if-not-set_fits.false c.low4.ensures
          c.place_fits.ensures ∙ c.if-not-place_fits.false)
          (flow_seen_lem _ _ _ _ _ keyed o c.marks_of-marks.ensures.0 (rw drop-drop c.low8-in-loop-i.ensures)),
      (c.kind_again-kind.ensures, omega (arith, c.marks_of-marks.ensures.1, s.invariant.1.1)),
    )

pub returns-then-not-place_fits : goal.returns-then-not-place_fits
unfolding ok_flows
returns-then-not-place_fits c =
    let row : List ℕ = drop (c.loop-i.i * 32)
    c.args.t.now in
    let keyed : c.low4-key.result ≡ low_number 4 (drop 4 row) = rw drop-drop c.low4-key.ensures in
    let known : let a = c.args in c.kind_again-kind.result ≡ (port_numbered (get_or row 7 0) (state_of a.b.now).plan).kind = rw get_or-drop c.kind_again-kind.ensures in
    let bad : let a = c.args in let s = c.loop-i in flow_fits a.b.now (seen s.last s.i s.odd s.marks) row ≡ false → false ≡ ok_flows a.b.now a.t.now = λ e. let s : _ = c.loop-i in
    ok_bad s.invariant.0 (omega arith) c.low8.ensures c.if-low8-eq0.false e in
    let set : _ = c.set_fits.ensures in
    bad (place_told _ _ _ _ _ _ keyed c.if-key-last.false known set c.if-not-set_fits.false
    c.low4.ensures c.place_fits.ensures ∙ c.if-not-place_fits.true)

pub returns-then-not-set_fits : goal.returns-then-not-set_fits
unfolding ok_flows
returns-then-not-set_fits c =
    let row : List ℕ = drop (c.loop-i.i * 32)
    c.args.t.now in
    let keyed : c.low4-key.result ≡ low_number 4 (drop 4 row) = rw drop-drop c.low4-key.ensures in
    let known : let a = c.args in c.kind_again-kind.result ≡ (port_numbered (get_or row 7 0) (state_of a.b.now).plan).kind = rw get_or-drop c.kind_again-kind.ensures in
    let bad : let a = c.args in let s = c.loop-i in flow_fits a.b.now (seen s.last s.i s.odd s.marks) row ≡ false → false ≡ ok_flows a.b.now a.t.now = λ e. let s : _ = c.loop-i in
    ok_bad s.invariant.0 (omega arith) c.low8.ensures c.if-low8-eq0.false e in
    bad (set_bad _ _ _ _ _ _ keyed c.if-key-last.false known c.set_fits.ensures c.if-not-set_fits.true)

pub returns : goal.returns
unfolding ok_flows
returns c =
    let s : _ = c.loop-i in
    let a : _ = c.args in
    let right : _ = right_at a.b.now s.last 32 s.odd s.marks c.marks_fit-2.ensures in
    let all : s.i ≡ 32 = omega arith in
    rw (all, right, none_behind a.t.now 1024 (omega arith), and-true) at (ok_done s.invariant.0 (omega arith))

pub set_fits-requires : goal.set_fits-requires
set_fits-requires c = tt

pub marks_of-marks-requires : goal.marks_of-marks-requires
marks_of-marks-requires c = tt
