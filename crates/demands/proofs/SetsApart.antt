-- A flow of a plan that keeps its rules has one port and one frame set: where two have one flow's number, they are the same.
use mathlib.Core.Path.{◌≡◌, sym, ap, ◌∙◌}
use mathlib.Core.Bool.{true, ◌&&◌}
use Prim.Native.Nat.{ℕ}
use lib.Dec.{eqb}
use borrow.Author.Tests.{eqb-true, eq-eqb}
use Rattle.octets.proofs.Same.{both_true}
use Rattle.codec.specs.declared.FrameSet.{FrameSet}
use Rattle.codec.specs.FrameSet.{set_of}
use Rattle.plan.specs.declared.Flow.{Flow}
use Rattle.plan.specs.Plan.{Plan, flow_numbered, flow_of_set, in_plan, keeps_rules}
use Rattle.calls.proofs.SetFlows.{OfSet}
use Rattle.demands.specs.World.{same_set}
use Rattle.demands.proofs.Shows.{SmallSet}
use Rattle.demands.proofs.Flows.{found_set, found_port}

pub same_set_lem : (a b : FrameSet) → same_set a b ≡ true → a ≡ b
unfolding same_set set_of
same_set_lem a b e =
    let t : _ = both_true (eqb a.kind b.kind) (eqb a.vid b.vid) e in
    let parts : set_of a.kind a.vid ≡ set_of b.kind b.vid
    = rw (eqb-true a.kind b.kind t.0, eqb-true a.vid b.vid t.1) in
    parts

-- what is told of a port, a set and a source is told of the same ones
pub same_told : {A : Type 0} (tell : ℕ → FrameSet → ℕ → A) (p q : ℕ) (s t : FrameSet) (x y : ℕ)
    → (eqb p q && (same_set s t && eqb x y)) ≡ true → tell p s x ≡ tell q t y
same_told tell p q s t x y e =
    let one : _ = both_true (eqb p q) (same_set s t && eqb x y) e in
    let two : _ = both_true (same_set s t) (eqb x y) one.1 in
    rw (eqb-true p q one.0, same_set_lem s t two.0, eqb-true x y two.1)

pub sets_apart : (plan : Plan) → keeps_rules plan ≡ true → (p q : ℕ) (a b : FrameSet) → SmallSet a → SmallSet b
    → in_plan (flow_of_set q b plan).number ≡ true → (flow_of_set p a plan).number ≡ (flow_of_set q b plan).number
    → (eqb p q && same_set a b) ≡ true
unfolding same_set
sets_apart plan k p q a b sa sb there e =
    let here : in_plan (flow_of_set p a plan).number ≡ true = rw e there in
    let f : OfSet plan a (flow_of_set p a plan) = found_set plan k p a sa here in
    let g : OfSet plan b (flow_of_set q b plan) = found_set plan k q b sb there in
    let same : flow_of_set p a plan ≡ flow_of_set q b plan
    = sym f.numbered ∙ ap (λ (n : ℕ). flow_numbered n plan) e ∙ g.numbered in
    let ports : p ≡ q
    = sym (found_port plan k p a sa here) ∙ ap (λ (h : Flow). h.port) same ∙ found_port plan k q b sb there in
    let kinds : a.kind ≡ b.kind = sym f.kind_same ∙ ap (λ (h : Flow). h.kind) same ∙ g.kind_same in
    let vids : a.vid ≡ b.vid = sym f.vid_same ∙ ap (λ (h : Flow). h.vid) same ∙ g.vid_same in
    rw (eq-eqb p q ports, eq-eqb a.kind b.kind kinds, eq-eqb a.vid b.vid vids)
