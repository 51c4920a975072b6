-- A plan that is read keeps the plan's rules.
use mathlib.Core.Path.{◌≡◌, refl, subst}
use mathlib.Core.Bool.{true}
use mathlib.Core.List.{List, [], ◌∷◌}
use Prim.Native.Nat.{ℕ, ◌+◌, ◌≤◌}
use native.Mathlib.Omega.{arith}
use lib.ListN.{length}
use borrow.Author.Tests.{le-leb}
use Rattle.octets.specs.Lists.{every, ascends, distinct}
use Rattle.octets.proofs.Cases.{by_eq, by_lt}
use Rattle.plan.specs.Plan.{Plan, mp_count, keeps_rules, so_far}
use Rattle.plan.specs.Line.{Line, unreadable, port_line, flow_line, mp_line, line_of, parted, lf}
use Rattle.plan.specs.PlanText.{Reading, fault, planned, reason_of, added, finished, read_lines, empty_plan, plan_in}
use Rattle.plan.proofs.Fair.{fair_line}
use Rattle.plan.proofs.Kept.{rules_kept}
use Rattle.plan.proofs.Faultless.{port_cleared, flow_cleared, mp_cleared}
use Rattle.plan.proofs.AddedPort.{port_keeps}
use Rattle.plan.proofs.AddedFlow.{flow_keeps}
use Rattle.plan.proofs.AddedMp.{mp_keeps}
use Rattle.plan.proofs.FairLines.{line_fair}

pub added_keeps : (plan : Plan) (line : Line) → so_far plan ≡ true → fair_line line ≡ true → reason_of plan line ≡ 0
    → so_far (added line plan) ≡ true
unfolding reason_of
added_keeps plan unreadable h f e = absurd (omega arith)
added_keeps plan (port_line number kind address) h f e =
    port_keeps plan h number kind address f (port_cleared plan number address e)
added_keeps plan (flow_line number port kind vid) h f e =
    flow_keeps plan h number port kind vid (flow_cleared plan number port kind vid e)
added_keeps plan (mp_line flow kind level) h f e = mp_keeps flow kind level plan h f (mp_cleared plan flow level e)

-- what is read is a fault with a reason, or a plan that keeps the rules
abbrev Sound : Reading → Type 0
Sound (fault line reason) = reason ≡ 0 → ⊥
Sound (planned plan) = keeps_rules plan ≡ true

finished_sound : (plan : Plan) → so_far plan ≡ true → Sound (finished plan)
unfolding finished
finished_sound plan h =
    by_eq (length plan.ports) 0 (λ e s. rw e (λ z. omega arith))
    (λ e other. rw e (rules_kept plan (le-leb 1 (length plan.ports) (some (length plan.ports) other)) h))
  where
    some : (n : ℕ) → (n ≡ 0 → ⊥) → 1 ≤ n
    some n other = omega (arith, other)

lines_sound : (n : ℕ) (plan : Plan) (lines : List (List ℕ)) → so_far plan ≡ true → Sound (read_lines n plan lines)
unfolding read_lines
lines_sound n plan [] h = finished_sound plan h
lines_sound n plan (rest ∷ []) h = by_eq (length rest) 0 (λ e s. rw e (finished_sound plan h)) (λ e s. rw e (λ z. omega arith))
lines_sound n plan (line ∷ next ∷ lines) h =
    by_eq (reason_of plan (line_of line)) 0
    (λ e none.
    rw e
    (lines_sound (n + 1) (added (line_of line) plan) (next ∷ lines) (added_keeps plan (line_of line) h (line_fair line) none)))
    (λ e some. rw e some)

pub none_so_far : so_far empty_plan ≡ true
unfolding so_far empty_plan every ascends distinct mp_count
none_so_far = refl

in_sound : (l : List ℕ) → Sound (plan_in l)
unfolding plan_in
in_sound l = by_lt 8192 (length l) (λ e s. rw e (λ z. omega arith)) (λ e s. rw e (lines_sound 1 empty_plan (parted lf l) none_so_far))

pub read_keeps : (l : List ℕ) (plan : Plan) → plan_in l ≡ planned plan → keeps_rules plan ≡ true
read_keeps l plan e = subst Sound e (in_sound l)

pub fault_read : (l : List ℕ) (line reason : ℕ) → plan_in l ≡ fault line reason → reason ≡ 0 → ⊥
fault_read l line reason e = subst Sound e (in_sound l)
