-- The number of each fault is that of a reason.
use mathlib.Core.Path.{◌≡◌, refl, sym, subst}
use mathlib.Core.Bool.{Bool, true, false, cond}
use mathlib.Core.List.{List, [], ◌∷◌}
use Prim.Native.Nat.{ℕ, ◌+◌, ◌≤◌}
use native.Mathlib.Omega.{arith}
use lib.Dec.{leb}
use lib.ListN.{length}
use borrow.Author.Tests.{leb-true}
use Rattle.std.specs.Bool.{⊤}
use Rattle.octets.proofs.Cases.{by_eq, by_lt}
use Rattle.plan.specs.Plan.{Plan}
use Rattle.plan.specs.Line.{Line, unreadable, port_line, flow_line, mp_line, line_of, parted, lf}
use Rattle.plan.specs.PlanText.{Reading, fault, planned, port_reason, flow_reason, mp_reason, reason_of, added, finished, read_lines, empty_plan, plan_in}
use Rattle.plan.proofs.ReadKeeps.{fault_read}
use Rattle.plan_reader.specs.ReadPlan.{reason_number, reason_numbered}

port_low : (a b : Bool) → leb (cond a 2 (cond b 4 0)) 7 ≡ true
port_low true b = refl
port_low false true = refl
port_low false false = refl

flow_low : (a b c d : Bool) → leb (cond a 2 (cond b 3 (cond c 2 (cond d 4 0)))) 7 ≡ true
flow_low true b c d = refl
flow_low false true c d = refl
flow_low false false true d = refl
flow_low false false false d = port_low false d

mp_low : (a b c d : Bool) → leb (cond a 2 (cond b 3 (cond c 4 (cond d 7 0)))) 7 ≡ true
mp_low true b c d = refl
mp_low false true c d = refl
mp_low false false true d = refl
mp_low false false false true = refl
mp_low false false false false = refl

line_low : (plan : Plan) (line : Line) → leb (reason_of plan line) 7 ≡ true
unfolding reason_of port_reason flow_reason mp_reason
line_low plan unreadable = refl
line_low plan (port_line number kind address) = search port_low
line_low plan (flow_line number port kind vid) = search flow_low
line_low plan (mp_line flow kind level) = search mp_low

abbrev Low : Reading → Type 0
Low (fault line reason) = leb reason 7 ≡ true
Low (planned plan) = ⊤

finished_low : (plan : Plan) → Low (finished plan)
unfolding finished
finished_low plan = by_eq (length plan.ports) 0 (λ e s. rw e refl) (λ e s. rw e tt)

lines_low : (n : ℕ) (plan : Plan) (lines : List (List ℕ)) → Low (read_lines n plan lines)
unfolding read_lines
lines_low n plan [] = finished_low plan
lines_low n plan (rest ∷ []) = by_eq (length rest) 0 (λ e s. rw e (finished_low plan)) (λ e s. rw e refl)
lines_low n plan (line ∷ next ∷ lines) =
    by_eq (reason_of plan (line_of line)) 0
    (λ e none. rw e (lines_low (n + 1) (added (line_of line) plan) (next ∷ lines)))
    (λ e some. rw e (line_low plan (line_of line)))

in_low : (l : List ℕ) → Low (plan_in l)
unfolding plan_in
in_low l = by_lt 8192 (length l) (λ e s. rw e refl) (λ e s. rw e (lines_low 1 empty_plan (parted lf l)))

numbered_back : (n : ℕ) → (n ≡ 0 → ⊥) → n ≤ 7 → reason_number (reason_numbered n) ≡ n
unfolding reason_number reason_numbered
numbered_back n some low =
    by_eq n 1 (λ e z. rw e (sym z))
    (λ e₁ z₁. rw e₁
    (by_eq n 2 (λ e z. rw e (sym z))
    (λ e₂ z₂. rw e₂
    (by_eq n 3 (λ e z. rw e (sym z))
    (λ e₃ z₃. rw e₃
    (by_eq n 4 (λ e z. rw e (sym z))
    (λ e₄ z₄. rw e₄
    (by_eq n 5 (λ e z. rw e (sym z))
    (λ e₅ z₅. rw e₅
    (by_eq n 6 (λ e z. rw e (sym z))
    (λ e₆ z₆. rw e₆ (omega (arith, some, low, z₁, z₂, z₃, z₄, z₅, z₆)))))))))))))

pub fault_numbered : (l : List ℕ) (line reason : ℕ) → plan_in l ≡ fault line reason → reason_number (reason_numbered reason) ≡ reason
fault_numbered l line reason e =
    numbered_back reason (fault_read l line reason e) (leb-true reason 7 (subst Low e (in_low l)))
