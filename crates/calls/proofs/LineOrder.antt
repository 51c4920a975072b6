-- The order of a plan's lines shows in no state and in no octet.
use mathlib.Core.Path.{◌≡◌, sym, ap, ◌∙◌}
use mathlib.Core.List.{List}
use Prim.Native.Nat.{ℕ}
use Rattle.plan.specs.Plan.{Plan}
use Rattle.plan.specs.PlanText.{planned, plan_in}
use Rattle.plan.specs.SameRecords.{SameRecords}
use Rattle.plan.proofs.OrderFree.{order_free}
use Rattle.state.specs.State.{made}
use Rattle.calls.specs.Calls.{make, refusal, served, lent, handed, call, makes, enter}

-- a make call goes by what its text is read as
read_alike : (l t u : List ℕ) (clock : ℕ) → plan_in t ≡ plan_in u → enter l (make t clock) ≡ enter l (make u clock)
unfolding enter makes call refusal served handed lent
read_alike l t u clock e = rw e

-- two texts with the same records, in whatever order
module _ (t u : List ℕ) (p q : Plan) (e : plan_in t ≡ planned p) (f : plan_in u ≡ planned q) (same : SameRecords t u) where
  pub order_free_state : (clock : ℕ) → made p clock ≡ made q clock
  order_free_state clock = ap (λ plan. made plan clock) (order_free t u p q e f same)

  pub order_free_call : (l : List ℕ) (clock : ℕ) → enter l (make t clock) ≡ enter l (make u clock)
  order_free_call l clock = read_alike l t u clock (e ∙ ap planned (order_free t u p q e f same) ∙ sym f)
