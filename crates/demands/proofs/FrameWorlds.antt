-- The world after a frame call: as it was, or with the frame's own machine after a step. A step that changes it is that of an
-- Activate or a Deactivate for an MP that is carried out.
use mathlib.Core.Path.{◌≡◌, refl, sym, subst}
use mathlib.Core.Bool.{Bool, true, false, cond}
use Prim.Native.Nat.{ℕ}
use lib.Dec.{ltb}
use lib.ListN.{length}
use Rattle.codec.specs.declared.FrameSet.{FrameSet}
use Rattle.codec.specs.declared.Addressed.{Addressed}
use Rattle.codec.specs.declared.Addressed.TheVariants.{Elsewhere, Unicast, Multicast}
use Rattle.codec.specs.declared.Request.{Request}
use Rattle.codec.specs.declared.Request.TheVariants.{Malformed, Reserved, Activate, Deactivate, State as StateRequest}
use Rattle.codec.specs.FrameSet.{source, destination}
use Rattle.codec.specs.Request.{request_of}
use Rattle.machine.specs.declared.Fate.{Fate}
use Rattle.machine.specs.declared.Fate.TheVariants.{Forward, Drop, Loop}
use Rattle.plan.specs.Plan.{in_plan}
use Rattle.calls.specs.declared.Answer.TheVariants.{Forwarded, Dropped}
use Rattle.calls.specs.Frame.{Arrived, pdu, for_mp, goes_on}
use Rattle.demands.specs.Machine.{Machine, Step, gets, is_prohibited}
use Rattle.demands.specs.World.{World, become}
use Rattle.demands.specs.Frame.{leaves, sends, own, by_fate, data_served, replied, stepped, answers, request_served}
use Rattle.demands.specs.Frame.{by_whom, in_flow, activated, deactivated}
use Rattle.demands.specs.Elapsed.{carried_out, changes, asks_change}
use Rattle.state.proofs.OwedRow.{by_test}
use Rattle.demands.proofs.Failed.{Fails, activated_fails, deactivated_fails}

-- the world with the frame's own machine another
abbrev pub own_becomes : World → FrameSet → Arrived → Machine → World
own_becomes w set a m = become a.port.number set (source a.frame) m w

-- what must be known of the steps
pub record Steps (keys : ℕ) (w : World) (P : World → Type 0) (set : FrameSet) (a : Arrived) : Type 0 where
  pub asked : P (own_becomes w set a (own w set a))
  pub activates : asks_change keys w set a (for_mp a) ≡ true → (seconds : ℕ)
      → P (own_becomes w set a (activated keys w set a seconds).next)
  pub deactivates : asks_change keys w set a (for_mp a) ≡ true → P (own_becomes w set a (deactivated w set a).next)

module _ (keys : ℕ) (w : World) (P : World → Type 0) (same : P w) where
  module _ (set : FrameSet) (a : Arrived) (steps : Steps keys w P set a) where
    fate_world : (f : Fate) → P (by_fate w a f).world
    unfolding by_fate leaves sends
    fate_world Forward = same
    fate_world Drop = same
    fate_world Loop = same

    -- a step that is carried out, or one that fails
    step_world : (step : Step) → (carried_out step.code ≡ true → P (own_becomes w set a step.next))
        → Fails (own w set a) step
        → P (own_becomes w set a step.next)
    step_world step done fails =
        by_test (carried_out step.code) done
        (λ t. subst (λ m. P (own_becomes w set a m)) (sym (fails t).0) steps.asked)

    answers_world : (whom : Addressed) (r : Request)
        → (changes keys w set a r ≡ true → asks_change keys w set a (for_mp a) ≡ true)
        → P (answers keys w set a whom r).world
    unfolding answers stepped replied sends gets changes
    answers_world whom Malformed c = same
    answers_world whom Reserved c = same
    answers_world whom (Activate seconds) c =
        step_world (activated keys w set a seconds) (λ t. steps.activates (c t) seconds) (activated_fails keys w set a seconds)
    answers_world whom Deactivate c =
        step_world (deactivated w set a) (λ t. steps.deactivates (c t)) (deactivated_fails w set a)
    answers_world whom StateRequest c = steps.asked

    request_world : (whom : Addressed)
        → (changes keys w set a (request_of whom (destination a.frame) (pdu a)) ≡ true
        → asks_change keys w set a (for_mp a) ≡ true)
        → P (request_served keys w set a whom).world
    unfolding request_served leaves
    request_world whom c = go (is_prohibited (own w set a)) (ltb (length (pdu a)) 12)
      where
        said : Request
        said = request_of whom (destination a.frame) (pdu a)

        go : (barred short : Bool)
            → P (cond barred (leaves (cond (goes_on a whom) Forwarded Dropped) w)
            (cond short (leaves Dropped w) (answers keys w set a whom said))).world
        go true short = same
        go false true = same
        go false false = answers_world whom said c

    whom_world : (whom : Addressed) → for_mp a ≡ whom → P (by_whom keys w set a whom).world
    unfolding by_whom data_served asks_change
    whom_world Elsewhere e = fate_world _
    whom_world Unicast e = request_world Unicast (λ c. rw e c)
    whom_world Multicast e = request_world Multicast (λ c. rw e c)

    pub flow_world : P (in_flow keys w set a).world
    unfolding in_flow leaves
    flow_world = go (in_plan a.flow.number)
      where
        go : (b : Bool) → P (cond b (by_whom keys w set a (for_mp a)) (leaves Forwarded w)).world
        go true = whom_world (for_mp a) refl
        go false = same
