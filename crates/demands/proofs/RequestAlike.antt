-- A request at an MP: the world's machine is asked, takes its step and replies as the unit's does.
use mathlib.Core.Path.{◌≡◌, refl, sym, ◌∙◌}
use mathlib.Core.Bool.{Bool, true, false, cond, not}
use mathlib.Core.List.{List, []}
use Prim.Native.Nat.{ℕ}
use lib.Dec.{ltb}
use lib.ListN.{length}
use Rattle.codec.specs.declared.FrameSet.{FrameSet}
use Rattle.codec.specs.declared.Addressed.{Addressed}
use Rattle.codec.specs.declared.Request.{Request}
use Rattle.codec.specs.declared.Request.TheVariants.{Malformed, Reserved, Activate, Deactivate, State as StateRequest}
use Rattle.codec.specs.FrameSet.{destination}
use Rattle.codec.specs.Request.{request_of, copies_of}
use Rattle.machine.specs.declared.Session.{Session}
use Rattle.machine.specs.declared.Machine.{Machine}
use Rattle.machine.specs.declared.Machine.TheVariants.{Inactive, Active}
use Rattle.machine.specs.Table.{Event, rqst_activate, rqst_deactivate, rqst_state}
use Rattle.machine.specs.Machine.{Decision, condition_of}
use Rattle.plan.specs.declared.Flow.{Flow}
use Rattle.state.specs.State.{State, is_allowed, full_for, notice_due, valid}
use Rattle.calls.specs.declared.Answer.TheVariants.{Forwarded, Dropped}
use Rattle.calls.specs.Answer.{leaves}
use Rattle.calls.specs.Frame.{Arrived, pdu, own_key, own, own_action, goes_on, new_session, changed, replied, decides}
use Rattle.calls.specs.Frame.{machine_served, answers, request_served}
use Rattle.calls_requests.proofs.Changes.{decided_puts}
use Rattle.demands.specs.Machine.{Step, gets, is_prohibited}
use Rattle.demands.specs.World.{World, become, full_for as fullForIn}
use Rattle.demands.specs.Frame.{leaves as leavesIn, replied as repliedIn, stepped, answers as answersIn}
use Rattle.demands.specs.Frame.{own as ownIn, request_served as requestServedIn}
use Rattle.demands.specs.Shown.{resting, tag_in}
use Rattle.demands.proofs.Shows.{Shows, Alike, leaves_alike, sends_alike}
use Rattle.demands.proofs.MachineShown.{shown, status_same}
use Rattle.demands.proofs.OwnShown.{OfFlow, own_at, own_shown, active_may}
use Rattle.demands.proofs.ChangeShown.{change_shown}
use Rattle.demands.proofs.StepAlike.{step_by, decision, activate_same, deactivate_same, state_same}

-- A machine is prohibited where its flow is not allowed.
prohibited_shown : (may : Bool) (m : Machine) → ((x : Session) → m ≡ Active x → may ≡ true)
    → is_prohibited (shown may m) ≡ not may
unfolding is_prohibited resting
prohibited_shown true Inactive live = refl
prohibited_shown false Inactive live = refl
prohibited_shown may (Active x) live = rw (live x refl)

module _ (set : FrameSet) (a : Arrived) (whom : Addressed) where
  replied_alike : (s : State) (w : World) → Shows s w → OfFlow s.plan set a → (code : ℕ) (copies : List ℕ)
      → Alike (replied s a whom code copies) (repliedIn w set a whom code copies)
  unfolding replied repliedIn own
  replied_alike s w k f code copies =
      rw (own_at s set a f w k, status_same (is_allowed a.flow.number s) (own_key a) s.sessions) (sends_alike s w k _ _)

  module _ (s : State) (w : World) (k : Shows s w) (f : OfFlow s.plan set a) (h : valid s ≡ true)
      (settled : notice_due s ≡ false) where
    module _ (may : is_allowed a.flow.number s ≡ true) where
      step_alike : (e : Event) (seconds : ℕ) (step : Step) → step ≡ step_by (decides s a e seconds) (own s a)
          → Alike (machine_served s a whom e seconds) (stepped w set a whom step)
      unfolding machine_served stepped gets become
      step_alike e seconds step same =
          let d : Decision = decides s a e seconds in
          let t : State = changed (own_key a) d.change s in
          let after : _ = change_shown s w k h set a f may settled d.change
          (decided_puts s a h settled f.source_fits e seconds) in
          let here : OfFlow t.plan set a = rw (sym after.plan_same ∙ k.plan_same) f in
          rw same (replied_alike t _ after here d.code (copies_of (pdu a)))

      own_asked : ownIn w set a ≡ shown true (own s a)
      own_asked = rw may at (own_shown s set a f settled w k)

      decision_same : (e : Event) (seconds : ℕ)
          → decides s a e seconds ≡ decision (full_for a.flow s) seconds (new_session a) (own s a) e
      unfolding decides own_action condition_of
      decision_same e seconds = rw may

      answers_alike : (keys : ℕ) → ((g : Flow) → fullForIn keys g w ≡ full_for g s) → (r : Request)
          → Alike (answers s a whom r) (answersIn keys w set a whom r)
      unfolding answers answersIn new_session tag_in
      answers_alike keys same Malformed = replied_alike s w k f 1 []
      answers_alike keys same Reserved = replied_alike s w k f 10 (copies_of (pdu a))
      answers_alike keys same (Activate seconds) =
          step_alike rqst_activate seconds _
          (rw (decision_same rqst_activate seconds, own_asked, same a.flow, ← f.tag_same)
          (activate_same (full_for a.flow s) seconds (new_session a) (own s a)))
      answers_alike keys same Deactivate =
          step_alike rqst_deactivate 0 _
          (rw (decision_same rqst_deactivate 0, own_asked) (deactivate_same (full_for a.flow s) 0 (new_session a) (own s a)))
      answers_alike keys same StateRequest =
          step_alike rqst_state 0 _
          (rw (decision_same rqst_state 0, own_asked) (state_same (full_for a.flow s) 0 (new_session a) (own s a)))

    pub request_alike : (keys : ℕ) → ((g : Flow) → fullForIn keys g w ≡ full_for g s)
        → Alike (request_served s a whom) (requestServedIn keys w set a whom)
    unfolding request_served requestServedIn
    request_alike keys same =
        rw (
          own_shown s set a f settled w k,
          prohibited_shown (is_allowed a.flow.number s) (own s a) (active_may s set a f h),
        )
        (go (is_allowed a.flow.number s) (ltb (length (pdu a)) 12) refl)
      where
        said : Request
        said = request_of whom (destination a.frame) (pdu a)

        go : (b short : Bool) → is_allowed a.flow.number s ≡ b
            → Alike
            (cond b (cond short (leaves Dropped s) (answers s a whom said)) (leaves (cond (goes_on a whom) Forwarded Dropped) s))
            (cond (not b) (leavesIn (cond (goes_on a whom) Forwarded Dropped) w)
            (cond short (leavesIn Dropped w) (answersIn keys w set a whom said)))
        go true true e = leaves_alike s w k Dropped
        go true false e = answers_alike e keys same said
        go false short e = leaves_alike s w k (cond (goes_on a whom) Forwarded Dropped)
