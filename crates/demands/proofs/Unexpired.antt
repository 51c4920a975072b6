-- In every world that calls reach an active machine has time left: its session is unexpired at the last accepted reading.
use mathlib.Core.Path.{◌≡◌}
use mathlib.Core.Bool.{◌&&◌}
use mathlib.Core.List.{List, [], ◌∷◌}
use Prim.Native.Nat.{ℕ, ◌≤◌}
use lib.Dec.{eqb}
use Rattle.codec.specs.declared.FrameSet.{FrameSet}
use Rattle.codec.specs.FrameSet.{set_of}
use Rattle.plan.specs.declared.Port.{Port}
use Rattle.plan.specs.declared.Flow.{Flow}
use Rattle.plan.specs.Plan.{Plan}
use Rattle.plan.specs.PlanText.{Reading, fault, planned, plan_in}
use Rattle.calls.specs.Calls.{Call, make, frame, tick, allow, prohibit, notice, restart}
use Rattle.demands.specs.Machine.{Machine, Owed, nothing, notice as owing, active, owed_by, taken, allowed, forbidden}
use Rattle.demands.specs.World.{World, fresh, same_set, become, of_flow, all, at, at_flow, first_owing}
use Rattle.demands.specs.Frame.{leaves, sends, own}
use Rattle.demands.specs.Calls.{refusal, served, call, make_served, noticed, notice_served}
use Rattle.demands.specs.Runs.{world_after}
use Rattle.state.proofs.OwedRow.{by_test}
use Rattle.demands.proofs.TimeLeft.{Going, activate_going, deactivate_going, ticked_going, allowed_going, forbidden_going}
use Rattle.demands.proofs.TimeLeft.{restarted_going, taken_going, either_going, going_left}
use Rattle.demands.proofs.Served.{refused_is, served_is, frame_world}

abbrev AllGoing : World → Type 0
AllGoing w = (p : ℕ) (s : FrameSet) (x : ℕ) → Going (w.machine p s x)

fresh_going : (plan : Plan) (clock : ℕ) → AllGoing (fresh plan clock)
unfolding fresh Going
fresh_going plan clock p s x = tt

module _ (keys : ℕ) (w : World) (g : AllGoing w) where
  become_going : (port : ℕ) (set : FrameSet) (source : ℕ) (m : Machine) → Going m → AllGoing (become port set source m w)
  unfolding become
  become_going port set source m h p s x =
      either_going (eqb p port && (same_set s set && eqb x source)) m (w.machine p s x) h (g p s x)

  make_going : (clock : ℕ) (r : Reading) → AllGoing (make_served w clock r).world
  unfolding make_served leaves
  make_going clock (fault line reason) = g
  make_going clock (planned plan) = fresh_going plan clock

  notice_going : (u : World) → AllGoing u → (port : Port) (x : ℕ) (owed : Owed) → AllGoing (noticed w u port x owed).world
  unfolding noticed leaves sends
  notice_going u h port x nothing = g
  notice_going u h port x (owing code level side tag) = h

  flow_going : (flow : Flow) (change : Machine → Machine) → ((m : Machine) → Going m → Going (change m))
      → AllGoing (of_flow flow change w)
  unfolding of_flow
  flow_going flow change h p s x =
      either_going (eqb p flow.port && same_set s (set_of flow.kind flow.vid)) (change (w.machine p s x)) (w.machine p s x)
      (h (w.machine p s x) (g p s x)) (g p s x)

  frame_going : (port side : ℕ) (f out : List ℕ) → AllGoing (call keys w (frame port side f out)).world
  unfolding own
  frame_going port side f out =
      frame_world keys w port side f out AllGoing g
      (λ set taglen placed n.
      record {
        asked = become_going _ set _ _ (g _ set _);
        activates = λ c seconds. become_going _ set _ _ (activate_going _ seconds _ _ _ _ (g _ set _));
        deactivates = λ c. become_going _ set _ _ (deactivate_going _ _ _ (g _ set _));
      })

  other_going : (c : Call) → AllGoing (served keys w c).world → AllGoing (call keys w c).world
  other_going c h =
      by_test (eqb (refusal keys w c) 0)
      (λ t. rw (served_is keys w c t) h)
      (λ t. rw (refused_is keys w c t) g)

  call_going : (c : Call) → AllGoing (call keys w c).world
  unfolding served notice_served leaves all at at_flow
  call_going (make text clock) = other_going (make text clock) (make_going clock (plan_in text))
  call_going (frame port side octets out) = frame_going port side octets out
  call_going (tick clock) = other_going (tick clock) (λ p s x. ticked_going _ (w.machine p s x) (g p s x))
  call_going (allow flow) = other_going (allow flow) (flow_going _ allowed allowed_going)
  call_going (prohibit flow) = other_going (prohibit flow) (flow_going _ forbidden forbidden_going)
  call_going (notice out) =
      let key : ℕ = first_owing keys w in
      other_going (notice out)
      (notice_going _ (become_going _ _ _ (taken (at key w)) (taken_going (at key w) (g _ _ _))) _ _ (owed_by (at key w)))
  call_going (restart clock) = other_going (restart clock) (λ p s x. restarted_going (w.machine p s x) (g p s x))

after_going : (keys : ℕ) (w : World) → AllGoing w → (cs : List Call) → AllGoing (world_after keys w cs)
unfolding world_after
after_going keys w g [] = g
after_going keys w g (c ∷ cs) = after_going keys (call keys w c).world (call_going keys w g c) cs

-- In every world that calls reach from `make`, an active machine has time left.
pub active_unexpired : (keys : ℕ) (plan : Plan) (clock : ℕ) (cs : List Call) (p : ℕ) (s : FrameSet) (x : ℕ)
    {level side left : ℕ} {tag : List ℕ}
    → (world_after keys (fresh plan clock) cs).machine p s x ≡ active level side left tag → 1 ≤ left
active_unexpired keys plan clock cs p s x e = going_left (after_going keys (fresh plan clock) (fresh_going plan clock) cs p s x) e
