-- A notice that is taken: the unit and the world send the same, and the machine that owed it owes it no more.
use mathlib.Core.Path.{◌≡◌, refl, ◌∙◌}
use mathlib.Core.Bool.{Bool, true, false}
use Prim.Native.Nat.{ℕ, ◌*◌, ◌^◌, ◌≤◌}
use borrow.Author.Tests.{not-true}
use Rattle.octets.specs.Lists.{without}
use Rattle.machine.specs.declared.Session.{Session}
use Rattle.machine.specs.Machine.{is_open, key_of, status_of}
use Rattle.plan.specs.declared.Flow.{Flow}
use Rattle.plan.specs.Plan.{flow_numbered, port_numbered}
use Rattle.state.specs.State.{State, with_sessions, is_allowed, good_session, valid, notice_due as due, no_session, first_owed}
use Rattle.plan.proofs.Found.{flow_found}
use Rattle.state.proofs.Rules.{Valid, valid_parts}
use Rattle.calls.specs.Answer.{sends as sent}
use Rattle.calls.specs.Notice.{port_of, notice_frame, noticed as told, notice_served as toldFirst}
use Rattle.demands.specs.Machine.{Owed, nothing, notice, idle, taken}
use Rattle.demands.specs.World.{World, become, flow_of, source_of, at, first_owing}
use Rattle.demands.specs.Frame.{sends}
use Rattle.demands.specs.Calls.{noticed, notice_served}
use Rattle.demands.specs.Shown.{resting, tag_in, machine_by, machine_in, machine_on}
use Rattle.demands.proofs.Shows.{Shows, Alike}
use Rattle.demands.proofs.Lists.{look_first}
use Rattle.demands.proofs.Flows.{flow_set, set_small, numbered_again}
use Rattle.demands.proofs.Keys.{key_flow, key_source, session_flow, session_source}
use Rattle.demands.proofs.SessionsShown.{machine_looked, machine_without}
use Rattle.demands.proofs.AtKey.{at_flow_lem}
use Rattle.demands.proofs.Limit.{is_owed, resting_owed, owed_passes, first_same}
use Rattle.demands.proofs.Become.{become_shown}

resting_taken : (a : Bool) (o : Owed) → taken (resting a o) ≡ resting a nothing
unfolding resting taken
resting_taken true o = refl
resting_taken false o = refl

-- what a session owes
abbrev owed_to : Session → Owed
owed_to x = notice x.notice x.level x.side (tag_in x)

module _ (s : State) (w : World) (ok : valid s ≡ true) (shows : Shows s w) where
  v : Valid s
  v = valid_parts s ok

  -- ---- a session's flow, source and machine, by its key

  module _ (x : Session) (good : good_session s x ≡ true) where
    abbrev flow : Flow
    flow = flow_numbered x.flow s.plan

    key_to_flow : flow_of (key_of x) w ≡ flow
    unfolding flow_of key_of
    key_to_flow = rw (key_flow x.flow x.source (session_source s ok x good), shows.plan_same)

    key_to_source : source_of (key_of x) ≡ x.source
    unfolding source_of key_of
    key_to_source = key_source x.flow x.source (session_source s ok x good)

    key_to_machine : at (key_of x) w ≡ machine_in (is_allowed x.flow s) (key_of x) s.sessions
    unfolding at machine_on key_of
    key_to_machine =
        rw (key_to_flow, key_to_source)
        (at_flow_lem s ok w shows x.flow x.source (session_flow s ok x good) (session_source s ok x good))

    -- the session gone, and its notice taken
    gone_shown : Shows (with_sessions (without key_of (key_of x) s.sessions) s)
        (become flow.port (flow_set flow) x.source (resting (is_allowed x.flow s) nothing) w)
    unfolding key_of
    gone_shown =
        let there : _ = session_flow s ok x good in
        let number : flow.number ≡ x.flow = flow_found s.plan x.flow there in
        become_shown s w ok shows flow.port (flow_set flow) x.source x.flow
        (set_small s.plan v.plan_kept x.flow there)
        (session_source s ok x good)
        (rw (numbered_again s.plan v.plan_kept x.flow there) number)
        (rw number at there)
        (λ a. resting a nothing)
        (without key_of (key_of x) s.sessions)
        (λ a k. machine_without a k (key_of x) s.sessions)

    told_alike : Alike (told s x)
        (noticed w (become flow.port (flow_set flow) x.source (resting (is_allowed x.flow s) nothing) w)
        (port_numbered flow.port w.plan) x.source (owed_to x))
    unfolding told noticed sent sends port_of notice_frame status_of idle tag_in
    told_alike = record { answer_same = rw shows.plan_same; octets_same = rw shows.plan_same; shown = gone_shown }

-- ---- the first that is owed one

module _ (keys : ℕ) (s : State) (w : World) (big : 33 * 2 ^ 48 ≤ keys) (ok : valid s ≡ true) (shows : Shows s w) where
  pub notice_alike : due s ≡ true → Alike (toldFirst s) (notice_served w (first_owing keys w))
  unfolding toldFirst notice_served machine_by first_owed due
  notice_alike d =
      let x : Session = first_owed s in
      let p : _ = owed_passes s ok d (good_session s) (valid_parts s ok).sessions_good in
      let a : Bool = is_allowed x.flow s in
      let closed : is_open x ≡ false = not-true (is_open x) p.0 in
      let owing : at (key_of x) w ≡ resting a (owed_to x)
      = key_to_machine s w ok shows x p.1
      ∙ machine_looked a (key_of x) s.sessions
      ∙ look_first key_of (machine_by a) (resting a nothing) is_owed no_session 0 s.sessions (valid_parts s ok).sessions_ascend d
      ∙ rw closed in
      rw (
        first_same keys s w big ok shows d,
        key_to_flow s w ok shows x p.1,
        key_to_source s w ok shows x p.1,
        owing,
        resting_owed a (owed_to x),
        resting_taken a (owed_to x),
      )
      (told_alike s w ok shows x p.1)
