-- A request at an MP leaves a valid state.
use mathlib.Core.Path.{◌≡◌, refl}
use mathlib.Core.Bool.{Bool, true, false, cond}
use Prim.Native.Nat.{ℕ, ◌<◌, ◌^◌}
use native.Mathlib.Omega.{arith}
use lib.Dec.{eqb, ltb}
use lib.ListN.{length, drop}
use borrow.Author.Tests.{lt-ltb, ltb-true}
use Rattle.octets.specs.Octets.{number}
use Rattle.octets.specs.Lists.{count}
use Rattle.octets.proofs.ListLaws.{none_fails, all_counted}
use Rattle.codec.specs.declared.Addressed.{Addressed}
use Rattle.codec.specs.declared.Request.{Request}
use Rattle.codec.specs.declared.Request.TheVariants.{Malformed, Reserved, Activate, Deactivate, State as StateRequest}
use Rattle.codec.specs.FrameSet.{destination, source, group, set_of, tag_fits}
use Rattle.codec.specs.Request.{request_of}
use Rattle.machine.specs.Table.{Event, rqst_activate, rqst_deactivate, rqst_state}
use Rattle.machine.specs.Machine.{is_open}
use Rattle.plan.specs.declared.Flow.{Flow}
use Rattle.plan.specs.Plan.{flow_numbered, in_plan, faces}
use Rattle.state.specs.State.{State, is_allowed, full_for, notice_due, valid}
use Rattle.state.proofs.Rules.{valid_parts}
use Rattle.calls.specs.declared.Answer.TheVariants.{Forwarded, Dropped}
use Rattle.calls.specs.Answer.{Sent, leaves, sends}
use Rattle.calls.specs.Frame.{Arrived, pdu, mp_of, own, own_key, own_action, goes_on, new_session, replied}
use Rattle.calls.specs.Frame.{decides, machine_served, answers, request_served}
use Rattle.calls.proofs.Standing.{stands}
use Rattle.calls.proofs.ChangeValid.{changed_valid}
use Rattle.calls.proofs.DecideValid.{decided_good}

-- it leaves a valid state
abbrev pub Leaves : Sent → Type 0
Leaves r = valid r.state ≡ true

-- what a frame brings that lies in a set of the plan
pub record Brings (s : State) (a : Arrived) : Type 0 where
  pub numbered : flow_numbered a.flow.number s.plan ≡ a.flow
  pub source_fits : source a.frame < 2 ^ 48
  pub unicast : group (source a.frame) ≡ false
  pub fits : tag_fits (set_of a.flow.kind a.flow.vid) a.taglen (number a.taglen (drop 12 a.frame)) ≡ true

new_stands : (s : State) (a : Arrived) → Brings s a → in_plan a.flow.number ≡ true → faces (mp_of a) a.side ≡ true
    → stands s.plan (new_session a) ≡ true
unfolding new_session mp_of
new_stands s a b there faced =
    rw (b.numbered, there, lt-ltb (source a.frame) (2 ^ 48) b.source_fits, b.unicast, b.fits, faced)

-- With no notice due, the open sessions are all: fewer than 16 leave room for one more.
space : (s : State) (flow : Flow) → notice_due s ≡ false → eqb (full_for flow s) 0 ≡ true → length s.sessions < 16
unfolding notice_due full_for
space s flow settled h = go (ltb (count is_open s.sessions) 16) refl h
  where
    go : (b : Bool) → ltb (count is_open s.sessions) 16 ≡ b → eqb (cond b 0 2) 0 ≡ true → length s.sessions < 16
    go true e h =
        omega (
          arith,
          ltb-true (count is_open s.sessions) 16 e,
          all_counted is_open s.sessions (none_fails is_open s.sessions settled),
        )
    go false e h = let z : ◌≡◌ {A = ℕ} 0 1 = cc in absurd (omega arith)

module _ (s : State) (h : valid s ≡ true) (settled : notice_due s ≡ false) where
  module _ (a : Arrived) (b : Brings s a) (there : in_plan a.flow.number ≡ true) where
    module _ (whom : Addressed) (faced : faces (mp_of a) a.side ≡ true) where
      module _ (may : is_allowed a.flow.number s ≡ true) where
        machine_valid : (e : Event) (seconds : ℕ) → Leaves (machine_served s a whom e seconds)
        unfolding machine_served replied sends decides own new_session is_open
        machine_valid e seconds =
            changed_valid s h (own_key a) (decides s a e seconds).change
            (decided_good s (own_key a) (valid_parts s h).sessions_good (full_for a.flow s) seconds (new_session a)
            (space s a.flow settled) (new_stands s a b there faced) may refl (own_action s a e))

        answers_valid : (r : Request) → Leaves (answers s a whom r)
        unfolding answers replied sends
        answers_valid Malformed = h
        answers_valid Reserved = h
        answers_valid (Activate seconds) = machine_valid rqst_activate seconds
        answers_valid Deactivate = machine_valid rqst_deactivate 0
        answers_valid StateRequest = machine_valid rqst_state 0

      pub request_valid : Leaves (request_served s a whom)
      unfolding request_served leaves
      request_valid = go (is_allowed a.flow.number s) (ltb (length (pdu a)) 12) refl
        where
          said : Request
          said = request_of whom (destination a.frame) (pdu a)

          go : (b short : Bool) → is_allowed a.flow.number s ≡ b
              → Leaves
              (cond b (cond short (leaves Dropped s) (answers s a whom said)) (leaves (cond (goes_on a whom) Forwarded Dropped) s))
          go true true e = h
          go true false e = answers_valid e said
          go false short e = h
