-- What a frame sends is forwarded, dropped, looped or a reply with a code of a request: what holds of these holds of every frame's.
use mathlib.Core.Path.{◌≡◌, refl}
use mathlib.Core.Bool.{Bool, true, false, cond, false≢true}
use mathlib.Core.List.{List, [], ◌∷◌}
use Prim.Native.Nat.{ℕ}
use lib.Dec.{eqb, ltb}
use lib.ListN.{length}
use Rattle.octets.specs.Lists.{every, some, count}
use Rattle.octets.proofs.Same.{both_true}
use Rattle.octets.proofs.Cases.{by_eq}
use Rattle.codec.specs.declared.Addressed.{Addressed}
use Rattle.codec.specs.declared.Addressed.TheVariants.{Elsewhere, Unicast, Multicast}
use Rattle.codec.specs.declared.Request.{Request}
use Rattle.codec.specs.declared.Request.TheVariants.{Malformed, Reserved, Activate, Deactivate, State as StateRequest}
use Rattle.codec.specs.FrameSet.{Member, member, sets_of, destination}
use Rattle.codec.specs.Request.{request_of}
use Rattle.machine.specs.declared.Fate.{Fate}
use Rattle.machine.specs.declared.Fate.TheVariants.{Forward, Drop, Loop}
use Rattle.machine.specs.Table.{Event, rqst_activate, rqst_deactivate, rqst_state, action_of}
use Rattle.machine.specs.Machine.{activity, condition_of, is_open, decided}
use Rattle.machine.proofs.Answers.{activate_sent, deactivate_sent, state_sent}
use Rattle.plan.specs.Plan.{port_numbered, in_plan}
use Rattle.state.specs.State.{State, is_allowed, full_for}
use Rattle.calls.specs.declared.Answer.TheVariants.{Forwarded, Dropped, Looped}
use Rattle.calls.specs.Answer.{Sent, leaves, sends}
use Rattle.calls.specs.Codes.{request_codes}
use Rattle.calls.specs.Frame.{Arrived, pdu, own, own_action, by_fate, data_served, goes_on, new_session, replied, decides}
use Rattle.calls.specs.Frame.{machine_served, answers, request_served, by_whom, for_mp, in_flow, in_sets, frame_served}

-- what holds of each number of a list holds of one that is among them
pub such : (test : ℕ → Bool) (x : ℕ) (l : List ℕ) → some (eqb x) l ≡ true → every test l ≡ true → test x ≡ true
unfolding some every
such test x [] h e = absurd (false≢true h)
such test x (y ∷ l) h e =
    let b : _ = both_true (test y) (every test l) e in
    by_eq x y (λ q same. rw same b.0) (λ q other. such test x l (rw q at h) b.1)

-- ---- the codes of the machine, on an allowed flow

module _ (s : State) (a : Arrived) where
  abbrev sent : ℕ → Bool
  sent code = some (eqb code) request_codes

  few : (code : ℕ) → some (eqb code) (0 ∷ 4 ∷ 5 ∷ 6 ∷ 7 ∷ full_for a.flow s ∷ []) ≡ true → sent code ≡ true
  unfolding some every request_codes full_for
  few code h = such sent code (0 ∷ 4 ∷ 5 ∷ 6 ∷ 7 ∷ full_for a.flow s ∷ []) h full
    where
      go : (b : Bool) → every sent (0 ∷ 4 ∷ 5 ∷ 6 ∷ 7 ∷ cond b 0 2 ∷ []) ≡ true
      go true = refl
      go false = refl

      full : every sent (0 ∷ 4 ∷ 5 ∷ 6 ∷ 7 ∷ full_for a.flow s ∷ []) ≡ true
      full = go (ltb (count is_open s.sessions) 16)

  module _ (may : is_allowed a.flow.number s ≡ true) where
    machine_code : (e : Event) (seconds : ℕ)
        → some (eqb (decided (action_of (activity (own s a)) e) (full_for a.flow s) seconds (new_session a) (own s a)).code)
        (0 ∷ 4 ∷ 5 ∷ 6 ∷ 7 ∷ full_for a.flow s ∷ []) ≡ true
        → sent (decides s a e seconds).code ≡ true
    unfolding decides own_action condition_of
    machine_code e seconds h = rw may (few _ h)

-- ---- each thing that a frame sends

module _ (P : Sent → Type 0) (forwarded : (s : State) → P (leaves Forwarded s)) (dropped : (s : State) → P (leaves Dropped s))
    (turned : (s : State) (w : List ℕ) → P (sends Looped s w))
    (replies : (s : State) (a : Arrived) (whom : Addressed) (code : ℕ) (copies : List ℕ) → some (eqb code) request_codes ≡ true
    → P (replied s a whom code copies)) where
  module _ (s : State) (a : Arrived) where
    fate_each : (f : Fate) → P (by_fate s a f)
    unfolding by_fate
    fate_each Forward = forwarded s
    fate_each Drop = dropped s
    fate_each Loop = turned s _

    answer_each : is_allowed a.flow.number s ≡ true → (whom : Addressed) (r : Request) → P (answers s a whom r)
    unfolding answers machine_served request_codes some
    answer_each may whom Malformed = replies s a whom 1 _ refl
    answer_each may whom Reserved = replies s a whom 10 _ refl
    answer_each may whom (Activate n) =
        replies _ a whom _ _ (machine_code s a may rqst_activate n (activate_sent (full_for a.flow s) n (new_session a) (own s a)))
    answer_each may whom Deactivate =
        replies _ a whom _ _ (machine_code s a may rqst_deactivate 0 (deactivate_sent (full_for a.flow s) 0 (new_session a) (own s a)))
    answer_each may whom StateRequest =
        replies _ a whom _ _ (machine_code s a may rqst_state 0 (state_sent (full_for a.flow s) 0 (new_session a) (own s a)))

    stays_each : (b : Bool) → P (leaves (cond b Forwarded Dropped) s)
    stays_each true = forwarded s
    stays_each false = dropped s

    request_each : (whom : Addressed) → P (request_served s a whom)
    unfolding request_served
    request_each whom = go (is_allowed a.flow.number s) (ltb (length (pdu a)) 12) refl
      where
        said : Request
        said = request_of whom (destination a.frame) (pdu a)

        go : (b short : Bool) → is_allowed a.flow.number s ≡ b
            → P (cond b (cond short (leaves Dropped s) (answers s a whom said)) (leaves (cond (goes_on a whom) Forwarded Dropped) s))
        go true true e = dropped s
        go true false e = answer_each e whom said
        go false short e = stays_each (goes_on a whom)

    whom_each : (whom : Addressed) → P (by_whom s a whom)
    unfolding by_whom data_served
    whom_each Elsewhere = fate_each _
    whom_each Unicast = request_each Unicast
    whom_each Multicast = request_each Multicast

    flow_each : P (in_flow s a)
    unfolding in_flow
    flow_each = go (in_plan a.flow.number)
      where
        go : (b : Bool) → P (cond b (by_whom s a (for_mp a)) (leaves Forwarded s))
        go true = whom_each (for_mp a)
        go false = forwarded s

  pub frame_each : (s : State) (port side : ℕ) (frame : List ℕ) → P (frame_served s port side frame)
  unfolding frame_served in_sets
  frame_each s port side frame = go (sets_of (port_numbered port s.plan).kind frame)
    where
      go : (sets : List Member) → P (in_sets s (port_numbered port s.plan) side frame sets)
      go [] = forwarded s
      go (member set taglen ∷ more) = flow_each s _
