-- Allow and prohibit leave a valid state.
use mathlib.Core.Path.{◌≡◌, refl}
use mathlib.Core.Bool.{Bool, true, false, cond, ◌&&◌}
use mathlib.Core.List.{List, [], ◌∷◌, map}
use Prim.Native.Nat.{ℕ, ◌-◌, ◌≤◌}
use native.Mathlib.Omega.{arith}
use lib.Dec.{eqb}
use lib.ListN.{get_or, set, length-map}
use lib.Seq.{get_or-set_other}
use Rattle.octets.specs.Lists.{every}
use Rattle.octets.proofs.Cases.{by_eq}
use Rattle.octets.proofs.ListLaws.{every_map, none_fails, every_both}
use Rattle.octets.proofs.Ordered.{map_ascends}
use Rattle.machine.specs.declared.Session.{Session}
use Rattle.machine.specs.declared.Machine.TheVariants.{Inactive}
use Rattle.machine.specs.Table.{active, mgmt_allow, mgmt_prohibit, action_of}
use Rattle.machine.specs.Machine.{key_of, is_open, owed, activity, condition_of}
use Rattle.machine.specs.Management.{closed_by, managed_by, allowed_after}
use Rattle.plan.specs.Plan.{flow_numbered, in_plan}
use Rattle.state.specs.State.{State, with_sessions, is_allowed, good_time, good_session, notice_due, valid, with_allowed}
use Rattle.state.proofs.Rules.{Valid, valid_parts}
use Rattle.calls.specs.Calls.{managed}
use Rattle.calls.proofs.Standing.{stands, good_parts, good_whole, stands_flow, open_time, time_open}
use Rattle.calls.proofs.Flags.{set_true, set_false, flagged, some_flow, flagged_valid}

-- ---- the two columns of the table

after_allow : (now : Bool) → allowed_after (action_of (condition_of now Inactive) mgmt_allow) now ≡ true
unfolding allowed_after action_of condition_of activity
after_allow true = refl
after_allow false = refl

after_prohibit : (now : Bool) → allowed_after (action_of (condition_of now Inactive) mgmt_prohibit) now ≡ false
unfolding allowed_after action_of condition_of activity
after_prohibit true = refl
after_prohibit false = refl

-- ---- what they do to the flow's sessions

module _ (flow : ℕ) where
  abbrev pub withdrawn : Session → Session
  withdrawn = managed_by (action_of active mgmt_prohibit) flow

  left_open : (x : Session) → managed_by (action_of active mgmt_allow) flow x ≡ x
  unfolding managed_by closed_by action_of
  left_open x = go (is_open x && eqb x.flow flow)
    where
      go : (b : Bool) → cond b x x ≡ x
      go true = refl
      go false = refl

  all_left : (xs : List Session) → map (managed_by (action_of active mgmt_allow) flow) xs ≡ xs
  all_left [] = refl
  all_left (x ∷ xs) = rw (left_open x, all_left xs)

module _ (s : State) (flow : ℕ) where
  pub allow_flagged : managed mgmt_allow flow s ≡ flagged s flow true s.sessions
  unfolding managed with_sessions with_allowed
  allow_flagged = rw (after_allow (is_allowed flow s), all_left flow s.sessions)

  pub prohibit_flagged : managed mgmt_prohibit flow s ≡ flagged s flow false (map (withdrawn flow) s.sessions)
  unfolding managed with_sessions with_allowed
  prohibit_flagged = rw (after_prohibit (is_allowed flow s))

module _ (s : State) (flow : ℕ) (h : valid s ≡ true) (there : in_plan (flow_numbered flow s.plan).number ≡ true) where
  module _ (settled : notice_due s ≡ false) where
    all_open : every is_open s.sessions ≡ true
    unfolding notice_due
    all_open = none_fails is_open s.sessions settled

    -- ---- allow: what was allowed is so still

    allow_good : (xs : List Session) (x : Session) → is_open x ≡ true → good_session s x ≡ true
        → good_session (flagged s flow true xs) x ≡ true
    unfolding is_allowed
    allow_good xs x o g =
        let p : _ = good_parts s x g in
        let t : _ = open_time (is_allowed x.flow s) x o p.1 in
        let a : is_allowed x.flow (flagged s flow true xs) ≡ true = set_true s.allowed (flow - 1) (x.flow - 1) t.0 in
        good_whole (flagged s flow true xs) x p.0 (rw a (time_open x o t.1))

    pub allow_valid : valid (managed mgmt_allow flow s) ≡ true
    allow_valid =
        let v : Valid s = valid_parts s h in
        let xs : List Session = s.sessions in
        rw (allow_flagged s flow)
        (flagged_valid s flow h there true xs refl v.sessions_ascend
        (every_both is_open (good_session s) (good_session (flagged s flow true xs)) (allow_good xs) xs all_open v.sessions_good))

    -- ---- prohibit: its sessions are owed code 9, others stay

    pub withdrawn_key : (x : Session) → key_of (withdrawn flow x) ≡ key_of x
    unfolding managed_by key_of closed_by action_of owed
    withdrawn_key x = go (is_open x && eqb x.flow flow)
      where
        go : (b : Bool) → key_of (cond b (closed_by (action_of active mgmt_prohibit) x) x) ≡ key_of x
        go true = refl
        go false = refl

    module _ (xs : List Session) (x : Session) where
      closed_good : stands s.plan x ≡ true → x.flow ≡ flow → good_session (flagged s flow false xs) (owed 9 x) ≡ true
      unfolding owed is_allowed good_time is_open
      closed_good p same =
          let off : get_or (set s.allowed (flow - 1) false) (x.flow - 1) false ≡ false
          = rw same (set_false s.allowed (flow - 1)) in
          good_whole (flagged s flow false xs) (owed 9 x) p (rw off)

      other_good : is_open x ≡ true → good_session s x ≡ true → (x.flow ≡ flow → ⊥)
          → good_session (flagged s flow false xs) x ≡ true
      unfolding is_allowed
      other_good o g other =
          let p : _ = good_parts s x g in
          let mine : 1 ≤ flow = some_flow s flow h there in
          let apart : (x.flow - 1 ≡ flow - 1 → ⊥) = λ e. other (omega (arith, mine, stands_flow s.plan x p.0)) in
          let as_was : _ = get_or-set_other s.allowed (flow - 1) (x.flow - 1) false false apart in
          good_whole (flagged s flow false xs) x p.0 (rw as_was p.1)

      prohibit_good : is_open x ≡ true → good_session s x ≡ true → good_session (flagged s flow false xs) (withdrawn flow x) ≡ true
      unfolding managed_by closed_by action_of
      prohibit_good o g =
          by_eq x.flow flow
          (λ e same. rw (o, e) (closed_good (good_parts s x g).0 same))
          (λ e other. rw (o, e) (other_good o g other))

    pub prohibit_valid : valid (managed mgmt_prohibit flow s) ≡ true
    prohibit_valid =
        let v : Valid s = valid_parts s h in
        let f : Session → Session = withdrawn flow in
        let xs : List Session = map f s.sessions in
        let good : Session → Bool = good_session (flagged s flow false xs) in
        rw (prohibit_flagged s flow)
        (flagged_valid s flow h there false xs (length-map s.sessions f)
        (rw (map_ascends key_of f withdrawn_key 0 s.sessions) v.sessions_ascend)
        (rw (every_map f good s.sessions)
        (every_both is_open (good_session s) (λ x. good (f x)) (prohibit_good xs) s.sessions all_open v.sessions_good)))
