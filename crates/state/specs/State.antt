-- States and images (STATE): the state, when it is valid, and what its sessions say.
use Rattle.std.specs.Prelude.{List, [], ◌∷◌, Bool, true, false, cond, ◌&&◌, ◌||◌, not, ℕ, ◌+◌, ◌-◌, ◌^◌, length, get_or, replicate, eqb, ltb, leb}
use Rattle.octets.specs.Lists.{within, every, some, count, first, ascends}
use Rattle.codec.specs.FrameSet.{group, set_of, tag_fits}
use Rattle.machine.specs.declared.Session.{Session}
use Rattle.machine.specs.declared.Machine.{Machine}
use Rattle.machine.specs.declared.Machine.TheVariants.{Inactive, Active}
use Rattle.machine.specs.Machine.{key_of, is_open}
use Rattle.plan.specs.declared.Flow.{Flow}
use Rattle.plan.specs.Plan.{Plan, keeps_rules, flow_numbered, in_plan, mp_at, faces}

-- STATE-1: the plan; the last accepted reading; for flow 1 to 32 in turn, whether it is allowed; and the sessions, open or owed a notice,
-- in ascending flow and then source.
pub record State : Type 0 where
  pub plan : Plan
  pub clock : ℕ
  pub allowed : List Bool
  pub sessions : List Session

-- the state with another clock, other flows allowed, other sessions
unfoldable pub with_clock : ℕ → State → State
with_clock reading s = record { plan = s.plan; clock = reading; allowed = s.allowed; sessions = s.sessions }

unfoldable pub with_allowed : List Bool → State → State
with_allowed flows s = record { plan = s.plan; clock = s.clock; allowed = flows; sessions = s.sessions }

unfoldable pub with_sessions : List Session → State → State
with_sessions xs s = record { plan = s.plan; clock = s.clock; allowed = s.allowed; sessions = xs }

-- PLAN-31: a new unit has all flows prohibited and no session; its last reading is the one that make was given.
unfoldable pub made : Plan → ℕ → State
made plan clock = record { plan = plan; clock = clock; allowed = replicate 32 false; sessions = [] }

-- MACHINE-2: is the flow allowed, so that its machines are not prohibited?
unfoldable pub is_allowed : ℕ → State → Bool
is_allowed flow s = get_or s.allowed (flow - 1) false

-- STATE-3: only flows of the plan are allowed; here from flow n on.
unfoldable pub only_flows : Plan → ℕ → List Bool → Bool
only_flows plan n [] = true
only_flows plan n (a ∷ more) = (not a || in_plan (flow_numbered n plan).number) && only_flows plan (n + 1) more

-- STATE-8, STATE-9, STATE-10, FLOW-5: an open session has 1 to 86,400,000 ms left, and its flow is allowed; one that is owed a notice has
-- 0 ms left, and code 8 if its flow is allowed, code 9 if it is prohibited.
unfoldable pub good_time : Bool → Session → Bool
good_time allowed x =
    cond (is_open x) (allowed && within 1 86400000 x.left)
    (eqb x.left 0 && ((eqb x.notice 8 && allowed) || (eqb x.notice 9 && not allowed)))

-- STATE-5, STATE-6, STATE-7: a session's flow is in the plan, its source is no group address, its tag fits the flow, and at its level the
-- flow has an MP which faces its side; and its time is good.
unfoldable pub good_session : State → Session → Bool
good_session s x =
    let f = flow_numbered x.flow s.plan in
    in_plan f.number
    && ltb x.source (2 ^ 48)
    && not (group x.source)
    && tag_fits (set_of f.kind f.vid) x.taglen x.tag
    && faces (mp_at x.level f) x.side
    && good_time (is_allowed x.flow s) x

-- STATE-1, STATE-2, STATE-3, STATE-4: the plan keeps its rules, only its flows are allowed, and there are at most 16 sessions, no two with
-- one key, each a good one; no more is asked (STATE-11). (Any image gives a clock of 32 bits (TIME-1), sources of 48 and 32 flags.)
unfoldable pub valid : State → Bool
valid s =
    keeps_rules s.plan
    && ltb s.clock (2 ^ 32)
    && eqb (length s.allowed) 32
    && only_flows s.plan 1 s.allowed
    && leb (length s.sessions) 16
    && ascends key_of 0 s.sessions
    && every (good_session s) s.sessions

-- SET-12, MACHINE-2: the machine of a key, on an allowed flow: active if the key has an open session.
unfoldable pub machine_of : ℕ → List Session → Machine
machine_of k [] = Inactive
machine_of k (x ∷ xs) = cond (eqb (key_of x) k) (cond (is_open x) (Active x) Inactive) (machine_of k xs)

-- MACHINE-3, UNIT-2, BENCH-16: is the unit full for a session of this flow? 0, or the reply's code: 2 if 16 are open, whatever the flow.
unfoldable pub full_for : Flow → State → ℕ
full_for flow s = cond (ltb (count is_open s.sessions) 16) 0 2

-- REFUSAL-4, NOTICE-2: is there a notice to be taken first?
unfoldable pub notice_due : State → Bool
notice_due s = some (λ x. not (is_open x)) s.sessions

-- what stands for a session that is not there
unfoldable pub no_session : Session
no_session = record { flow = 0; source = 0; level = 0; side = 0; taglen = 0; tag = 0; left = 0; notice = 0 }

-- NOTICE-4: the lowest flow number goes first, within a flow the lowest source: the first session that is owed a notice.
unfoldable pub first_owed : State → Session
first_owed s = first (λ x. not (is_open x)) no_session s.sessions
