-- "The unit and its calls" by example: which states are valid.
mod Sessions
mod Questions
mod Images
use mathlib.Core.Path.{◌≡◌, refl}
use mathlib.Core.Bool.{Bool, true, false}
use mathlib.Core.List.{List, [], ◌∷◌, ◌++◌}
use Prim.Native.Nat.{ℕ, zero, suc, ◌+◌, ◌^◌}
use lib.ListN.{replicate, set}
use lib.Dec.{eqb}
use Rattle.octets.specs.Lists.{within, every, some, count, first, ascends}
use Rattle.codec.specs.FrameSet.{enni, untagged, c_tagged, s_tagged, external, cen, group, vid_of, set_of, tag_fits}
use Rattle.machine.specs.declared.Session.{Session}
use Rattle.machine.specs.Machine.{key, key_of, is_open}
use Rattle.plan.specs.declared.Flow.{Flow}
use Rattle.plan.specs.Plan.{Plan, up, down, mip, no_flow, flow_numbered, in_plan, mp_at, faces}
use Rattle.plan.proofs.Examples.{bench_plan}
use Rattle.plan.proofs.Examples.Rules.{keeps}
use Rattle.state.specs.State.{State, is_allowed, only_flows, good_time, good_session, valid}

-- flow, source, level, side, count and tag, ms left, notice
pub session : ℕ → ℕ → ℕ → ℕ → ℕ → ℕ → ℕ → ℕ → Session
session flow source level side count tag left notice =
    record {
      flow = flow;
      source = source;
      level = level;
      side = side;
      taglen = count;
      tag = tag;
      left = left;
      notice = notice;
    }

-- for flow 1 to 32 in turn, whether it is one of these
pub flags : List ℕ → List Bool
unfolding some
flags flows = from 32 1
  where
    from : ℕ → ℕ → List Bool
    from zero n = []
    from (suc more) n = some (eqb n) flows ∷ from more (n + 1)

-- a plan, the reading of the clock, the allowed flows, the sessions
pub state : Plan → ℕ → List ℕ → List Session → State
unfolding flags
state plan clock allowed sessions = record { plan = plan; clock = clock; allowed = flags allowed; sessions = sessions }

-- the bench, with the session that its first case opens
pub bench_state : State
unfolding state session bench_plan
bench_state = state bench_plan 0 (1 ∷ []) (session 1 0x0200000000aa 4 cen 4 0x81000014 60000 0 ∷ [])

-- number, port, kind and VID, an MP and its level
flow : ℕ → ℕ → ℕ → ℕ → ℕ → ℕ → Flow
flow number port kind vid mp level =
    record { number = number; port = port; kind = kind; vid = vid; mps = set (replicate 8 0) level mp }

-- the bench's port with three flows, the `u` flow first, and an ENNI with one
pub yard : Plan
unfolding flow bench_plan
yard =
    record {
      ports = bench_plan.ports ++ (record { number = 2; kind = enni; address = 0x020000000002 } ∷ []);
      flows = flow 3 1 untagged 0 mip 2 ∷ flow 1 1 c_tagged 20 up 4 ∷ flow 2 1 c_tagged 30 down 4 ∷ flow 4 2 s_tagged 20 mip 4 ∷ [];
    }

-- its flows all allowed but 2
pub unit : List Session → State
unfolding state yard
unit sessions = state yard 0 (1 ∷ 3 ∷ 4 ∷ []) sessions

-- so many sessions of flow 1, of sources from this one on
pub many : ℕ → ℕ → List Session
unfolding session
many zero source = []
many (suc more) source = session 1 source 4 cen 4 0x81000014 60000 0 ∷ many more (source + 1)

-- Is a state valid? To unfold it is to unfold all that this computes.
pub judged : State → Bool
unfolding valid good_session good_time only_flows is_allowed faces mp_at in_plan flow_numbered no_flow keeps is_open key_of key tag_fits
    set_of vid_of group ascends first count some every within
judged s = valid s

good_states : List State
unfolding bench_state state yard unit many session
good_states =
    bench_state
    ∷ unit []
    ∷ state yard 0xffffffff [] []
    ∷ unit (many 16 1)
    -- no call leaves both codes at once
    ∷ unit (session 1 0x0200000000aa 4 cen 4 0x81000014 0 8 ∷ session 2 0x0200000000aa 4 external 4 0x8100001e 0 9 ∷ [])
    -- notices on two prohibited flows
    ∷ state yard 0 (3 ∷ 4 ∷ [])
    (session 1 0x0200000000aa 4 cen 4 0x81000014 0 9 ∷ session 2 0x0200000000aa 4 external 4 0x8100001e 0 9 ∷ [])
    ∷ []

valid_states : every valid good_states ≡ true
unfolding judged good_states
valid_states = refl

bad_states : List State
unfolding state yard unit many
bad_states =
    -- 17 sessions; equal keys; descending source; descending flow
    unit (many 17 1)
    ∷ unit (many 1 7 ++ many 1 7)
    ∷ unit (many 1 8 ++ many 1 7)
    ∷ unit (session 3 1 2 cen 0 0 60000 0 ∷ many 1 2)
    -- a plan that breaks the rules; a clock of more than 32 bits; an allowed flow that is not in the plan; flows left out
    ∷ state (record { ports = []; flows = [] }) 0 [] []
    ∷ state yard (2 ^ 32) [] []
    ∷ state yard 0 (5 ∷ []) []
    ∷ record { plan = yard; clock = 0; allowed = []; sessions = [] }
    ∷ []

states_that_are_not_valid : some valid bad_states ≡ false
unfolding judged bad_states
states_that_are_not_valid = refl
