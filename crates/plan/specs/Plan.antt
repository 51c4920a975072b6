-- The plan (PLAN): its records, and the rules that they keep.
use Rattle.std.specs.Prelude.{List, [], ◌∷◌, map, Bool, cond, ◌&&◌, ◌||◌, not, ℕ, ◌+◌, ◌*◌, ◌^◌, length, get_or, replicate, eqb, ltb, leb}
use Rattle.octets.specs.Lists.{within, every, count, first, ascends, distinct}
use Rattle.codec.specs.FrameSet.{uni, enni, untagged, c_tagged, s_tagged, external, cen, group}
use Rattle.codec.specs.declared.FrameSet.{FrameSet}
use Rattle.plan.specs.declared.Port.{Port}
use Rattle.plan.specs.declared.Flow.{Flow}

-- PLAN-5: the kinds of MPs, 1 up, 2 down and 3 MIP; 0 is none.
abbrev pub up : ℕ
up = 1

abbrev pub down : ℕ
down = 2

abbrev pub mip : ℕ
mip = 3

-- PLAN-32: the plan is its records; the order of lines leaves no trace: ports in ascending number, flows in ascending port, kind and VID.
pub record Plan : Type 0 where
  pub ports : List Port
  pub flows : List Flow

-- what stands for a port and a flow that are not there: the numbers start from 1
unfoldable pub no_port : Port
no_port = record { number = 0; kind = 0; address = 0 }

unfoldable pub no_flow : Flow
no_flow = record { number = 0; port = 0; kind = 0; vid = 0; mps = replicate 8 0 }

-- the port, and the flow, that have a number
unfoldable pub port_numbered : ℕ → Plan → Port
port_numbered n plan = first (λ p. eqb p.number n) no_port plan.ports

unfoldable pub flow_numbered : ℕ → Plan → Flow
flow_numbered n plan = first (λ f. eqb f.number n) no_flow plan.flows

-- SET-12, IMAGE-4: port, kind and VID as one number, by which flows are ordered.
unfoldable pub set_key : ℕ → ℕ → ℕ → ℕ
set_key port kind vid = port * 2 ^ 24 + kind * 2 ^ 16 + vid

unfoldable pub flow_key : Flow → ℕ
flow_key f = set_key f.port f.kind f.vid

-- SET-10, SET-12: the flow that the plan has for a port and a set.
unfoldable pub flow_of_set : ℕ → FrameSet → Plan → Flow
flow_of_set port set plan = first (λ f. eqb (flow_key f) (set_key port set.kind set.vid)) no_flow plan.flows

-- REFUSAL-1, REFUSAL-6: is there one with this number? What is found has its number, what is not has 0.
unfoldable pub in_plan : ℕ → Bool
in_plan number = leb 1 number

-- MP-2: the flow's MP at a level.
unfoldable pub mp_at : ℕ → Flow → ℕ
mp_at level flow = get_or flow.mps level 0

-- MP-3: an up MEP faces the CEN side, a down MEP the External side, a MIP both.
unfoldable pub faces : ℕ → ℕ → Bool
faces mp side = (eqb mp up && eqb side cen) || (eqb mp down && eqb side external) || (eqb mp mip && within external cen side)

-- PLAN-14: how many MPs a flow has, and all flows together.
unfoldable pub mps_of : Flow → ℕ
mps_of flow = count (leb 1) flow.mps

unfoldable pub mp_count : List Flow → ℕ
mp_count [] = 0
mp_count (f ∷ fs) = mps_of f + mp_count fs

-- PLAN-10: an address is neither a group address nor all zeros.
unfoldable pub good_address : ℕ → Bool
good_address address = not (group address) && not (eqb address 0)

-- PLAN-7: a VID is 1 to 4094; that of a `u` flow is 0.
unfoldable pub good_vid : ℕ → ℕ → Bool
good_vid kind vid = cond (eqb kind untagged) (eqb vid 0) (within 1 4094 vid)

-- PLAN-8: a `c` flow belongs on a UNI, an `s` flow on an ENNI; a `u` flow may be on either.
unfoldable pub good_kind : ℕ → ℕ → Bool
good_kind kind port =
    eqb kind untagged || (eqb kind c_tagged && eqb port uni) || (eqb kind s_tagged && eqb port enni)

-- PLAN-3, PLAN-10: a port has a number from 1 to 8, a kind, and a good address of 48 bits.
unfoldable pub good_port : Port → Bool
good_port p = within 1 8 p.number && within uni enni p.kind && good_address p.address && ltb p.address (2 ^ 48)

-- PLAN-4, PLAN-7, PLAN-8, PLAN-13: a flow has a number from 1 to 32, a port that is there, a kind that belongs on it, a good VID, and at
-- each of the eight levels one MP or none.
unfoldable pub good_flow : Plan → Flow → Bool
good_flow plan f =
    within 1 32 f.number
    && in_plan (port_numbered f.port plan).number
    && good_kind f.kind (port_numbered f.port plan).kind
    && good_vid f.kind f.vid
    && eqb (length f.mps) 8
    && every (λ mp. leb mp mip) f.mps

-- PLAN-10, PLAN-11, PLAN-12, PLAN-14: no two ports have the same number or address, no two flows the same number or, on one port, kind
-- and VID; there are no more than 32 MPs. While the text is read there may be no port yet.
unfoldable pub so_far : Plan → Bool
so_far plan =
    ascends (λ p. p.number) 0 plan.ports
    && every good_port plan.ports
    && distinct (map (λ p. p.address) plan.ports)
    && ascends flow_key 0 plan.flows
    && every (good_flow plan) plan.flows
    && distinct (map (λ f. f.number) plan.flows)
    && leb (mp_count plan.flows) 32

-- PLAN-15, STATE-2, UNIT-1: the rules of a plan: those, and at least one port.
unfoldable pub keeps_rules : Plan → Bool
keeps_rules plan = leb 1 (length plan.ports) && so_far plan
