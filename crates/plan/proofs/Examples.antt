-- "The plan" by example: what texts are read as.
mod Lines
pub mod Rules
mod Written
mod Order
use mathlib.Core.Path.{◌≡◌, refl}
use mathlib.Core.Bool.{Bool, true, cond, ◌&&◌}
use mathlib.Core.List.{List, [], ◌∷◌, ◌++◌, map, flat_map}
use Prim.Native.Nat.{ℕ}
use Prim.Native.String.{String}
use lib.ListN.{replicate}
use lib.Dec.{eqb}
use Rattle.octets.specs.Octets.{same}
use Rattle.octets.specs.Lists.{within, every, some, count, first, put}
use Rattle.octets.specs.Text.{text, digit}
use Rattle.codec.specs.FrameSet.{uni, c_tagged, group, set_of}
use Rattle.plan.specs.Plan.{Plan, up, no_port, no_flow, port_numbered, flow_numbered, set_key, flow_key, flow_of_set, in_plan, mp_at}
use Rattle.plan.specs.Plan.{mps_of, mp_count, good_address, good_vid, good_kind}
use Rattle.plan.specs.Line.{lf, joined, parted, field, is_digit, is_number, is_address, spelled, number_in, address_in, listed}
use Rattle.plan.specs.Line.{port_kinds, flow_kinds, mp_kinds, as_port, as_flow, as_mp, by_word, line_of}
use Rattle.plan.specs.PlanText.{Reading, fault, planned, port_reason, flow_reason, mp_reason, reason_of, with_mp, added, finished}
use Rattle.plan.specs.PlanText.{read_lines, empty_plan, plan_in}

-- a text with tabs for its blanks, so that lines can be read here
tabbed : String → List ℕ
unfolding text
tabbed s = map (λ x. cond (eqb x 32) 9 x) (text s)

-- lines, each ended by LF
pub lines : List String → List ℕ
unfolding tabbed flat_map
lines ls = flat_map (λ s. tabbed s ++ (lf ∷ [])) ls

pub bench : List String
bench = "port 1 uni 020000000001" ∷ "flow 1 1 c 20" ∷ "flow 2 1 c 30" ∷ "mp 1 up 4" ∷ []

unfoldable pub bench_plan : Plan
bench_plan =
    record {
      ports = record { number = 1; kind = uni; address = 0x020000000001 } ∷ [];
      flows =
          record { number = 1; port = 1; kind = c_tagged; vid = 20; mps = 0 ∷ 0 ∷ 0 ∷ 0 ∷ up ∷ 0 ∷ 0 ∷ 0 ∷ [] }
          ∷ record { number = 2; port = 1; kind = c_tagged; vid = 30; mps = replicate 8 0 }
          ∷ [];
    }

-- A text read. To unfold it is to unfold all that reading computes.
pub read : List ℕ → Reading
unfolding plan_in empty_plan read_lines finished added with_mp reason_of mp_reason flow_reason port_reason line_of by_word as_mp as_flow
    as_port mp_kinds flow_kinds port_kinds listed address_in number_in spelled is_address is_number is_digit field parted joined good_kind
    good_vid good_address mp_count mps_of mp_at in_plan flow_of_set flow_key set_key flow_numbered port_numbered no_flow no_port set_of group
    digit text put first count some every within same lines tabbed flat_map
read l = plan_in l

the_bench_plan_is_read : plan_in (lines bench) ≡ planned bench_plan
unfolding read bench bench_plan
the_bench_plan_is_read = refl

another_order_of_lines_is_the_same_plan :
    plan_in (lines ("port 1 uni 020000000001" ∷ "flow 2 1 c 30" ∷ "flow 1 1 c 20" ∷ "mp 1 up 4" ∷ []))
    ≡ plan_in (lines bench)
unfolding read bench
another_order_of_lines_is_the_same_plan = refl

-- Is the reading a fault in this line and with this reason? Reason 0 is a plan.
pub gives : ℕ → ℕ → Reading → Bool
gives line reason (fault l r) = eqb l line && eqb r reason
gives line reason (planned p) = eqb reason 0

-- five flows of one port, the first four with an MP at each level
pub full : List ℕ
unfolding lines flat_map text
full =
    lines ("port 1 uni 020000000001" ∷ "flow 1 1 c 1" ∷ "flow 2 1 c 2" ∷ "flow 3 1 c 3" ∷ "flow 4 1 c 4" ∷ "flow 5 1 c 5" ∷ [])
    ++ flat_map (λ flow. flat_map (mp_line flow) (text "01234567")) (text "1234")
  where
    mp_line : ℕ → ℕ → List ℕ
    mp_line flow level = text "mp\t" ++ (flow ∷ text "\tmip\t") ++ (level ∷ lf ∷ [])

-- texts, with the line and the reason of their fault
texts : List (List ℕ × ℕ × ℕ)
unfolding lines bench full tabbed
texts =
    ([], 0, 6)
    ∷ (replicate 8192 lf, 1, 1)
    ∷ (replicate 8193 lf, 0, 5)
    -- a blank is no tab
    ∷ (text "port 1 uni 020000000001\n", 1, 1)
    -- the last line is not ended by LF: a fault behind good lines, and only there
    ∷ (tabbed "port 1 uni 020000000001", 1, 1)
    ∷ (lines bench ++ tabbed "mp 1 up 5", 5, 1)
    ∷ (lines bench ++ tabbed "mp 1 up 8", 5, 1)
    ∷ (lines ("port 9 uni 020000000001" ∷ []) ++ tabbed "mp 1 up 5", 1, 2)
    -- names come before use
    ∷ (lines ("flow 1 1 c 20" ∷ "port 1 uni 020000000001" ∷ []), 1, 3)
    ∷ (lines ("port 1 uni 020000000001" ∷ "mp 1 up 4" ∷ "flow 1 1 c 20" ∷ []), 2, 3)
    -- the first faulty line, not the lowest reason
    ∷ (lines ("port 1 uni 020000000001" ∷ "port 2 uni 020000000001" ∷ "port 0 uni 020000000003" ∷ "" ∷ []), 2, 4)
    -- 32 MPs, and the line behind them
    ∷ (full, 0, 0)
    ∷ (full ++ lines ("mp 5 up 0" ∷ []), 39, 7)
    ∷ (full ++ lines ("mp 1 up 0" ∷ []), 39, 4)
    ∷ (full ++ lines ("mp 6 up 0" ∷ []), 39, 3)
    ∷ (full ++ lines ("mp 5 up 8" ∷ []), 39, 2)
    ∷ []

faults_have_their_line_and_reason : every (λ (t, line, reason). gives line reason (plan_in t)) texts ≡ true
unfolding read gives texts
faults_have_their_line_and_reason = refl
