-- The plan's rules, by a table of plans that keep them and one of plans that break one each.
use mathlib.Core.Path.{◌≡◌, refl}
use mathlib.Core.Bool.{Bool, true, false}
use mathlib.Core.List.{List, [], ◌∷◌, ◌++◌}
use Prim.Native.Nat.{ℕ, ◌^◌}
use lib.ListN.{replicate}
use Rattle.octets.specs.Lists.{within, every, some, count, first, ascends, distinct}
use Rattle.codec.specs.FrameSet.{uni, enni, untagged, c_tagged, s_tagged, group}
use Rattle.plan.specs.declared.Port.{Port}
use Rattle.plan.specs.declared.Flow.{Flow}
use Rattle.plan.specs.Plan.{Plan, up, mip, no_port, port_numbered, set_key, flow_key, in_plan, mps_of, mp_count}
use Rattle.plan.specs.Plan.{good_address, good_vid, good_kind, good_port, good_flow, so_far, keeps_rules}
use Rattle.plan.proofs.Examples.{bench_plan}

-- number, kind, address
port : ℕ → ℕ → ℕ → Port
port number kind address = record { number = number; kind = kind; address = address }

-- number, port, kind, VID, MPs
flow : ℕ → ℕ → ℕ → ℕ → List ℕ → Flow
flow number port kind vid mps = record { number = number; port = port; kind = kind; vid = vid; mps = mps }

plan : List Port → List Flow → Plan
plan ports flows = record { ports = ports; flows = flows }

unit : List Flow → Plan
unfolding plan port
unit flows = plan (port 1 uni 0x020000000001 ∷ port 2 enni 0x020000000002 ∷ []) flows

none : List ℕ
none = replicate 8 0

-- four flows with an MP at each level
four : List Flow
unfolding flow
four =
    flow 1 1 c_tagged 1 (replicate 8 mip)
    ∷ flow 2 1 c_tagged 2 (replicate 8 mip)
    ∷ flow 3 1 c_tagged 3 (replicate 8 mip)
    ∷ flow 4 1 c_tagged 4 (replicate 8 mip)
    ∷ []

kept : List Plan
unfolding bench_plan plan port unit flow none four
kept =
    bench_plan
    ∷ plan (port 1 enni 0x020000000002 ∷ port 8 uni 0x020000000001 ∷ []) []
    -- one VID at two ports, and in ascending set whatever the numbers
    ∷ unit (flow 32 1 c_tagged 4094 none ∷ flow 1 2 s_tagged 4094 none ∷ [])
    ∷ unit (flow 3 1 untagged 0 none ∷ flow 2 1 c_tagged 20 none ∷ flow 1 2 untagged 0 none ∷ [])
    ∷ unit four
    ∷ []

broken : List Plan
unfolding plan port unit flow none four
broken =
    plan [] []
    ∷ plan (port 0 uni 0x020000000001 ∷ []) []
    ∷ plan (port 9 uni 0x020000000001 ∷ []) []
    ∷ plan (port 1 3 0x020000000001 ∷ []) []
    ∷ plan (port 1 uni 0x030000000001 ∷ []) []
    ∷ plan (port 1 uni 0 ∷ []) []
    ∷ plan (port 1 uni (2 ^ 48) ∷ []) []
    ∷ plan (port 1 uni 0x020000000001 ∷ port 1 uni 0x020000000002 ∷ []) []
    ∷ plan (port 1 uni 0x020000000001 ∷ port 2 uni 0x020000000001 ∷ []) []
    ∷ unit (flow 0 1 c_tagged 20 none ∷ [])
    ∷ unit (flow 33 1 c_tagged 20 none ∷ [])
    ∷ unit (flow 1 3 untagged 0 none ∷ [])
    ∷ unit (flow 1 2 c_tagged 20 none ∷ [])
    ∷ unit (flow 1 1 s_tagged 20 none ∷ [])
    ∷ unit (flow 1 1 c_tagged 0 none ∷ [])
    ∷ unit (flow 1 1 c_tagged 4095 none ∷ [])
    ∷ unit (flow 1 1 untagged 1 none ∷ [])
    ∷ unit (flow 1 1 c_tagged 20 (replicate 7 0) ∷ [])
    ∷ unit (flow 1 1 c_tagged 20 (replicate 8 4) ∷ [])
    -- two flows with one frame set, or with one number, or in descending set
    ∷ unit (flow 1 1 c_tagged 20 none ∷ flow 2 1 c_tagged 20 none ∷ [])
    ∷ unit (flow 1 1 c_tagged 20 none ∷ flow 1 1 c_tagged 30 none ∷ [])
    ∷ unit (flow 1 1 c_tagged 30 none ∷ flow 2 1 c_tagged 20 none ∷ [])
    -- 33 MPs
    ∷ unit (four ++ (flow 5 1 c_tagged 5 (up ∷ replicate 7 0) ∷ []))
    ∷ []

-- Does a plan keep the rules? To unfold it is to unfold all that the rules compute.
unfoldable pub keeps : Plan → Bool
unfolding keeps_rules so_far good_flow good_port good_kind good_vid good_address mp_count mps_of in_plan flow_key set_key port_numbered no_port group
    distinct ascends first count some every within
keeps p = keeps_rules p

plans_that_keep_the_rules : every keeps_rules kept ≡ true
unfolding keeps kept
plans_that_keep_the_rules = refl

plans_that_break_a_rule : some keeps_rules broken ≡ false
unfolding keeps broken
plans_that_break_a_rule = refl
