-- The reasons of one line, by tables: each line stands behind the same good ones.
use mathlib.Core.Path.{◌≡◌, refl}
use mathlib.Core.Bool.{Bool, true}
use mathlib.Core.List.{List, [], ◌∷◌, ◌++◌}
use Prim.Native.Nat.{ℕ}
use Prim.Native.String.{String}
use Rattle.octets.specs.Lists.{every}
use Rattle.plan.specs.PlanText.{plan_in}
use Rattle.plan.proofs.Examples.{bench, lines, read, gives}

-- the bench plan with an MP of flow 2, a `u` flow, an ENNI and a second UNI
yard : List String
unfolding bench
yard = bench ++ ("mp 2 mip 5" ∷ "flow 3 1 u 0" ∷ "port 2 enni 020000000002" ∷ "port 3 uni 020000000003" ∷ [])

-- Has a line behind these, the ninth, this reason? 0 is a good line.
ninth : ℕ → String → Bool
unfolding read yard gives
ninth reason line = gives 9 reason (plan_in (lines (yard ++ (line ∷ []))))

good : List String
good =
    "port 4 uni 020000000004"
    ∷ "port 8 enni fefffffffffe"
    ∷ "flow 32 1 c 1"
    ∷ "flow 4 1 c 4094"
    -- equal frame sets of two ports are no repeat
    ∷ "flow 4 3 c 20"
    ∷ "flow 4 3 u 0"
    ∷ "flow 4 2 s 20"
    ∷ "flow 4 2 u 0"
    ∷ "mp 1 down 0"
    ∷ "mp 1 mip 7"
    -- another level of the flow, and another flow's
    ∷ "mp 1 up 5"
    ∷ "mp 2 up 4"
    ∷ []

good_lines_have_no_reason : every (ninth 0) good ≡ true
unfolding every ninth good
good_lines_have_no_reason = refl

unreadables : List String
unreadables =
    -- a word, or a kind, that is not listed
    ""
    ∷ "lag 4 uni 020000000004"
    ∷ "Port 4 uni 020000000004"
    ∷ "port 4 nni 020000000004"
    ∷ "flow 4 1 C 40"
    ∷ "mp 1 MIP 5"
    -- a field too few, too many, empty
    ∷ "port 4 uni"
    ∷ "flow 4 1 c"
    ∷ "mp 1 up"
    ∷ "port 4 uni 020000000004 0"
    ∷ "mp 1 up 5 5"
    ∷ "mp 1 up 5 "
    ∷ " mp 1 up 5"
    ∷ "mp  1 up 5"
    ∷ "mp  up 5"
    -- numbers and addresses that are none
    ∷ "port 04 uni 020000000004"
    ∷ "flow 00 1 c 40"
    ∷ "flow +4 1 c 40"
    ∷ "flow 4 01 c 40"
    ∷ "flow 4 1 c 040"
    ∷ "mp 1: up 5"
    ∷ "mp 1 up /"
    ∷ "mp 1 up 5\r"
    ∷ "port 4 uni 02000000000A"
    ∷ "port 4 uni 02000000000g"
    ∷ "port 4 uni 02000000004"
    ∷ "port 4 uni 0200000000004"
    -- words of what is to come
    ∷ "shared 020000000004"
    ∷ "vuni 2 20"
    ∷ "flow 4 2 d 20"
    ∷ "flow 4 2 e 20"
    ∷ "flow 4 1 c 40 a"
    ∷ "flow 4 1 c 40 b"
    ∷ []

unreadable_lines_have_reason_1 : every (ninth 1) unreadables ≡ true
unfolding every ninth unreadables
unreadable_lines_have_reason_1 = refl

out_of_range : List String
out_of_range =
    "port 0 uni 020000000004"
    ∷ "port 9 uni 020000000004"
    ∷ "port 4 uni 010000000004"
    ∷ "port 4 uni 000000000000"
    ∷ "flow 0 1 c 40"
    ∷ "flow 33 1 c 40"
    ∷ "flow 4 0 c 40"
    ∷ "flow 4 9 c 40"
    ∷ "flow 4 1 u 1"
    ∷ "flow 4 1 c 0"
    ∷ "flow 4 1 c 4095"
    ∷ "flow 4 2 s 0"
    ∷ "flow 4 2 s 4095"
    ∷ "mp 0 up 4"
    ∷ "mp 33 up 4"
    ∷ "mp 1 up 8"
    ∷ "mp 1 up 123456789012345678901234567890"
    -- a kind that the port can't have
    ∷ "flow 4 2 c 40"
    ∷ "flow 4 1 s 40"
    -- out of range, and a repeat or unnamed too
    ∷ "port 1 uni 030000000001"
    ∷ "flow 1 2 c 20"
    ∷ "flow 4 4 c 0"
    ∷ "mp 4 up 8"
    ∷ []

lines_out_of_range_have_reason_2 : every (ninth 2) out_of_range ≡ true
unfolding every ninth out_of_range
lines_out_of_range_have_reason_2 = refl

-- of an unnamed port no kind is judged
unnamed : List String
unnamed = "flow 4 4 c 40" ∷ "flow 4 4 s 40" ∷ "flow 1 4 c 20" ∷ "mp 4 up 4" ∷ []

unnamed_ports_and_flows_have_reason_3 : every (ninth 3) unnamed ≡ true
unfolding every ninth unnamed
unnamed_ports_and_flows_have_reason_3 = refl

repeats : List String
repeats =
    "port 1 uni 020000000004"
    ∷ "port 4 enni 020000000001"
    ∷ "flow 1 3 c 40"
    ∷ "flow 4 1 c 20"
    ∷ "flow 4 1 u 0"
    ∷ "mp 1 up 4"
    ∷ "mp 1 down 4"
    ∷ []

repeats_have_reason_4 : every (ninth 4) repeats ≡ true
unfolding every ninth repeats
repeats_have_reason_4 = refl
