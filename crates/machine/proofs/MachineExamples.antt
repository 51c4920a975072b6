-- "Machine", by computation.
use Rattle.std.proofs.Common.{◌≡◌, ℕ, Bool, true, false, List, [], ◌∷◌, map, refl}
use Rattle.octets.specs.Lists.{within}
use Rattle.codec.specs.FrameSet.{external, cen}
use Rattle.codec.specs.Request.{octet, level_of}
use Rattle.machine.specs.declared.Session.{Session}
use Rattle.machine.specs.declared.Machine.{Machine}
use Rattle.machine.specs.declared.Machine.TheVariants.{Inactive, Active}
use Rattle.machine.specs.declared.Change.{Change}
use Rattle.machine.specs.declared.Change.TheVariants.{Same, Opened, Restarted, Closed}
use Rattle.machine.specs.declared.Fate.{Fate}
use Rattle.machine.specs.declared.Fate.TheVariants.{Forward, Drop, Loop}
use Rattle.machine.specs.Table.{Event, rqst_activate, rqst_deactivate, rqst_state, action_of}
use Rattle.machine.specs.Machine.{Decision, activity, condition_of, key, lasting, good_seconds, answered, admitted, same_mp, restarted, refreshed, closed}
use Rattle.machine.specs.Machine.{decided, after, passes, turned, fate_of, data_event}

-- a session at the MP of a level and side, opened by a frame with this tag
abbrev session : ℕ → ℕ → ℕ → ℕ → Session
session tag level side left =
    record {
      flow = 1;
      source = 0x0200000000AA;
      level = level;
      side = side;
      taglen = 4;
      tag = tag;
      left = left;
      notice = 0;
    }

-- the tags of the first Activate and of the request at hand, which has other priority bits
abbrev first : ℕ
first = 0x81000014

abbrev now : ℕ
now = 0x8100E014

-- with half a minute left
abbrev activated : ℕ → ℕ → Machine
activated level side = Active (session first level side 30000)

abbrev answer : ℕ → Change → Decision
answer code change = record { code = code; change = change }

decides : Machine → Event → ℕ → ℕ → ℕ → ℕ → Decision
unfolding decided admitted restarted refreshed closed answered same_mp good_seconds lasting within condition_of activity action_of
decides m event seconds full level side =
    decided (action_of (condition_of true m) event) full seconds (session now level side 0) m

-- the machine; the request, its seconds, 0 or the code of a full table, the level and side of its MP; the answer
abbrev answers : List (Machine × Event × ℕ × ℕ × ℕ × ℕ × Decision)
answers =
    -- inactive: seconds not 1 to 86,400: 6; 16 open: 2; else open, 0
    (Inactive, rqst_activate, 0, 0, 4, cen, answer 6 Same)
    ∷ (Inactive, rqst_activate, 1, 0, 4, cen, answer 0 (Opened (session now 4 cen 1000)))
    ∷ (Inactive, rqst_activate, 86400, 0, 4, cen, answer 0 (Opened (session now 4 cen 86400000)))
    ∷ (Inactive, rqst_activate, 86401, 0, 4, cen, answer 6 Same)
    ∷ (Inactive, rqst_activate, 60, 2, 4, cen, answer 2 Same)
    ∷ (Inactive, rqst_activate, 0, 2, 4, cen, answer 6 Same)
    ∷ (Inactive, rqst_deactivate, 0, 0, 4, cen, answer 5 Same)
    ∷ (Inactive, rqst_state, 0, 0, 4, cen, answer 0 Same)
    -- active, same level and side: a restart changes only the time, and needs no full
    ∷ (activated 4 cen, rqst_activate, 0, 0, 4, cen, answer 6 Same)
    ∷ (activated 4 cen, rqst_activate, 1, 0, 4, cen, answer 4 (Restarted (session first 4 cen 1000)))
    ∷ (activated 4 cen, rqst_activate, 86400, 2, 4, cen, answer 4 (Restarted (session first 4 cen 86400000)))
    ∷ (activated 4 cen, rqst_activate, 86401, 0, 4, cen, answer 6 Same)
    ∷ (activated 4 cen, rqst_deactivate, 0, 0, 4, cen, answer 0 Closed)
    ∷ (activated 4 cen, rqst_state, 0, 0, 4, cen, answer 0 Same)
    -- active, other level
    ∷ (activated 4 cen, rqst_activate, 60, 0, 5, cen, answer 7 Same)
    ∷ (activated 4 cen, rqst_activate, 0, 0, 3, cen, answer 7 Same)
    ∷ (activated 4 cen, rqst_deactivate, 0, 0, 5, cen, answer 7 Same)
    ∷ (activated 4 cen, rqst_state, 0, 0, 5, cen, answer 0 Same)
    -- active, same level and other side
    ∷ (activated 4 cen, rqst_activate, 60, 0, 4, external, answer 7 Same)
    ∷ (activated 4 cen, rqst_activate, 0, 0, 4, external, answer 7 Same)
    ∷ (activated 4 external, rqst_deactivate, 0, 0, 4, cen, answer 7 Same)
    ∷ (activated 4 external, rqst_state, 0, 0, 4, cen, answer 0 Same)
    ∷ []

each_request_has_its_answer :
    map
    (λ row. (row.0, row.1, row.2, row.3, row.4, row.5, decides row.0 row.1 row.2 row.3 row.4 row.5))
    answers ≡
    answers
unfolding decides
each_request_has_its_answer = refl

-- what becomes of a session, and the machine after that
abbrev changes : List (Change × Machine)
changes =
    (Same, activated 4 cen)
    ∷ (Opened (session now 5 external 1000), Active (session now 5 external 1000))
    ∷ (Restarted (session first 4 cen 1000), Active (session first 4 cen 1000))
    ∷ (Closed, Inactive)
    ∷ []

machine_after_each_change : map (λ row. (row.0, after row.0 (activated 4 cen))) changes ≡ changes
unfolding after
machine_after_each_change = refl

fate : Bool → Machine → Bool → ℕ → ℕ → Fate
unfolding activity fate_of turned passes data_event condition_of action_of level_of octet
fate allowed m soam level side = fate_of (action_of (condition_of allowed m) (data_event side)) soam level side m

-- is the flow allowed, the machine; is the frame SOAM, its level, its side; its fate
abbrev fates : List (Bool × Machine × Bool × ℕ × ℕ × Fate)
fates =
    -- inactive or prohibited
    (true, Inactive, false, 0, external, Forward)
    ∷ (true, Inactive, false, 0, cen, Forward)
    ∷ (false, Inactive, false, 0, external, Forward)
    ∷ (false, Inactive, false, 0, cen, Forward)
    ∷ (false, activated 4 cen, false, 0, external, Forward)
    ∷ (false, activated 4 cen, false, 0, cen, Forward)
    -- SOAM of the session's level or below
    ∷ (true, activated 4 cen, true, 4, cen, Forward)
    ∷ (true, activated 4 cen, true, 4, external, Forward)
    ∷ (true, activated 4 cen, true, 3, cen, Forward)
    ∷ (true, activated 4 cen, true, 3, external, Forward)
    -- an empty PDU counts as level 0
    ∷ (true, activated 0 cen, true, level_of [], cen, Forward)
    ∷ (true, activated 0 cen, true, level_of [], external, Forward)
    -- above it
    ∷ (true, activated 4 cen, true, 5, cen, Loop)
    ∷ (true, activated 4 cen, true, 5, external, Drop)
    -- no SOAM
    ∷ (true, activated 4 cen, false, 4, cen, Loop)
    ∷ (true, activated 4 cen, false, 4, external, Drop)
    ∷ (true, activated 4 external, false, 4, cen, Drop)
    ∷ (true, activated 4 external, false, 4, external, Loop)
    ∷ []

each_data_frame_has_its_fate :
    map (λ row. (row.0, row.1, row.2, row.3, row.4, fate row.0 row.1 row.2 row.3 row.4)) fates ≡ fates
unfolding fate
each_data_frame_has_its_fate = refl

-- flow, source and the key of both: all 48 bits, and the flow, which has the VLAN
abbrev keys : List (ℕ × ℕ × ℕ)
keys = (1, 0x0200000000AA, 0x010200000000AA) ∷ (2, 0x0200000000AA, 0x020200000000AA) ∷ (1, 0xFEFFFFFFFFFF, 0x01FEFFFFFFFFFF) ∷ []

key_has_flow_and_source : map (λ row. (row.0, row.1, key row.0 row.1)) keys ≡ keys
unfolding key
key_has_flow_and_source = refl
