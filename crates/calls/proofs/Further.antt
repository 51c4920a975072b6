-- Further cases over the definitions: the bench's other lines, each refusal, mistakes of earlier units, and the
-- points of docs/DECISIONS.md.
use mathlib.Core.List.{List, [], ◌∷◌, ◌++◌}
use Prim.Native.Nat.{ℕ, zero, suc}
use lib.ListN.{replicate}
use Rattle.octets.specs.Text.{text, hex}
use Rattle.codec.specs.FrameSet.{external, cen}
use Rattle.calls.specs.declared.Answer.TheVariants.{Refused, Forwarded, Dropped, Looped, Replied, Done, Faulty}
use Rattle.calls.specs.Calls.{Call, make, frame, tick, allow, prohibit, notice, restart}
use Rattle.calls.specs.Bench.{Case, case, bench_plan, start, room, written, to_tester, asks, activate60, state_request, other_vlan}

-- the bench with B1 done, and with a notice due
unfoldable pub opened : List Call
opened = start ++ (activate60 ∷ [])

unfoldable pub due : List Call
due = opened ++ (tick 60000 ∷ [])

-- so many octets of no meaning; as a frame they are untagged, and the bench plan has no such set
unfoldable pub blank_frame : ℕ → Call
blank_frame n = frame 1 cen (replicate n 0) room

unfoldable pub refusals : List Case
refusals =
    -- 1, by port and by side, whole numbers of 32 bits
    case start (frame 2 cen (replicate 14 0) room) (Refused 1) room
    ∷ case start (frame 0 cen (replicate 14 0) room) (Refused 1) room
    ∷ case start (frame 257 cen (replicate 14 0) room) (Refused 1) room
    ∷ case start (frame 1 2 (replicate 14 0) room) (Refused 1) room
    ∷ case start (frame 1 256 (replicate 14 0) room) (Refused 1) room
    -- 2: 13 octets no, 14 yes; 2,000 yes, 2,001 no
    ∷ case start (blank_frame 13) (Refused 2) room
    ∷ case start (blank_frame 14) Forwarded room
    ∷ case start (blank_frame 2000) Forwarded room
    ∷ case start (blank_frame 2001) (Refused 2) room
    -- 3: output 2,007 no, 2,009 yes
    ∷ case start (frame 1 cen (replicate 14 0) (replicate 2007 0)) (Refused 3) (replicate 2007 0)
    ∷ case start (frame 1 cen (replicate 14 0) (replicate 2009 0)) Forwarded (replicate 2009 0)
    ∷ case due (notice (replicate 2007 0)) (Refused 3) (replicate 2007 0)
    -- 4, also where the frame would only be forwarded, for a tick of 0 ms, and ahead of 5 and 6
    ∷ case due (blank_frame 14) (Refused 4) room
    ∷ case due other_vlan (Refused 4) room
    ∷ case due (frame 1 cen (hex "02 00 00 00 00 01 03 00 00 00 00 AA 81 00 00 14 08 00") room) (Refused 4) room
    ∷ case due (tick 60000) (Refused 4) []
    ∷ case due (tick 4000000000) (Refused 4) []
    ∷ case due (allow 1) (Refused 4) []
    ∷ case due (prohibit 33) (Refused 4) []
    ∷ case due (allow 33) (Refused 4) []
    -- 5: 2^31 - 1 yes, a clock set back no
    ∷ case start (tick 2147483647) Done []
    ∷ case (start ++ (tick 1 ∷ [])) (tick 0) (Refused 5) []
    -- 6
    ∷ case start (allow 3) (Refused 6) []
    ∷ case start (prohibit 0) (Refused 6) []
    ∷ case start (allow 257) (Refused 6) []
    -- 7
    ∷ case start (notice room) (Refused 7) room
    -- the order of the table
    ∷ case due (frame 2 cen (replicate 13 0) []) (Refused 1) []
    ∷ case due (frame 1 cen (replicate 13 0) []) (Refused 2) []
    ∷ case due (frame 1 cen (replicate 14 0) []) (Refused 3) []
    ∷ case start (notice []) (Refused 3) []
    -- restart and make are not refused
    ∷ case due (restart 7) Done []
    ∷ case due (make bench_plan 0) Done []
    -- a state made anew has no sessions, no notices and no flow allowed
    ∷ case (due ++ (make bench_plan 0 ∷ [])) (notice room) (Refused 7) room
    ∷ case (opened ++ (make bench_plan 0 ∷ [])) activate60 Dropped room
    ∷ case (opened ++ (make bench_plan 0 ∷ allow 1 ∷ [])) state_request (Replied 39)
    (written (to_tester (hex "80 38 00 08 03 00 02 00 00 00 00 01 25 00 05 01 00 00 00 00 00")))
    -- a fault leaves the old state
    ∷ case due (make (text "port\t9\n") 0) (Faulty 1 1) []
    ∷ case (due ++ (make (text "port\t9\n") 0 ∷ [])) (tick 60000) (Refused 4) []
    ∷ []

-- Activate for 60 seconds from 02-00-00-00-01-n
unfoldable pub activate_from : ℕ → Call
activate_from n =
    frame 1 cen
    (hex "02 00 00 00 00 01 02 00 00 00 01"
    ++ (n ∷ hex "81 00 00 14 89 02 80 39 00 08 01 00 02 00 00 00 00 01 25 00 05 01 00 00 00 3C 00"))
    room

unfoldable pub sessions : ℕ → List Call
sessions zero = []
sessions (suc n) = activate_from n ∷ sessions n

-- what the tester sends with tag C 20: behind the tag, from a side
unfoldable pub tester : ℕ → List ℕ → Call
tester side rest = frame 1 side (hex "02 00 00 00 00 01 02 00 00 00 00 AA 81 00 00 14" ++ rest) room

unfoldable pub requests : List Case
requests =
    -- the 17th session: code 2; bad seconds come first; a refresh is served in a full table; a closed place is used again
    case (start ++ sessions 16) activate60 (Replied 39)
    (written (to_tester (hex "80 38 00 08 01 02 02 00 00 00 00 01 25 00 05 01 00 00 00 00 00")))
    ∷ case (start ++ sessions 16) (asks (hex "80 39 00 08 01 00 02 00 00 00 00 01 25 00 05 01 00 00 00 00 00")) (Replied 39)
    (written (to_tester (hex "80 38 00 08 01 06 02 00 00 00 00 01 25 00 05 01 00 00 00 00 00")))
    ∷ case (start ++ sessions 15 ++ (activate60 ∷ [])) activate60 (Replied 39)
    (written (to_tester (hex "80 38 01 08 01 04 02 00 00 00 00 01 25 00 05 01 00 00 00 3C 00")))
    ∷ case (start ++ sessions 16 ++ (tick 60000 ∷ notice room ∷ restart 0 ∷ [])) activate60 (Replied 39)
    (written (to_tester (hex "80 38 01 08 01 00 02 00 00 00 00 01 25 00 05 01 00 00 00 3C 00")))
    -- Deactivate: close, 0; already inactive, 5; the timer there is ignored and not copied
    ∷ case opened (asks (hex "80 39 00 08 02 00 02 00 00 00 00 01 25 00 05 01 00 00 00 3C 00")) (Replied 31)
    (written (to_tester (hex "80 38 00 08 02 00 02 00 00 00 00 01 00")))
    ∷ case start (asks (hex "80 39 00 08 02 00 02 00 00 00 00 01 00")) (Replied 31)
    (written (to_tester (hex "80 38 00 08 02 05 02 00 00 00 00 01 00")))
    -- State of an inactive machine
    ∷ case start state_request (Replied 39)
    (written (to_tester (hex "80 38 00 08 03 00 02 00 00 00 00 01 25 00 05 01 00 00 00 00 00")))
    -- a malformed request reports its machine's status, with no timer
    ∷ case opened (asks (hex "80 39 00 08 01 00 02 00 00 00 00 01 25 00 05 01 00 00 00 3C")) (Replied 31)
    (written (to_tester (hex "80 38 01 08 01 01 02 00 00 00 00 01 00")))
    -- and copies nothing, whatever stands before the fault
    ∷ case start (asks (hex "80 39 00 08 03 00 02 00 00 00 00 01 09 00 01 FF")) (Replied 31)
    (written (to_tester (hex "80 38 00 08 03 01 02 00 00 00 00 01 00")))
    -- a refused refresh: the old session's seconds, and nothing changes
    ∷ case (opened ++ (tick 30000 ∷ [])) (asks (hex "80 39 00 08 01 00 02 00 00 00 00 01 25 00 05 01 00 00 00 00 00")) (Replied 39)
    (written (to_tester (hex "80 38 01 08 01 06 02 00 00 00 00 01 25 00 05 01 00 00 00 1E 00")))
    -- an Activate without a timer is malformed in a full table too
    ∷ case (start ++ sessions 16) (asks (hex "80 39 00 08 01 00 02 00 00 00 00 01 00")) (Replied 31)
    (written (to_tester (hex "80 38 00 08 01 01 02 00 00 00 00 01 00")))
    -- padding behind the End is nothing
    ∷ case start (asks (hex "80 39 00 08 01 00 02 00 00 00 00 01 25 00 05 01 00 00 00 3C 00 00 00")) (Replied 39)
    (written (to_tester (hex "80 38 01 08 01 00 02 00 00 00 00 01 25 00 05 01 00 00 00 3C 00")))
    -- a State request's timer is ignored: not copied, not counted, no restart
    ∷ case opened (asks (hex "80 39 00 08 03 00 02 00 00 00 00 01 25 00 05 01 00 00 00 05 00")) (Replied 39)
    (written (to_tester (hex "80 38 01 08 03 00 02 00 00 00 00 01 25 00 05 01 00 00 00 3C 00")))
    -- a reserved type: code 10, status bits 0, unknown TLVs copied, no timer
    ∷ case opened (asks (hex "80 39 00 08 09 00 02 00 00 00 00 01 1F 00 02 AB CD 00")) (Replied 36)
    (written (to_tester (hex "80 38 04 08 09 0A 02 00 00 00 00 01 1F 00 02 AB CD 00")))
    -- a unicast request under 12 octets is dropped; with one octet it has no opcode and is data
    ∷ case start (asks (hex "80 39 00 08 01 00 02 00 00 00 00")) Dropped room
    ∷ case start (asks (hex "80")) Forwarded room
    -- prohibited: no reply
    ∷ case (make bench_plan 0 ∷ []) activate60 Dropped room
    ∷ case (make bench_plan 0 ∷ []) (asks (hex "80 39")) Dropped room
    -- a group source has no set, even with a request
    ∷ case start
    (frame 1 cen (hex "02 00 00 00 00 01 03 00 00 00 00 AA 81 00 00 14 89 02 80 39 00 08 03 00 02 00 00 00 00 01 00") room)
    Forwarded room
    -- from the side that the MP does not face it is data
    ∷ case start (tester external (hex "89 02 80 39 00 08 03 00 02 00 00 00 00 01 00")) Forwarded room
    -- a reply of 2,008 octets: a State request of 2,000 that is full of one unknown TLV
    ∷ case start
    (frame 1 cen
    (hex "02 00 00 00 00 01 02 00 00 00 00 AA 81 00 00 14 89 02 80 39 00 08 03 00 02 00 00 00 00 01 09 07 AE"
    ++ replicate 1966 0x55 ++ (0 ∷ []))
    room)
    (Replied 2008)
    (written (to_tester (hex "80 38 04 08 03 00 02 00 00 00 00 01 25 00 05 01 00 00 00 00 09 07 AE") ++ replicate 1966 0x55 ++ (0 ∷ [])))
    ∷ []

unfoldable pub traffic : List Case
traffic =
    -- active: looped from the activating side, dropped from the other; inactive or prohibited: forwarded
    case opened (tester cen (hex "08 00 45")) (Looped 19) (written (hex "02 00 00 00 00 AA 02 00 00 00 00 01 81 00 00 14 08 00 45"))
    ∷ case opened (tester external (hex "08 00 45")) Dropped room
    ∷ case start (tester cen (hex "08 00 45")) Forwarded room
    ∷ case (make bench_plan 0 ∷ []) (tester cen (hex "08 00 45")) Forwarded room
    -- a group destination gets the port address as its source
    ∷ case opened (frame 1 cen (hex "FF FF FF FF FF FF 02 00 00 00 00 AA 81 00 00 14 08 00") room) (Looped 18)
    (written (hex "02 00 00 00 00 AA 02 00 00 00 00 01 81 00 00 14 08 00"))
    -- the slip: another VLAN, allowed too, has a machine of its own, and so has another source address
    ∷ case (opened ++ (allow 2 ∷ [])) other_vlan Forwarded room
    ∷ case opened (frame 1 cen (hex "02 00 00 00 00 01 02 00 00 00 00 AB 81 00 00 14 08 00") room) Forwarded room
    -- SOAM at the level or below goes through from either side, an empty PDU counts as level 0; above the level it is turned round
    ∷ case opened (tester cen (hex "89 02 80 01 00 00")) Forwarded room
    ∷ case opened (tester external (hex "89 02 9F")) Forwarded room
    ∷ case opened (tester cen (hex "89 02")) Forwarded room
    ∷ case opened (tester cen (hex "89 02 A0 01")) (Looped 20) (written (hex "02 00 00 00 00 AA 02 00 00 00 00 01 81 00 00 14 89 02 A0 01"))
    -- the slip: a subscriber's OAM under a second tag is data, looped, and no request
    ∷ case opened (tester cen (hex "81 00 00 05 89 02 80 39 00 08 03 00 02 00 00 00 00 01 00")) (Looped 35)
    (written (hex "02 00 00 00 00 AA 02 00 00 00 00 01 81 00 00 14 81 00 00 05 89 02 80 39 00 08 03 00 02 00 00 00 00 01 00"))
    ∷ case start (tester cen (hex "81 00 00 05 89 02 80 39 00 08 03 00 02 00 00 00 00 01 00")) Forwarded room
    -- an open session survives a second Allow, and not a restart; prohibitions are kept
    ∷ case (opened ++ (allow 1 ∷ [])) (tester cen (hex "08 00")) (Looped 18) (written (hex "02 00 00 00 00 AA 02 00 00 00 00 01 81 00 00 14 08 00"))
    ∷ case (opened ++ (restart 5 ∷ [])) (tester cen (hex "08 00")) Forwarded room
    ∷ case (opened ++ (restart 5 ∷ [])) state_request (Replied 39)
    (written (to_tester (hex "80 38 00 08 03 00 02 00 00 00 00 01 25 00 05 01 00 00 00 00 00")))
    ∷ []
