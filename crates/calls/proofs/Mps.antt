-- Further cases on a plan with MPs of every kind: other levels and sides, MIPs, an ENNI, notices. And the calls on the lent image.
use mathlib.Core.List.{List, [], ◌∷◌, ◌++◌}
use mathlib.Core.Bool.{Bool, ◌&&◌}
use Prim.Native.Nat.{ℕ, ◌+◌, ◌*◌, ◌^◌}
use lib.ListN.{replicate, set}
use lib.Dec.{eqb}
use Rattle.octets.specs.Octets.{same}
use Rattle.octets.specs.Text.{text, hex}
use Rattle.codec.specs.FrameSet.{external, cen}
use Rattle.state.specs.Image.{image}
use Rattle.calls.specs.declared.Answer.TheVariants.{Forwarded, Dropped, Looped, Replied, RepliedForwarded, Noticed}
use Rattle.calls.specs.Calls.{Call, make, frame, tick, allow, prohibit, notice, restart, enter}
use Rattle.calls.specs.Bench.{Case, case, run, blank, bench_plan, start, room, written, to_tester, asks, activate60}

-- Flow 1 has up MPs at levels 4 and 5 and a MIP at level 6; flow 2 a down MP at level 4; flow 4, at an ENNI, a MIP at level 3.
unfoldable pub mp_plan : List ℕ
mp_plan =
    text "port\t1\tuni\t020000000001\nport\t2\tenni\t020000000002\n"
    ++ text "flow\t1\t1\tc\t20\nflow\t2\t1\tc\t30\nflow\t4\t2\ts\t20\n"
    ++ text "mp\t1\tup\t4\nmp\t1\tup\t5\nmp\t1\tmip\t6\nmp\t2\tdown\t4\nmp\t4\tmip\t3\n"

unfoldable pub mps : List Call
mps = make mp_plan 0 ∷ allow 1 ∷ allow 2 ∷ allow 4 ∷ []

-- Activate at level 5, a refresh from another level than B1's
unfoldable pub other_level : Call
other_level = asks (hex "A0 39 00 08 01 00 02 00 00 00 00 01 25 00 05 01 00 00 00 3C 00")

-- Activate at the MIP, from a side
unfoldable pub at_mip : ℕ → Call
at_mip side =
    frame 1 side
    (hex "02 00 00 00 00 01 02 00 00 00 00 AA 81 00 00 14 89 02 C0 39 00 08 01 00 02 00 00 00 00 01 25 00 05 01 00 00 00 3C 00")
    room

-- and at the ENNI's, from the External Network
unfoldable pub at_enni : Call
at_enni =
    frame 2 external
    (hex "02 00 00 00 00 02 02 00 00 00 00 AA 88 A8 00 14 89 02 60 39 00 08 01 00 02 00 00 00 00 02 25 00 05 01 00 00 00 3C 00")
    room

-- a State request to a group of MPs: the last octet of its address, a side, and the PDU
unfoldable pub to_group : ℕ → ℕ → List ℕ → Call
to_group last side pdu =
    frame 1 side (hex "01 80 C2 00 00" ++ (last ∷ hex "02 00 00 00 00 AA 81 00 00 14 89 02") ++ pdu) room

-- Activate for 60 seconds with priority bits in the tag, from 02-00-00-00-00-n
unfoldable pub with_priority : ℕ → Call
with_priority n =
    frame 1 cen
    (hex "02 00 00 00 00 01 02 00 00 00 00"
    ++ (n ∷ hex "81 00 60 14 89 02 80 39 00 08 01 00 02 00 00 00 00 01 25 00 05 01 00 00 00 3C 00"))
    room

unfoldable pub levels : List Case
levels =
    -- another MP: Activate 7 with the session's seconds, its own not looked at; Deactivate 7 and no timer; State 0
    case (mps ++ (activate60 ∷ tick 30000 ∷ [])) other_level (Replied 39)
    (written (to_tester (hex "A0 38 01 08 01 07 02 00 00 00 00 01 25 00 05 01 00 00 00 1E 00")))
    ∷ case (mps ++ (activate60 ∷ [])) (asks (hex "A0 39 00 08 01 00 02 00 00 00 00 01 25 00 05 01 00 00 00 00 00")) (Replied 39)
    (written (to_tester (hex "A0 38 01 08 01 07 02 00 00 00 00 01 25 00 05 01 00 00 00 3C 00")))
    ∷ case (mps ++ (activate60 ∷ [])) (asks (hex "A0 39 00 08 02 00 02 00 00 00 00 01 00")) (Replied 31)
    (written (to_tester (hex "A0 38 01 08 02 07 02 00 00 00 00 01 00")))
    ∷ case (mps ++ (activate60 ∷ [])) (asks (hex "A0 39 00 08 03 00 02 00 00 00 00 01 00")) (Replied 39)
    (written (to_tester (hex "A0 38 01 08 03 00 02 00 00 00 00 01 25 00 05 01 00 00 00 3C 00")))
    -- an Activate without a timer is malformed at another MP too
    ∷ case (mps ++ (activate60 ∷ [])) (asks (hex "A0 39 00 08 01 00 02 00 00 00 00 01 00")) (Replied 31)
    (written (to_tester (hex "A0 38 01 08 01 01 02 00 00 00 00 01 00")))
    -- the slip: a refresh from another level does not restart the timer
    ∷ case (mps ++ (activate60 ∷ tick 30000 ∷ other_level ∷ tick 60000 ∷ [])) (notice room) (Noticed 1 1 31)
    (written (to_tester (hex "80 38 00 08 02 08 02 00 00 00 00 01 00")))
    -- one from its own level does
    ∷ case (mps ++ (activate60 ∷ tick 30000 ∷ activate60 ∷ tick 60000 ∷ [])) activate60 (Replied 39)
    (written (to_tester (hex "80 38 01 08 01 04 02 00 00 00 00 01 25 00 05 01 00 00 00 3C 00")))
    -- at a MIP the other side is another MP; bit 2 is the session's side
    ∷ case (mps ++ (at_mip cen ∷ [])) (at_mip external) (Replied 39)
    (written (to_tester (hex "C0 38 01 08 01 07 02 00 00 00 00 01 25 00 05 01 00 00 00 3C 00")))
    ∷ case mps (at_mip external) (Replied 39)
    (written (to_tester (hex "C0 38 03 08 01 00 02 00 00 00 00 01 25 00 05 01 00 00 00 3C 00")))
    -- a down MP faces the External Network
    ∷ case mps
    (frame 1 external
    (hex "02 00 00 00 00 01 02 00 00 00 00 AA 81 00 00 1E 89 02 80 39 00 08 01 00 02 00 00 00 00 01 25 00 05 01 00 00 00 3C 00")
    room)
    (Replied 39)
    (written (hex "02 00 00 00 00 AA 02 00 00 00 00 01 81 00 00 1E 89 02 80 38 03 08 01 00 02 00 00 00 00 01 25 00 05 01 00 00 00 3C 00"))
    -- an S-tag at an ENNI
    ∷ case mps
    (frame 2 cen
    (hex "02 00 00 00 00 02 02 00 00 00 00 AA 88 A8 00 14 89 02 60 39 00 08 03 00 02 00 00 00 00 02 00")
    room)
    (Replied 39)
    (written (hex "02 00 00 00 00 AA 02 00 00 00 00 02 88 A8 00 14 89 02 60 38 00 08 03 00 02 00 00 00 00 02 25 00 05 01 00 00 00 00 00"))
    ∷ []

unfoldable pub groups : List Case
groups =
    -- a multicast State request: a MEP replies, a MIP replies and forwards, from either side, malformed or not, whatever its MAC
    case mps (to_group 0x3C cen (hex "80 39 00 08 03 00 00 00 00 00 00 00 00")) (Replied 39)
    (written (to_tester (hex "80 38 00 08 03 00 02 00 00 00 00 01 25 00 05 01 00 00 00 00 00")))
    ∷ case mps (to_group 0x3E cen (hex "C0 39 00 08 03 00 00 00 00 00 00 00 00")) (RepliedForwarded 39)
    (written (to_tester (hex "C0 38 00 08 03 00 02 00 00 00 00 01 25 00 05 01 00 00 00 00 00")))
    ∷ case mps (to_group 0x3E external (hex "C0 39 00 08 03 00 12 34 56 78 9A BC 00")) (RepliedForwarded 39)
    (written (to_tester (hex "C0 38 00 08 03 00 02 00 00 00 00 01 25 00 05 01 00 00 00 00 00")))
    ∷ case mps (to_group 0x3E cen (hex "C0 39 00 08 03 00 00 00 00 00 00 00")) (RepliedForwarded 31)
    (written (to_tester (hex "C0 38 00 08 03 01 02 00 00 00 00 01 00")))
    -- so too where it would reach a session of a lower level
    ∷ case (mps ++ (activate60 ∷ [])) (to_group 0x3E cen (hex "C0 39 00 08 03 00 00 00 00 00 00 00 00")) (RepliedForwarded 39)
    (written (to_tester (hex "C0 38 01 08 03 00 02 00 00 00 00 01 25 00 05 01 00 00 00 3C 00")))
    -- prohibited: a MIP forwards it, malformed or not, and drops a unicast one; a MEP drops it
    ∷ case (make mp_plan 0 ∷ []) (to_group 0x3E cen (hex "C0 39 00 08 03 00 00 00 00 00 00 00")) Forwarded room
    ∷ case (make mp_plan 0 ∷ []) (at_mip cen) Dropped room
    ∷ case (make mp_plan 0 ∷ []) (to_group 0x3E cen (hex "C0 39 00 08 03 00 00 00 00 00 00 00 00")) Forwarded room
    ∷ case (make mp_plan 0 ∷ []) (to_group 0x3C cen (hex "80 39 00 08 03 00 00 00 00 00 00 00 00")) Dropped room
    -- under 12 octets, of another type, or to another level's group it is data
    ∷ case mps (to_group 0x3C cen (hex "80 39 00 08 03 00 00 00 00 00 00")) Forwarded room
    ∷ case mps (to_group 0x3C cen (hex "80 39 00 08 02 00 00 00 00 00 00 00 00")) Forwarded room
    ∷ case (mps ++ (activate60 ∷ [])) (to_group 0x3D cen (hex "C0 39 00")) (Looped 21) (written (to_tester (hex "C0 39 00")))
    -- prohibit makes code 9 notices due, in ascending source, each with the tag of its first Activate
    ∷ case (mps ++ (with_priority 0xAB ∷ with_priority 0xAA ∷ activate60 ∷ prohibit 1 ∷ [])) (notice room) (Noticed 1 1 31)
    (written (hex "02 00 00 00 00 AA 02 00 00 00 00 01 81 00 60 14 89 02 80 38 00 08 02 09 02 00 00 00 00 01 00"))
    ∷ case (mps ++ (with_priority 0xAB ∷ with_priority 0xAA ∷ prohibit 1 ∷ notice room ∷ [])) (notice room) (Noticed 1 1 31)
    (written (hex "02 00 00 00 00 AB 02 00 00 00 00 01 81 00 60 14 89 02 80 38 00 08 02 09 02 00 00 00 00 01 00"))
    ∷ case (mps ++ (activate60 ∷ prohibit 1 ∷ notice room ∷ [])) activate60 Dropped room
    -- a session opened anew has the tag of the Activate that opened it
    ∷ case (mps ++ (with_priority 0xAA ∷ asks (hex "80 39 00 08 02 00 02 00 00 00 00 01 00") ∷ activate60 ∷ prohibit 1 ∷ [])) (notice room)
    (Noticed 1 1 31)
    (written (to_tester (hex "80 38 00 08 02 09 02 00 00 00 00 01 00")))
    -- the port and the side are the session's
    ∷ case (mps ++ (at_mip external ∷ tick 60000 ∷ [])) (notice room) (Noticed 1 0 31)
    (written (to_tester (hex "C0 38 00 08 02 08 02 00 00 00 00 01 00")))
    ∷ case (mps ++ (at_enni ∷ tick 60000 ∷ [])) (notice room) (Noticed 2 0 31)
    (written (hex "02 00 00 00 00 AA 02 00 00 00 00 02 88 A8 00 14 89 02 60 38 00 08 02 08 02 00 00 00 00 02 00"))
    -- prohibit touches its own flow alone
    ∷ case (mps ++ (activate60 ∷ prohibit 2 ∷ [])) activate60 (Replied 39)
    (written (to_tester (hex "80 38 01 08 01 04 02 00 00 00 00 01 25 00 05 01 00 00 00 3C 00")))
    ∷ []

-- a call on a lent image: the host's number, and the image that it leaves
pub data Entry : Type 0 where
  entry : (lent : List ℕ) (now : Call) (number : ℕ) (left : List ℕ) → Entry

unfoldable pub entered : Entry → Bool
entered (entry lent now number left) = eqb (enter lent now).number number && same (enter lent now).image left

-- the image after calls
unfoldable pub image_of : List Call → List ℕ
image_of calls = image (run calls blank)

unfoldable pub entries : List Entry
entries =
    -- 8: not 4,096 octets; octets that are no state's image; one unused octet set
    entry (replicate 4095 0) (tick 0) (8 * 2 ^ 8) (replicate 4095 0)
    ∷ entry (replicate 4095 0) (make bench_plan 0) (8 * 2 ^ 8) (replicate 4095 0)
    ∷ entry (replicate 4096 0) (tick 0) (8 * 2 ^ 8) (replicate 4096 0)
    ∷ entry (set (image_of start) 4095 1) (restart 0) (8 * 2 ^ 8) (set (image_of start) 4095 1)
    -- making looks at the length alone, and a fault changes no octet
    ∷ entry (replicate 4096 7) (make bench_plan 0) 6 (image_of (make bench_plan 0 ∷ []))
    ∷ entry (image_of (start ++ (activate60 ∷ []))) (make bench_plan 0) 6 (image_of (make bench_plan 0 ∷ []))
    ∷ entry (replicate 4096 7) (make (text "mp\n") 0) (7 + 1 * 2 ^ 8 + 1 * 2 ^ 32) (replicate 4096 7)
    -- other refusals leave the image, other calls leave their state's
    ∷ entry (image_of start) (tick 4000000000) (5 * 2 ^ 8) (image_of start)
    ∷ entry (image_of start) activate60 (4 + 39 * 2 ^ 32) (image_of (start ++ (activate60 ∷ [])))
    ∷ entry (image_of (start ++ (activate60 ∷ []))) (tick 60000) 6 (image_of (start ++ (activate60 ∷ tick 60000 ∷ [])))
    ∷ []
