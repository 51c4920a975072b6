-- Bench cases (BENCH): those that are proved, as one table.
use Rattle.std.specs.Prelude.{List, [], ◌∷◌, ◌++◌, Bool, ◌&&◌, ℕ, replicate, eqb}
use Rattle.octets.specs.Octets.{over, same}
use Rattle.octets.specs.Text.{text, hex}
use Rattle.codec.specs.FrameSet.{cen}
use Rattle.plan.specs.PlanText.{empty_plan}
use Rattle.state.specs.State.{State, made}
use Rattle.calls.specs.declared.Answer.{Answer}
use Rattle.calls.specs.declared.Answer.TheVariants.{Refused, Forwarded, Replied, Noticed}
use Rattle.calls.specs.Answer.{number_of}
use Rattle.calls.specs.Calls.{Call, make, frame, tick, allow, notice, restart, call}

-- the calls before, a call, what it must answer, and what the output that it lends must then hold
pub data Case : Type 0 where
  case : (before : List Call) (now : Call) (answer : Answer) (out : List ℕ) → Case

-- the state after calls
unfoldable pub run : List Call → State → State
run [] s = s
run (c ∷ cs) s = run cs (call s c).state

-- a host that has made no state yet
unfoldable pub blank : State
blank = made empty_plan 0

-- Is the answer right, and each octet of the lent output?
unfoldable pub right : Case → Bool
right (case before now answer out) =
    let r = call (run before blank) now in
    eqb (number_of r.answer) (number_of answer) && same r.out out

-- BENCH-13: port 1 is a UNI, its address 02-00-00-00-00-01; flows 1 and 2 are `c` with VID 20 and 30; flow 1 has an up MEP at level 4.
unfoldable pub bench_plan : List ℕ
bench_plan = text "port\t1\tuni\t020000000001\nflow\t1\t1\tc\t20\nflow\t2\t1\tc\t30\nmp\t1\tup\t4\n"

-- BENCH-13: the unit is made at clock 0 and flow 1 allowed; each case starts from there.
unfoldable pub start : List Call
start = make bench_plan 0 ∷ allow 1 ∷ []

-- an output with something in it, and the same with octets written at its front
unfoldable pub room : List ℕ
room = replicate 2008 0xEE

unfoldable pub written : List ℕ → List ℕ
written octets = over octets room

-- BENCH-13: a frame from 02-00-00-00-00-AA, the tester, to the port, and one back; tag `81 00 00 14`, type `89 02`.
unfoldable pub to_port : List ℕ → List ℕ
to_port pdu = hex "02 00 00 00 00 01 02 00 00 00 00 AA 81 00 00 14 89 02" ++ pdu

unfoldable pub to_tester : List ℕ → List ℕ
to_tester pdu = hex "02 00 00 00 00 AA 02 00 00 00 00 01 81 00 00 14 89 02" ++ pdu

-- BENCH-13: requests come from the CEN side.
unfoldable pub asks : List ℕ → Call
asks pdu = frame 1 cen (to_port pdu) room

-- BENCH-1: an Activate of 60 seconds.
unfoldable pub activate60 : Call
activate60 = asks (hex "80 39 00 08 01 00 02 00 00 00 00 01 25 00 05 01 00 00 00 3C 00")

-- BENCH-8: a State request.
unfoldable pub state_request : Call
state_request = asks (hex "80 39 00 08 03 00 02 00 00 00 00 01 00")

-- BENCH-12: data of the same tester in VLAN 30.
unfoldable pub other_vlan : Call
other_vlan = frame 1 cen (hex "02 00 00 00 00 01 02 00 00 00 00 AA 81 00 00 1E 08 00 45 00") room

-- BENCH-17: one table of cases, each under its number. BENCH-10 has two rows: 16 of 60,000 ms gone leave 59,984, so 59,983 ms later there
-- is 1 second left, and one more ms closes the session.
unfoldable pub bench_table : List Case
bench_table =
    -- BENCH-1: an Activate of 60 seconds gets code 0.
    case start activate60 (Replied 39)
    (written (to_tester (hex "80 38 01 08 01 00 02 00 00 00 00 01 25 00 05 01 00 00 00 3C 00")))
    -- BENCH-2: version 1, two more octets and an unknown TLV: flags 05, the TLV after the timer.
    ∷ case start (asks (hex "81 39 00 0A 01 00 02 00 00 00 00 01 00 00 09 00 01 FF 25 00 05 01 00 00 00 3C 00")) (Replied 43)
    (written (to_tester (hex "80 38 05 08 01 00 02 00 00 00 00 01 25 00 05 01 00 00 00 3C 09 00 01 FF 00")))
    -- BENCH-3: the same Activate once more gets code 4.
    ∷ case (start ++ (activate60 ∷ [])) activate60 (Replied 39)
    (written (to_tester (hex "80 38 01 08 01 04 02 00 00 00 00 01 25 00 05 01 00 00 00 3C 00")))
    -- BENCH-4: without its last octet, the End, it gets code 1.
    ∷ case start (asks (hex "80 39 00 08 01 00 02 00 00 00 00 01 25 00 05 01 00 00 00 3C")) (Replied 31)
    (written (to_tester (hex "80 38 00 08 01 01 02 00 00 00 00 01 00")))
    -- BENCH-5: 0 seconds get code 6.
    ∷ case start (asks (hex "80 39 00 08 01 00 02 00 00 00 00 01 25 00 05 01 00 00 00 00 00")) (Replied 39)
    (written (to_tester (hex "80 38 00 08 01 06 02 00 00 00 00 01 25 00 05 01 00 00 00 00 00")))
    -- BENCH-6: 86,400 seconds get code 0.
    ∷ case start (asks (hex "80 39 00 08 01 00 02 00 00 00 00 01 25 00 05 01 00 01 51 80 00")) (Replied 39)
    (written (to_tester (hex "80 38 01 08 01 00 02 00 00 00 00 01 25 00 05 01 00 01 51 80 00")))
    -- BENCH-7: 86,401 seconds get code 6.
    ∷ case start (asks (hex "80 39 00 08 01 00 02 00 00 00 00 01 25 00 05 01 00 01 51 81 00")) (Replied 39)
    (written (to_tester (hex "80 38 00 08 01 06 02 00 00 00 00 01 25 00 05 01 00 00 00 00 00")))
    -- BENCH-8: after a tick at 59,999 a State request finds one second left.
    ∷ case (start ++ (activate60 ∷ tick 59999 ∷ [])) state_request (Replied 39)
    (written (to_tester (hex "80 38 01 08 03 00 02 00 00 00 00 01 25 00 05 01 00 00 00 01 00")))
    -- BENCH-9: a tick at 60,000 closes the session, which is owed a notice with code 8.
    ∷ case (start ++ (activate60 ∷ tick 60000 ∷ [])) (notice room) (Noticed 1 1 31)
    (written (to_tester (hex "80 38 00 08 02 08 02 00 00 00 00 01 00")))
    -- BENCH-10: from reading 4,294,967,290 to reading 10 elapse 16 ms.
    ∷ case (start ++ (restart 4294967290 ∷ activate60 ∷ tick 10 ∷ tick 59993 ∷ [])) state_request (Replied 39)
    (written (to_tester (hex "80 38 01 08 03 00 02 00 00 00 00 01 25 00 05 01 00 00 00 01 00")))
    ∷ case (start ++ (restart 4294967290 ∷ activate60 ∷ tick 10 ∷ tick 59994 ∷ [])) (notice room) (Noticed 1 1 31)
    (written (to_tester (hex "80 38 00 08 02 08 02 00 00 00 00 01 00")))
    -- BENCH-11: a tick 2,147,483,648 ms after the last reading gets refusal 5.
    ∷ case start (tick 2147483648) (Refused 5) []
    -- BENCH-12: data of the tester in VLAN 30 is forwarded.
    ∷ case (start ++ (activate60 ∷ [])) other_vlan Forwarded room
    ∷ []
