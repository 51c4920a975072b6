-- A unit for computed examples: BENCH-13's set-up with a second up MP, at level 5; its tester, and what the tester sends.
use mathlib.Core.Bool.{true, false}
use mathlib.Core.List.{List, [], ◌∷◌}
use Prim.Native.Nat.{ℕ}
use lib.ListN.{replicate}
use Rattle.octets.specs.Text.{hex}
use Rattle.codec.specs.declared.FrameSet.{FrameSet}
use Rattle.codec.specs.FrameSet.{uni, c_tagged, cen, set_of}
use Rattle.machine.specs.declared.Session.{Session}
use Rattle.plan.specs.Plan.{Plan, up}
use Rattle.state.specs.State.{State}
use Rattle.calls.specs.Calls.{Call}
use Rattle.calls.specs.Bench.{asks}
use Rattle.demands.specs.World.{World}
use Rattle.demands.specs.Shown.{world_of}

-- Port 1 is a UNI, 02-00-00-00-00-01; flow 1 is `c` 20 with up MPs at levels 4 and 5, flow 2 is `c` 30.
abbrev pub plan : Plan
plan =
    record {
      ports = record { number = 1; kind = uni; address = 0x020000000001 } ∷ [];
      flows =
          record { number = 1; port = 1; kind = c_tagged; vid = 20; mps = 0 ∷ 0 ∷ 0 ∷ 0 ∷ up ∷ up ∷ 0 ∷ 0 ∷ [] }
          ∷ record { number = 2; port = 1; kind = c_tagged; vid = 30; mps = replicate 8 0 }
          ∷ [];
    }

abbrev pub tester : ℕ
tester = 0x0200000000AA

abbrev pub vlan : FrameSet
vlan = set_of c_tagged 20

-- a session of level 4: its source, its time left, and the code of the notice that it is owed
abbrev pub session : ℕ → ℕ → ℕ → Session
session source left notice =
    record { flow = 1; source = source; level = 4; side = cen; taglen = 4; tag = 0x81000014; left = left; notice = notice }

-- Flow 1 is allowed.
abbrev pub unit_at : ℕ → List Session → State
unit_at clock sessions = record { plan = plan; clock = clock; allowed = true ∷ replicate 31 false; sessions = sessions }

-- with no session; with the tester's open for 60 seconds
abbrev pub idle : State
idle = unit_at 0 []

abbrev pub unit : State
unit = unit_at 0 (session tester 60000 0 ∷ [])

abbrev pub world : World
world = world_of unit

-- with another's beside it; with the tester's owed a notice
abbrev pub busy : State
busy = unit_at 0 (session tester 60000 0 ∷ session 0x0200000000BB 1000 0 ∷ [])

abbrev pub closed : State
closed = unit_at 60000 (session tester 0 8 ∷ [])

-- from the tester at level 5: an Activate, and a Deactivate; at level 4: an Activate of 0 seconds, and a Deactivate
abbrev pub slip : Call
slip = asks (hex "A0 39 00 08 01 00 02 00 00 00 00 01 25 00 05 01 00 00 00 3C 00")

abbrev pub slip_off : Call
slip_off = asks (hex "A0 39 00 08 02 00 02 00 00 00 00 01 00")

abbrev pub no_seconds : Call
no_seconds = asks (hex "80 39 00 08 01 00 02 00 00 00 00 01 25 00 05 01 00 00 00 00 00")

abbrev pub close : Call
close = asks (hex "80 39 00 08 02 00 02 00 00 00 00 01 00")
