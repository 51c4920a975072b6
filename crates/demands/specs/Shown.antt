-- The machine (MACHINE): the world that a state shows, with a machine at each port, frame set and source.
use Rattle.std.specs.Prelude.{Bool, cond, List, [], ◌∷◌, ℕ, eqb}
use Rattle.octets.specs.Octets.{octets}
use Rattle.codec.specs.declared.FrameSet.{FrameSet}
use Rattle.machine.specs.declared.Session.{Session}
use Rattle.machine.specs.Machine.{is_open, key, key_of}
use Rattle.plan.specs.Plan.{flow_of_set, in_plan}
use Rattle.state.specs.State.{State, is_allowed}
use Rattle.demands.specs.Machine.{Machine, Owed, nothing, notice, prohibited, inactive, active}
use Rattle.demands.specs.World.{World}

-- MACHINE-2: a machine that is not active is prohibited if its flow is, and else inactive.
unfoldable pub resting : Bool → Owed → Machine
resting allowed owed = cond allowed (inactive owed) (prohibited owed)

-- the tag octets of a session
unfoldable pub tag_in : Session → List ℕ
tag_in x = octets x.taglen x.tag

-- MACHINE-2: the machine of a session: active while the session is open.
unfoldable pub machine_by : Bool → Session → Machine
machine_by allowed x =
    cond (is_open x) (active x.level x.side x.left (tag_in x))
    (resting allowed (notice x.notice x.level x.side (tag_in x)))

-- the machine of a key
unfoldable pub machine_in : Bool → ℕ → List Session → Machine
machine_in allowed k [] = resting allowed nothing
machine_in allowed k (x ∷ xs) = cond (eqb (key_of x) k) (machine_by allowed x) (machine_in allowed k xs)

-- the machine of a flow and a source
unfoldable pub machine_on : State → ℕ → ℕ → Machine
machine_on s flow source = machine_in (is_allowed flow s) (key flow source) s.sessions

-- the machine of a port, a set and a source: a set that has no flow is never allowed
unfoldable pub machine_at : State → ℕ → FrameSet → ℕ → Machine
machine_at s port set source =
    let n = (flow_of_set port set s.plan).number in
    cond (in_plan n) (machine_on s n source) (prohibited nothing)

-- MACHINE-1: the world of a state has a machine for each port, frame set and source.
unfoldable pub world_of : State → World
world_of s = record { plan = s.plan; clock = s.clock; machine = machine_at s }
