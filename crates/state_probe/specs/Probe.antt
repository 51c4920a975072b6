-- What the host's measurements and tests ask of an image: is it valid, and what stands in it for a port, a set, a level and a
-- source?
use Rattle.std.specs.Prelude.{List, cond, ℕ, ◌+◌, ◌*◌, ◌^◌, ltb}
use Rattle.codec.specs.FrameSet.{set_of}
use Rattle.machine.specs.declared.Machine.{Machine}
use Rattle.machine.specs.declared.Machine.TheVariants.{Inactive, Active}
use Rattle.machine.specs.Machine.{key}
use Rattle.plan.specs.declared.Flow.{Flow}
use Rattle.plan.specs.Plan.{flow_of_set, mp_at}
use Rattle.state.specs.State.{State, machine_of}
use Rattle.state.specs.Image.{state_of, ok_image}

-- bit 24 and bits 32 to 63: is the session open, and its ms left
unfoldable pub session_part : Machine → ℕ
session_part Inactive = 0
session_part (Active x) = 2 ^ 24 + x.left * 2 ^ 32

-- A source of more than 48 bits is no session's.
unfoldable pub machine_at : State → ℕ → ℕ → Machine
machine_at s flow source = cond (ltb source (2 ^ 48)) (machine_of (key flow source) s.sessions) Inactive

-- bit 0; bits 8 to 15 the flow's number, 16 to 23 its MP at the level
unfoldable pub found : State → Flow → ℕ → ℕ → ℕ
found s f level source =
    1 + f.number * 2 ^ 8 + mp_at level f * 2 ^ 16 + session_part (machine_at s f.number source)

-- the same of an image; 0 if it is not valid
unfoldable pub looked : List ℕ → ℕ → ℕ → ℕ → ℕ → ℕ → ℕ
looked l port kind vid level source =
    cond (ok_image l) (found (state_of l) (flow_of_set port (set_of kind vid) (state_of l).plan) level source) 0
