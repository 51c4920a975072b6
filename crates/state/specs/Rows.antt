-- Where rows stand in an image: how the code finds them. What a reader must believe stands in State and Image; the laws in proofs/
-- say that what is found is what those definitions mean.
use Rattle.std.specs.Prelude.{List, Option, None, Some, Bool, cond, not, ℕ, zero, suc, ◌+◌, ◌-◌, ◌*◌, get_or, drop, eqb}
use Rattle.octets.specs.Octets.{low_number}
use Rattle.octets.specs.Lists.{within}
use Rattle.codec.specs.declared.FrameSet.{FrameSet}
use Rattle.machine.specs.declared.Machine.{Machine}
use Rattle.machine.specs.declared.Machine.TheVariants.{Inactive, Active}
use Rattle.machine.specs.Machine.{is_open}
use Rattle.plan.specs.declared.Flow.{Flow}
use Rattle.plan.specs.Plan.{no_flow, set_key}
use Rattle.state.specs.Image.{flow_in, session_in}
use Rattle.state.specs.Layout.{places_at, ports_at, flows_at, sessions_at}
use Rattle.state.specs.Layout.{most_ports, most_flows, most_sessions, port_width, flow_width, session_width}
use Rattle.state.specs.Layout.{port_number_at, flow_vid_at, session_notice_at}

-- Below, where a row stands is a number, and 0 is no row. The code answers this: no row, or a row and where it stands.
abbrev pub row_found : ℕ → Option ℕ
row_found at = cond (eqb at 0) None (Some at)

-- where the first row stands that passes a test, of n rows of so many octets, the first of which stands at `at`; 0 if none does
unfoldable pub find_row : ℕ → ℕ → (List ℕ → Bool) → ℕ → List ℕ → ℕ
find_row zero width test at l = 0
find_row (suc n) width test at l =
    cond (eqb (low_number 8 l) 0) 0 (cond (test l) at (find_row n width test (at + width) (drop width l)))

-- the row of a port, of a port's frame set, of a session, of the first session that is owed a notice
unfoldable pub port_at : ℕ → List ℕ → ℕ
port_at number b = find_row most_ports port_width (λ l. eqb (get_or l port_number_at 0) number) ports_at (drop ports_at b)

unfoldable pub flow_at : ℕ → FrameSet → List ℕ → ℕ
flow_at port set b =
    find_row most_flows flow_width (λ l. eqb (low_number 4 (drop flow_vid_at l)) (set_key port set.kind set.vid)) flows_at
    (drop flows_at b)

unfoldable pub session_at : ℕ → List ℕ → ℕ
session_at key b = find_row most_sessions session_width (λ l. eqb (low_number 8 l) key) sessions_at (drop sessions_at b)

unfoldable pub owed_at : List ℕ → ℕ
owed_at b = find_row most_sessions session_width (λ l. not (eqb (get_or l session_notice_at 0) 0)) sessions_at (drop sessions_at b)

-- the row of a flow by its number, through the places
unfoldable pub row_at_place : ℕ → ℕ
row_at_place place = cond (within 1 most_flows place) (flows_at - flow_width + place * flow_width) 0

unfoldable pub numbered_at : ℕ → List ℕ → ℕ
numbered_at flow b = cond (within 1 most_flows flow) (row_at_place (get_or b (places_at - 1 + flow) 0)) 0

-- the flow of a row, if there is one
unfoldable pub flow_of_row : Option ℕ → List ℕ → Flow
flow_of_row None b = no_flow
flow_of_row (Some at) b = flow_in (drop at b)

-- the machine of a session's row, if there is one
unfoldable pub machine_of_row : Option ℕ → List ℕ → Machine
machine_of_row None b = Inactive
machine_of_row (Some at) b = let x = session_in (drop at b) in cond (is_open x) (Active x) Inactive
