-- States and images (IMAGE): the image of a state, octet by octet as docs/LAYOUT.md has it, and the state that octets are read as.
use Rattle.std.specs.Prelude.{List, [], ◌∷◌, ◌++◌, map, Bool, true, false, cond, ◌&&◌, ℕ, zero, suc, ◌+◌, ◌-◌, ◌*◌, length, get_or, take, drop, replicate, eqb}
use Rattle.octets.specs.Octets.{low_number, low_octets, same}
use Rattle.machine.specs.declared.Session.{Session}
use Rattle.machine.specs.Machine.{key_of}
use Rattle.plan.specs.declared.Port.{Port}
use Rattle.plan.specs.declared.Flow.{Flow}
use Rattle.state.specs.State.{State, valid}
use Rattle.state.specs.Layout.{image_length, clock_at, allowed_at, ports_at, flows_at, sessions_at, sessions_end}
use Rattle.state.specs.Layout.{most_ports, most_flows, most_sessions, port_width, flow_width, session_width}
use Rattle.state.specs.Layout.{port_kind_at, port_number_at, flow_number_at, flow_vid_at, flow_kind_at, flow_port_at, flow_mps_at}
use Rattle.state.specs.Layout.{session_flow_at, session_left_at, session_notice_at, session_level_at, session_side_at}
use Rattle.state.specs.Layout.{session_taglen_at, session_tag_at}

-- IMAGE-3: octets without a meaning are 0.
unfoldable pub zeros : ℕ → List ℕ
zeros n = replicate n 0

-- IMAGE-1, IMAGE-2: a port in 16 octets, a flow in 32, a session in 32, lowest octet first; the first eight octets are not all zero.
unfoldable pub port_row : Port → List ℕ
port_row p = low_octets 6 p.address ++ (p.kind ∷ p.number ∷ zeros 8)

unfoldable pub flow_row : Flow → List ℕ
flow_row f = (0 ∷ f.number ∷ 0 ∷ 0 ∷ low_octets 2 f.vid) ++ (f.kind ∷ f.port ∷ f.mps) ++ zeros 16

unfoldable pub session_row : Session → List ℕ
session_row x =
    low_octets 8 (key_of x)
    ++ low_octets 4 x.left
    ++ (x.notice ∷ x.level ∷ x.side ∷ x.taglen ∷ low_octets 8 x.tag)
    ++ zeros 8

module _ {A : Type 0} where
  -- IMAGE-4: rows have no gaps between them.
  unfoldable pub rows : (A → List ℕ) → List A → List ℕ
  rows row [] = []
  rows row (x ∷ xs) = row x ++ rows row xs

  -- IMAGE-3, IMAGE-4: rows in n octets; all octets after the last row are 0.
  unfoldable pub table : ℕ → (A → List ℕ) → List A → List ℕ
  table n row xs = rows row xs ++ zeros (n - length (rows row xs))

  -- IMAGE-4: the rows read from a table of at most n, each of so many octets, up to an empty one.
  unfoldable pub rows_in : ℕ → ℕ → (List ℕ → A) → List ℕ → List A
  rows_in zero width read l = []
  rows_in (suc n) width read l = cond (eqb (low_number 8 l) 0) [] (read l ∷ rows_in n width read (drop width l))

-- IMAGE-1: where a flow's row stands in the table, from 1, or 0 if no flow has the number.
unfoldable pub place_from : ℕ → ℕ → List Flow → ℕ
place_from n place [] = 0
place_from n place (f ∷ fs) = cond (eqb f.number n) place (place_from n (place + 1) fs)

-- IMAGE-1: the places of so many flow numbers, from n on.
unfoldable pub places : ℕ → ℕ → List Flow → List ℕ
places zero n fs = []
places (suc more) n fs = place_from n 1 fs ∷ places more (n + 1) fs

-- IMAGE-1: 1 for a flow that is allowed, 0 for any other.
unfoldable pub bit : Bool → ℕ
bit true = 1
bit false = 0

-- IMAGE-3: octets 4 to 7 have no meaning and are 0. (Room for a flag of the unit.)
unfoldable pub unit_flag : State → List ℕ
unit_flag s = zeros 4

-- IMAGE-3: octets 8 to 15 have no meaning and are 0. (Room for an address that all ports share.)
unfoldable pub shared_address : State → List ℕ
shared_address s = zeros 8

-- IMAGE-3: octets 16 to 31 have no meaning and are 0. (Room for how many sessions are open at each port.)
unfoldable pub ports_open : State → List ℕ
ports_open s = zeros 16

-- IMAGE-3: octets 96 to 127 have no meaning and are 0.
unfoldable pub behind_places : State → List ℕ
behind_places s = zeros 32

-- IMAGE-3: octets 1280 to 1471 have no meaning and are 0. (Room for how many frames went which way at each port.)
unfoldable pub port_counters : State → List ℕ
port_counters s = zeros 192

-- IMAGE-3: octets 1472 to 1535 have no meaning and are 0. (Room for how many sessions are open on each flow.)
unfoldable pub flows_open : State → List ℕ
flows_open s = zeros 64

-- IMAGE-3: octets 2048 to 4095 have no meaning and are 0.
unfoldable pub behind_sessions : State → List ℕ
behind_sessions s = zeros (image_length - sessions_end)

-- IMAGE-1: the first 1,536 octets, all but the sessions and what is after them.
unfoldable pub head : State → List ℕ
head s =
    low_octets 4 s.clock
    ++ unit_flag s
    ++ shared_address s
    ++ ports_open s
    ++ map bit s.allowed
    ++ places most_flows 1 s.plan.flows
    ++ behind_places s
    ++ table (most_ports * port_width) port_row s.plan.ports
    ++ table (most_flows * flow_width) flow_row s.plan.flows
    ++ port_counters s
    ++ flows_open s

-- IMAGE-1, IMAGE-5, IMAGE-6: the one image of a state, 4,096 octets that hold nothing but the state.
unfoldable pub image : State → List ℕ
image s = head s ++ table (most_sessions * session_width) session_row s.sessions ++ behind_sessions s

-- IMAGE-1, IMAGE-2: the port, the flow and the session that a row is read as.
unfoldable pub port_in : List ℕ → Port
port_in l = record { number = get_or l port_number_at 0; kind = get_or l port_kind_at 0; address = low_number 6 l }

unfoldable pub flow_in : List ℕ → Flow
flow_in l =
    record {
      number = get_or l flow_number_at 0;
      port = get_or l flow_port_at 0;
      kind = get_or l flow_kind_at 0;
      vid = low_number 2 (drop flow_vid_at l);
      mps = take 8 (drop flow_mps_at l);
    }

unfoldable pub session_in : List ℕ → Session
session_in l =
    record {
      flow = low_number 2 (drop session_flow_at l);
      source = low_number 6 l;
      level = get_or l session_level_at 0;
      side = get_or l session_side_at 0;
      taglen = get_or l session_taglen_at 0;
      tag = low_number 8 (drop session_tag_at l);
      left = low_number 4 (drop session_left_at l);
      notice = get_or l session_notice_at 0;
    }

-- IMAGE-5: the state that octets read as, whatever they are.
unfoldable pub state_of : List ℕ → State
state_of l =
    record {
      plan =
          record {
            ports = rows_in most_ports port_width port_in (drop ports_at l);
            flows = rows_in most_flows flow_width flow_in (drop flows_at l);
          };
      clock = low_number 4 (drop clock_at l);
      allowed = map (eqb 1) (take most_flows (drop allowed_at l));
      sessions = rows_in most_sessions session_width session_in (drop sessions_at l);
    }

-- IMAGE-5, REFUSAL-8: octets are a valid image exactly if they read as a valid state and are its image, octet for octet.
unfoldable pub ok_image : List ℕ → Bool
ok_image l = valid (state_of l) && same (image (state_of l)) l
