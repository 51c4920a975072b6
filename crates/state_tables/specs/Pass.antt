-- The test of validity in one pass over the rows, as the code makes it: of any rows, and of the ports and flows. What a reader must
-- believe stands in the rooms `plan` and `state`; the laws in proofs/ say that this test and the rules there agree.
use Rattle.std.specs.Prelude.{List, [], ◌∷◌, Bool, true, cond, ◌&&◌, ◌||◌, not, ℕ, zero, suc, ◌+◌, ◌-◌, ◌*◌, ◌/◌, ◌%◌, ◌^◌, get_or, take, drop, eqb, ltb, leb}
use Rattle.std.specs.Int.Bits.{bit_and, bit_or}
use Rattle.octets.specs.Octets.{low_number, all_zero}
use Rattle.octets.specs.Lists.{within, count}
use Rattle.plan.specs.Plan.{port_numbered, good_port}
use Rattle.state.specs.Layout.{places_at, most_ports, most_flows, port_width, flow_width}
use Rattle.state.specs.Layout.{port_number_at, flow_vid_at, flow_port_at, flow_mps_at}
use Rattle.state.specs.Image.{port_in, state_of}

-- Do at most n rows of so many octets pass, each told what is known of those before it, is what is known at the end right, and is
-- all that follows zero?
module _ {S : Type 0} (fits : S → List ℕ → Bool) (next : S → List ℕ → S) (right : S → Bool) (width : ℕ) where
  unfoldable pub ok_rows : ℕ → S → List ℕ → Bool
  ok_rows zero s l = right s && all_zero l
  ok_rows (suc n) s l = cond (eqb (low_number 8 l) 0) (right s && all_zero l) (fits s l && ok_rows n (next s l) (drop width l))

-- ports: of those before is known the last number
unfoldable pub port_fits : ℕ → List ℕ → Bool
port_fits last l = ltb last (get_or l port_number_at 0) && good_port (port_in l) && all_zero (take 8 (drop 8 l))

unfoldable pub ok_ports : List ℕ → Bool
ok_ports t = ok_rows port_fits (λ last l. get_or l port_number_at 0) (leb 1) port_width most_ports 0 t

-- flows: the last port and set as one number; how many rows; what is odd in them, all octets together; and their marks
pub record Seen : Type 0 where
  pub last : ℕ
  pub place : ℕ
  pub odd : ℕ
  pub marks : ℕ

unfoldable pub none_seen : Seen
none_seen = record { last = 0; place = 0; odd = 0; marks = 0 }

-- the bits that no row has: those above 3 of an MP's octet, and the free octets after them
unfoldable pub odd_of : List ℕ → ℕ
odd_of l =
    bit_or (bit_or (bit_and (low_number 8 (drop flow_mps_at l)) 0xFCFCFCFCFCFCFCFC) (low_number 8 (drop 16 l))) (low_number 8 (drop 24 l))

-- an octet of 4 for each level that has an MP, if none of them is odd
unfoldable pub marks_of : ℕ → ℕ
marks_of mps = bit_and (bit_and mps 0x0303030303030303 + 0x0303030303030303) 0x0404040404040404

unfoldable pub octet_sum : ℕ → ℕ → ℕ
octet_sum zero x = 0
octet_sum (suc n) x = x % 256 + octet_sum n (x / 256)

-- kind and VID as one number, at a port of this kind: `u` at any, `c` (2) at a UNI (1), `s` (3) at an ENNI (2)
unfoldable pub set_fits : ℕ → ℕ → Bool
set_fits portKind set =
    not (eqb portKind 0) && (eqb set 65536 || within ((portKind + 1) * 65536 + 1) ((portKind + 1) * 65536 + 4094) set)

-- the number, alone in its four octets, leads to this place
unfoldable pub place_fits : List ℕ → ℕ → ℕ → Bool
place_fits b place low = eqb (low % 256) 0 && within 1 most_flows (low / 256) && eqb (get_or b (places_at - 1 + low / 256) 0) place

unfoldable pub flow_fits : List ℕ → Seen → List ℕ → Bool
flow_fits b s l =
    ltb s.last (low_number 4 (drop flow_vid_at l))
    && set_fits (port_numbered (get_or l flow_port_at 0) (state_of b).plan).kind (low_number 4 (drop flow_vid_at l) % 2 ^ 24)
    && place_fits b (s.place + 1) (low_number 4 l)

unfoldable pub flow_seen : Seen → List ℕ → Seen
flow_seen s l =
    record {
      last = low_number 4 (drop flow_vid_at l);
      place = s.place + 1;
      odd = bit_or s.odd (odd_of l);
      marks = s.marks + marks_of (low_number 8 (drop flow_mps_at l));
    }

-- Nothing is odd, there are at most 32 MPs, and as many places are used as there are rows.
unfoldable pub flows_right : List ℕ → Seen → Bool
flows_right b s =
    eqb s.odd 0 && leb (octet_sum 8 s.marks) 128 && eqb s.place (count (leb 1) (take most_flows (drop places_at b)))

unfoldable pub ok_flows : List ℕ → List ℕ → Bool
ok_flows b t = ok_rows (flow_fits b) flow_seen (flows_right b) flow_width most_flows none_seen t

-- allowed flows: each octet is 0, or 1 beside a place
unfoldable pub ok_allowed : List ℕ → List ℕ → Bool
ok_allowed [] places = true
ok_allowed (a ∷ more) [] = true
ok_allowed (a ∷ more) (p ∷ places) = (eqb a 0 || (eqb a 1 && leb 1 p)) && ok_allowed more places
