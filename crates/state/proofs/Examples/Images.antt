-- The image by example: where octets stand, and images that are refused.
use mathlib.Core.Path.{◌≡◌, refl}
use mathlib.Core.Bool.{Bool, true, false}
use mathlib.Core.List.{List, [], ◌∷◌, ◌++◌, map}
use Prim.Native.Nat.{ℕ}
use lib.ListN.{length, set, take, drop}
use lib.Dec.{leb}
use Rattle.octets.specs.Octets.{low_number, low_octets, same}
use Rattle.octets.specs.Lists.{every, some, count}
use Rattle.octets.specs.Text.{hex}
use Rattle.codec.specs.FrameSet.{external, cen}
use Rattle.state.specs.State.{State}
use Rattle.state.specs.Image.{zeros, port_row, flow_row, session_row, rows, table, rows_in, place_from, places, bit, head, image}
use Rattle.state.specs.Image.{port_in, flow_in, session_in, state_of, ok_image}
use Rattle.state.specs.Image.{unit_flag, shared_address, ports_open, behind_places, port_counters, flows_open, behind_sessions}
use Rattle.state.proofs.Examples.{session, state, bench_state, yard, judged}

-- two sessions, one open and one owed a notice
yard_state : State
unfolding state yard session
yard_state =
    state yard 0x01020304 (1 ∷ 3 ∷ 4 ∷ [])
    (session 1 0x0200000000aa 4 cen 4 0x8100b014 60000 0 ∷ session 3 0x0200000000bb 2 external 0 0 0 8 ∷ [])

-- To unfold it is to unfold all that writing and reading an image compute.
yard_image : List ℕ
unfolding image head bit places place_from table rows session_row flow_row port_row zeros low_octets ok_image state_of session_in flow_in port_in
    rows_in low_number same judged yard_state unit_flag shared_address ports_open behind_places port_counters flows_open behind_sessions
yard_image = image yard_state

an_image_has_4096_octets : length (image bench_state) ≡ 4096
unfolding yard_image bench_state
an_image_has_4096_octets = refl

an_image_is_read_back : state_of (image bench_state) ≡ bench_state
unfolding yard_image bench_state
an_image_is_read_back = refl

a_valid_image_is_taken : ok_image (image bench_state) ≡ true
unfolding yard_image bench_state
a_valid_image_is_taken = refl

-- Do these octets stand at this place?
stands_in : List ℕ → ℕ × List ℕ → Bool
unfolding same
stands_in l (at, row) = same (take (length row) (drop at l)) row

-- the example of docs/LAYOUT.md
bench_octets : List (ℕ × List ℕ)
bench_octets =
    (0, hex "00 00 00 00")
    ∷ (32, hex "01 00")
    ∷ (64, hex "01 02 00")
    ∷ (128, hex "01 00 00 00 00 02 01 01")
    ∷ (256, hex "00 01 00 00 14 00 02 01 00 00 00 00 01 00 00 00")
    ∷ (288, hex "00 02 00 00 1E 00 02 01 00 00 00 00 00 00 00 00")
    ∷ (1536, hex "AA 00 00 00 00 02 01 00 60 EA 00 00 00 04 01 04 14 00 00 81 00 00 00 00 00 00 00 00 00 00 00 00")
    ∷ []

the_bench_image : every (stands_in (image bench_state)) bench_octets ≡ true
unfolding yard_image bench_state stands_in bench_octets every hex
the_bench_image = refl

the_other_octets_are_zero : count (leb 1) (image bench_state) ≡ 26
unfolding yard_image bench_state count
the_other_octets_are_zero = refl

-- rows in ascending key, whatever the flows' numbers
yard_octets : List (ℕ × List ℕ)
yard_octets =
    (0, hex "04 03 02 01 00")
    -- flows 1, 3 and 4 are allowed; rows 2, 3, 1 and 4 are those of flows 1 to 4
    ∷ (31, hex "00 01 00 01 01 00")
    ∷ (63, hex "00 02 03 01 04 00")
    ∷ (144, hex "02 00 00 00 00 02 02 02 00 00 00 00 00 00 00 00 00")
    ∷ (255, hex "00 00 03 00 00 00 00 01 01 00 00 03 00 00 00 00 00")
    ∷ (288, hex "00 01 00 00 14 00 02 01 00 00 00 00 01 00 00 00 00")
    ∷ (352, hex "00 04 00 00 14 00 03 02 00 00 00 00 03 00 00 00 00")
    ∷ (1568, hex "BB 00 00 00 00 02 03 00 00 00 00 00 08 02 00 00 00 00 00 00 00 00 00 00 00 00 00 00 00 00 00 00 00")
    ∷ []

the_yard_image : every (stands_in yard_image) yard_octets ≡ true
unfolding yard_image stands_in yard_octets every hex
the_yard_image = refl

-- one octet set to another value
damages : List (ℕ × ℕ)
damages =
    -- behind the clock, behind the places, before the sessions
    (4, 1) ∷ (31, 1) ∷ (96, 1) ∷ (127, 1) ∷ (1280, 1) ∷ (1535, 1)
    -- in the spare octets of a port's row, of a flow's and of a session's
    ∷ (136, 1) ∷ (143, 1) ∷ (256, 1) ∷ (258, 1) ∷ (259, 1) ∷ (272, 1) ∷ (287, 1) ∷ (1543, 1) ∷ (1560, 1) ∷ (1567, 1)
    -- behind the last port, flow and session, and behind the sixteenth row
    ∷ (168, 1) ∷ (255, 1) ∷ (392, 1) ∷ (1279, 1) ∷ (1608, 1) ∷ (2047, 1) ∷ (2048, 1) ∷ (4095, 1)
    -- an allowed flow is 1; the place of flow 1, and of flow 5, which is not in the plan
    ∷ (33, 2) ∷ (64, 1) ∷ (68, 1)
    ∷ []

damaged_images_are_refused : some (λ (at, x). ok_image (set yard_image at x)) damages ≡ false
unfolding yard_image damages some
damaged_images_are_refused = refl

an_octet_short_and_an_octet_long :
    map ok_image (yard_image ∷ take 4095 yard_image ∷ (yard_image ++ (0 ∷ [])) ∷ []) ≡ true ∷ false ∷ false ∷ []
unfolding yard_image
an_octet_short_and_an_octet_long = refl
