-- The test of the sessions in one pass over their rows, as the code makes it; `state_tables` has that of the ports and flows. What a
-- reader must believe stands in the crate `state`; the laws in proofs/ say that these tests together and `ok_image` agree.
use Rattle.std.specs.Prelude.{List, Bool, true, ◌&&◌, not, ℕ, ◌+◌, ◌-◌, get_or, take, drop, eqb, ltb}
use Rattle.octets.specs.Octets.{low_number, all_zero}
use Rattle.codec.specs.FrameSet.{group, set_of, tag_fits}
use Rattle.machine.specs.declared.Session.{Session}
use Rattle.plan.specs.Plan.{mp_at, faces}
use Rattle.state.specs.State.{good_time}
use Rattle.state.specs.Layout.{allowed_at, most_sessions, session_width}
use Rattle.state.specs.Image.{session_in}
use Rattle.state.specs.Rows.{row_found, numbered_at, flow_of_row}
use Rattle.state_tables.specs.Pass.{ok_rows}

-- Is a session as it must be, by the row of its flow?
unfoldable pub good_in : List ℕ → Session → Bool
good_in b x =
    let f = flow_of_row (row_found (numbered_at x.flow b)) b in
    not (eqb (numbered_at x.flow b) 0)
    && not (group x.source)
    && tag_fits (set_of f.kind f.vid) x.taglen x.tag
    && faces (mp_at x.level f) x.side
    && good_time (eqb (get_or b (allowed_at - 1 + x.flow) 0) 1) x

-- of those before is known the last key
unfoldable pub session_fits : List ℕ → ℕ → List ℕ → Bool
session_fits b last l = ltb last (low_number 8 l) && good_in b (session_in l) && all_zero (take 8 (drop 24 l))

unfoldable pub ok_sessions : List ℕ → List ℕ → Bool
ok_sessions b t = ok_rows (session_fits b) (λ last l. low_number 8 l) (λ last. true) session_width most_sessions 0 t
