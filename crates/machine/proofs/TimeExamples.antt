-- "Time", and what a reply says of it, by computation.
use Rattle.std.proofs.Common.{◌≡◌, ℕ, Bool, true, false, List, [], ◌∷◌, map, refl, Some, None}
use Rattle.codec.specs.FrameSet.{cen}
use Rattle.machine.specs.declared.Session.{Session}
use Rattle.machine.specs.declared.Machine.TheVariants.{Inactive, Active}
use Rattle.machine.specs.Table.{Event, active, mgmt_allow, mgmt_prohibit, action_of}
use Rattle.machine.specs.Machine.{is_open, lasting, owed, seconds_left, status_of}
use Rattle.machine.specs.Management.{closed_by, managed_by}
use Rattle.machine.specs.Time.{elapsed, jumped, ticked}

-- the last reading, the new one, the time elapsed, and did the clock jump
abbrev readings : List (ℕ × ℕ × ℕ × Bool)
readings =
    -- B10, over the wrap
    (4294967290, 10, 16, false)
    ∷ (10, 10, 0, false)
    -- B11, and one millisecond less
    ∷ (0, 2147483648, 2147483648, true)
    ∷ (0, 2147483647, 2147483647, false)
    ∷ (4294967295, 2147483647, 2147483648, true)
    -- set back by one
    ∷ (10, 9, 4294967295, true)
    ∷ []

elapsed_is_the_wrapped_difference :
    map (λ row. (row.0, row.1, elapsed row.1 row.0, jumped row.1 row.0)) readings ≡ readings
unfolding elapsed jumped
elapsed_is_the_wrapped_difference = refl

-- a session of flow 2, with so many milliseconds left, open or owed a notice
abbrev session : ℕ → ℕ → Session
session left notice =
    record {
      flow = 2;
      source = 0x0200000000AA;
      level = 5;
      side = cen;
      taglen = 4;
      tag = 0x81000014;
      left = left;
      notice = notice;
    }

-- the session before the tick, the milliseconds elapsed, and the session after it
abbrev ticks : List (Session × ℕ × Session)
ticks =
    (session 60000 0, 59999, session 1 0)
    -- no more time left than elapsed
    ∷ (session 60000 0, 60000, session 0 8)
    ∷ (session 60000 0, 60001, session 0 8)
    ∷ (session 1 0, 1, session 0 8)
    -- no time elapsed
    ∷ (session 1 0, 0, session 1 0)
    -- closed already
    ∷ (session 0 8, 1, session 0 8)
    ∷ (session 0 9, 1, session 0 9)
    ∷ []

session_closes_when_its_time_is_over : map (λ row. (row.0, row.1, ticked row.1 row.0)) ticks ≡ ticks
unfolding ticked is_open lasting closed_by owed action_of
session_closes_when_its_time_is_over = refl

-- what management does, the flow, the session before that, and after it
abbrev managements : List (Event × ℕ × Session × Session)
managements =
    (mgmt_prohibit, 2, session 60000 0, session 0 9)
    ∷ (mgmt_prohibit, 1, session 60000 0, session 60000 0)
    ∷ (mgmt_prohibit, 2, session 0 8, session 0 8)
    ∷ (mgmt_allow, 2, session 60000 0, session 60000 0)
    ∷ (mgmt_allow, 2, session 0 8, session 0 8)
    ∷ []

prohibit_closes_the_sessions_of_its_flow :
    map (λ row. (row.0, row.1, row.2, managed_by (action_of active row.0) row.1 row.2)) managements ≡ managements
unfolding managed_by is_open closed_by owed action_of
prohibit_closes_the_sessions_of_its_flow = refl

-- milliseconds left, and seconds
abbrev seconds : List (ℕ × ℕ)
seconds =
    (0, 0) ∷ (1, 1) ∷ (999, 1) ∷ (1000, 1) ∷ (1001, 2) ∷ (59999, 60) ∷ (60000, 60) ∷ (86400000, 86400) ∷ []

seconds_left_are_rounded_up : map (λ row. (row.0, seconds_left row.0)) seconds ≡ seconds
unfolding seconds_left
seconds_left_are_rounded_up = refl

status_of_a_machine :
    map status_of (Inactive ∷ Active (session 1001 0) ∷ []) ≡
    record { side = None; seconds = 0 } ∷ record { side = Some cen; seconds = 2 } ∷ []
unfolding status_of seconds_left
status_of_a_machine = refl
