-- The machine (MACHINE): eight events in three states, and the action of each of the twenty-four entries.
use Rattle.std.specs.Prelude.{ℕ, cond, ◌==◌}

-- MACHINE-2: a machine is prohibited, inactive or active.
pub data Condition : Type 0 where
  prohibited inactive active : Condition

-- MACHINE-23, MACHINE-24: the eight events, by MEF 46's names: ingress data is from the External side, egress data from the CEN side.
pub data Event : Type 0 where
  rqst_activate rqst_deactivate rqst_state ingress_data egress_data mgmt_allow mgmt_prohibit timer_expiration : Event

-- FORM-2: the numbers of states and events, row and column of the table.
unfoldable pub condition_number : Condition → ℕ
condition_number prohibited = 0
condition_number inactive = 1
condition_number active = 2

unfoldable pub event_number : Event → ℕ
event_number rqst_activate = 0
event_number rqst_deactivate = 1
event_number rqst_state = 2
event_number ingress_data = 3
event_number egress_data = 4
event_number mgmt_allow = 5
event_number mgmt_prohibit = 6
event_number timer_expiration = 7

-- FORM-2: the states and events of these numbers.
unfoldable pub condition_at : ℕ → Condition
condition_at n = cond (n == 0) prohibited (cond (n == 1) inactive active)

unfoldable pub event_at : ℕ → Event
event_at n =
    cond (n == 0) rqst_activate
    (cond (n == 1) rqst_deactivate
    (cond (n == 2) rqst_state
    (cond (n == 3) ingress_data
    (cond (n == 4) egress_data
    (cond (n == 5) mgmt_allow (cond (n == 6) mgmt_prohibit timer_expiration))))))

-- MACHINE-25, MACHINE-26, MACHINE-27: the numbers of the actions. This one: no action, or an event that cannot occur, or a request at a
-- prohibited machine (MACHINE-20, MACHINE-21, MACHINE-22), which `request_served` (calls Frame) has dealt with.
abbrev pub nothing : ℕ
nothing = 0

-- MACHINE-23, MACHINE-24: forward the frame.
abbrev pub forward : ℕ
forward = 1

-- MACHINE-23, MACHINE-24: do with the frame what MACHINE-29, MACHINE-30 and MACHINE-31 say.
abbrev pub turn : ℕ
turn = 2

-- MACHINE-20: open a session, if the request is accepted.
abbrev pub admit : ℕ
admit = 3

-- MACHINE-22: report the state.
abbrev pub report : ℕ
report = 4

-- MACHINE-21: say that it is inactive already.
abbrev pub already : ℕ
already = 5

-- MACHINE-20: start the time again, if the request is from the session's MP.
abbrev pub restart : ℕ
restart = 6

-- MACHINE-21: close the session, if the request is from its MP.
abbrev pub close : ℕ
close = 7

-- MACHINE-25: take back the prohibition.
abbrev pub lift : ℕ
lift = 8

-- MACHINE-26: prohibit.
abbrev pub forbid : ℕ
forbid = 9

-- MACHINE-26: prohibit, and close the session with a notice owed, code 9.
abbrev pub withdraw : ℕ
withdraw = 10

-- MACHINE-27: close the session with a notice owed, code 8.
abbrev pub expire : ℕ
expire = 11

-- FORM-2: the twenty-four entries of MACHINE-20, MACHINE-21, MACHINE-22, MACHINE-23, MACHINE-24, MACHINE-25, MACHINE-26, MACHINE-27.
unfoldable pub action_of : Condition → Event → ℕ
action_of prohibited rqst_activate = nothing
action_of prohibited rqst_deactivate = nothing
action_of prohibited rqst_state = nothing
action_of prohibited ingress_data = forward
action_of prohibited egress_data = forward
action_of prohibited mgmt_allow = lift
action_of prohibited mgmt_prohibit = nothing
action_of prohibited timer_expiration = nothing
action_of inactive rqst_activate = admit
action_of inactive rqst_deactivate = already
action_of inactive rqst_state = report
action_of inactive ingress_data = forward
action_of inactive egress_data = forward
action_of inactive mgmt_allow = nothing
action_of inactive mgmt_prohibit = forbid
action_of inactive timer_expiration = nothing
action_of active rqst_activate = restart
action_of active rqst_deactivate = close
action_of active rqst_state = report
action_of active ingress_data = turn
action_of active egress_data = turn
action_of active mgmt_allow = nothing
action_of active mgmt_prohibit = withdraw
action_of active timer_expiration = expire

-- FORM-2: the entry at a row and a column.
unfoldable pub action_at : ℕ → ℕ → ℕ
action_at condition event = action_of (condition_at condition) (event_at event)
