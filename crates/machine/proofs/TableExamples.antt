-- The table of MEF 46 7.1.5: its rows and columns, and what its management columns make of a flow, by computation.
use Rattle.std.proofs.Common.{◌≡◌, Bool, true, false, List, [], ◌∷◌, map, refl}
use Rattle.machine.specs.Table.{Condition, prohibited, inactive, active, condition_number}
use Rattle.machine.specs.Table.{rqst_activate, rqst_deactivate, rqst_state, ingress_data, egress_data}
use Rattle.machine.specs.Table.{mgmt_allow, mgmt_prohibit, timer_expiration, event_number, action_of}
use Rattle.machine.specs.Management.{allowed_after}

rows_are_numbered_in_that_order : map condition_number (prohibited ∷ inactive ∷ active ∷ []) ≡ 0 ∷ 1 ∷ 2 ∷ []
unfolding condition_number
rows_are_numbered_in_that_order = refl

columns_are_numbered_in_that_order :
    map event_number
    (rqst_activate ∷ rqst_deactivate ∷ rqst_state ∷ ingress_data ∷ egress_data ∷ mgmt_allow ∷ mgmt_prohibit ∷ timer_expiration ∷ []) ≡
    0 ∷ 1 ∷ 2 ∷ 3 ∷ 4 ∷ 5 ∷ 6 ∷ 7 ∷ []
unfolding event_number
columns_are_numbered_in_that_order = refl

-- the state, is the flow allowed in it, is it so after allow, and after prohibit
abbrev allowances : List (Condition × Bool × Bool × Bool)
allowances = (prohibited, false, true, false) ∷ (inactive, true, true, false) ∷ (active, true, true, false) ∷ []

allow_lifts_and_prohibit_prohibits :
    map
    (λ row. (
      row.0,
      row.1,
      allowed_after (action_of row.0 mgmt_allow) row.1,
      allowed_after (action_of row.0 mgmt_prohibit) row.1,
    ))
    allowances ≡
    allowances
unfolding allowed_after action_of
allow_lifts_and_prohibit_prohibits = refl
