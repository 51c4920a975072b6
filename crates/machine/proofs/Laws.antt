-- Laws of the machine's tests, for the proofs of its functions.
use Rattle.std.proofs.Common.{◌≡◌, ℕ, ◌+◌, ◌-◌, ◌<◌, ◌≤◌, true, false, eqb, leb, refl, arith, le-leb}
use borrow.Author.Tests.{lt-leb}
use Rattle.octets.specs.Lists.{within}
use Rattle.octets.proofs.ListLaws.{within_high}
use Rattle.octets.proofs.Cases.{by_eq, by_le}
use Rattle.machine.specs.declared.Session.{Session}
use Rattle.machine.specs.Table.{Condition, prohibited, inactive, active, condition_number, condition_at}
use Rattle.machine.specs.Table.{Event, rqst_activate, rqst_deactivate, rqst_state, ingress_data, egress_data, mgmt_allow}
use Rattle.machine.specs.Table.{mgmt_prohibit, timer_expiration, event_number, event_at, action_of, action_at}
use Rattle.machine.specs.Machine.{good_seconds, seconds_left, is_open, owed, lasting}
use Rattle.machine.specs.Management.{closed_by}
use Rattle.machine.specs.Time.{ticked}

pub seconds_good : (n : ℕ) → 1 ≤ n → n ≤ 86400 → good_seconds n ≡ true
unfolding good_seconds within
seconds_good n low high = rw (le-leb _ _ low, le-leb _ _ high)

pub seconds_none : (n : ℕ) → n < 1 → good_seconds n ≡ false
unfolding good_seconds within
seconds_none n h = rw (lt-leb _ _ h)

pub seconds_few : (n : ℕ) → good_seconds n ≡ true → n ≤ 86400
unfolding good_seconds
seconds_few n good = within_high 1 86400 n good

-- ---- the table's numbers

condition_back : (c : Condition) → condition_at (condition_number c) ≡ c
unfolding condition_at condition_number
condition_back prohibited = refl
condition_back inactive = refl
condition_back active = refl

event_back : (e : Event) → event_at (event_number e) ≡ e
unfolding event_at event_number
event_back rqst_activate = refl
event_back rqst_deactivate = refl
event_back rqst_state = refl
event_back ingress_data = refl
event_back egress_data = refl
event_back mgmt_allow = refl
event_back mgmt_prohibit = refl
event_back timer_expiration = refl

-- the entry at the row of a state and the column of an event is that of the state and the event
pub action_at_lem : (c : Condition) (e : Event) → action_at (condition_number c) (event_number e) ≡ action_of c e
unfolding action_at
action_at_lem c e = rw (condition_back c, event_back e)

-- ---- time

-- an open session never reports 0
pub seconds_some : (ms : ℕ) → 1 ≤ ms → 1 ≤ seconds_left ms
unfolding seconds_left
seconds_some ms h = omega arith

-- ticks add up, for one session
pub ticked_twice : (e f : ℕ) (s : Session) → ticked f (ticked e s) ≡ ticked (e + f) s
unfolding ticked is_open closed_by action_of owed lasting
ticked_twice e f s = by_eq s.notice 0 (λ q same. running q) (λ q other. rw (q, q))
  where
    less : s.left - e - f ≡ s.left - (e + f)
    less = omega arith

    counting : eqb s.notice 0 ≡ true → leb s.left e ≡ false → e < s.left → ticked f (ticked e s) ≡ ticked (e + f) s
    counting q l h = by_le (s.left - e) f
        (λ m k. simp (q, l, m, le-leb s.left (e + f) (omega arith)))
        (λ m k. simp (q, l, m, lt-leb s.left (e + f) (omega arith), less))

    running : eqb s.notice 0 ≡ true → ticked f (ticked e s) ≡ ticked (e + f) s
    running q = by_le s.left e
        (λ l h. rw (q, l, le-leb s.left (e + f) (omega arith)))
        (λ l h. counting q l h)
