-- Time (TIME): elapsed time, and a session as time passes.
use Rattle.std.specs.Prelude.{ℕ, ◌+◌, ◌-◌, ◌%◌, ◌^◌, Bool, cond, nat_le}
use Rattle.machine.specs.declared.Session.{Session}
use Rattle.machine.specs.Table.{active, timer_expiration, action_of}
use Rattle.machine.specs.Machine.{is_open, lasting}
use Rattle.machine.specs.Management.{closed_by}

-- TIME-2: elapsed time is the new reading minus the last accepted one, modulo 2^32.
unfoldable pub elapsed : ℕ → ℕ → ℕ
elapsed new last = (new + 2 ^ 32 - last) % 2 ^ 32

-- REFUSAL-5, TIME-3: would the elapsed time be 2,147,483,648 ms or more?
unfoldable pub jumped : ℕ → ℕ → Bool
jumped new last = nat_le (2 ^ 31) (elapsed new last)

-- TIME-4, TIME-5: the elapsed time is taken off an open session; one with as much left or less closes and is owed a notice, code 8.
unfoldable pub ticked : ℕ → Session → Session
ticked passed s =
    cond (is_open s)
    (cond (nat_le s.left passed) (closed_by (action_of active timer_expiration) s) (lasting (s.left - passed) s))
    s
