-- The machine (MACHINE) and Flows (FLOW): what an action of time or management does to an open session, and to a flow.
use Rattle.std.specs.Prelude.{ℕ, Bool, false, cond, ◌&&◌, ◌||◌, ◌==◌}
use Rattle.machine.specs.declared.Session.{Session}
use Rattle.machine.specs.Table.{nothing, lift, forbid, withdraw, expire}
use Rattle.machine.specs.Machine.{is_open, owed}

-- MACHINE-26, MACHINE-27: an open session stays; or it closes and is owed a notice, with code 8 if its time is over, with code 9 at a
-- prohibit. (A number that is no such action gives 255; no call comes to that.)
unfoldable pub closed_by : ℕ → Session → Session
closed_by action s =
    cond (action == nothing) s
    (cond (action == expire) (owed 8 s)
    (cond (action == withdraw) (owed 9 s)
    (owed 255 s)))

-- FLOW-2, FLOW-3, FLOW-4: the same of each open session of the named flow; all other sessions stay.
unfoldable pub managed_by : ℕ → ℕ → Session → Session
managed_by action flow s = cond (is_open s && s.flow == flow) (closed_by action s) s

-- FLOW-1, FLOW-2, FLOW-3: is the flow allowed after an action? As before if nothing is done; yes after a lift; no after any other.
unfoldable pub allowed_after : ℕ → Bool → Bool
allowed_after action allowed =
    cond (action == forbid || action == withdraw) false (cond (action == nothing) allowed (action == lift))
