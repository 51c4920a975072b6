-- The machine (MACHINE): one machine, that of one port, frame set and source address, and nothing else.
use Rattle.std.specs.Prelude.{List, Bool, true, false, cond, ◌&&◌, ℕ, ◌+◌, ◌-◌, ◌*◌, ◌/◌, eqb, leb, Some, None}
use Rattle.octets.specs.Lists.{within}
use Rattle.codec.specs.declared.Status.{Status}
use Rattle.machine.specs.declared.Fate.{Fate}
use Rattle.machine.specs.declared.Fate.TheVariants.{Forward, Drop, Loop}

-- NOTICE-1, NOTICE-5: what a machine owes whose session was closed, until it is taken: a notice with this code, and with the level, the
-- side and the tag octets of the session.
pub data Owed : Type 0 where
  nothing : Owed
  notice : (code level side : ℕ) (tag : List ℕ) → Owed

-- MACHINE-2: a machine is prohibited, inactive or active; an active one has a level, a side, the milliseconds left, and the tag octets of
-- the Activate that opened its session.
pub data Machine : Type 0 where
  prohibited inactive : (owed : Owed) → Machine
  active : (level side left : ℕ) (tag : List ℕ) → Machine

-- MACHINE-2: is it prohibited? Is it active?
unfoldable pub is_prohibited : Machine → Bool
is_prohibited (prohibited owed) = true
is_prohibited (inactive owed) = false
is_prohibited (active level side left tag) = false

unfoldable pub is_active : Machine → Bool
is_active (prohibited owed) = false
is_active (inactive owed) = false
is_active (active level side left tag) = true

-- NOTICE-1: what the machine owes; an active one owes nothing.
unfoldable pub owed_by : Machine → Owed
owed_by (prohibited owed) = owed
owed_by (inactive owed) = owed
owed_by (active level side left tag) = nothing

-- is it a notice?
unfoldable pub is_notice : Owed → Bool
is_notice nothing = false
is_notice (notice code level side tag) = true

-- NOTICE-1, NOTICE-2: does the machine owe a notice, which is then due?
unfoldable pub owes : Machine → Bool
owes m = is_notice (owed_by m)

-- ---- requests; a prohibited machine is not asked

-- the code of the reply, and the machine after it
pub record Step : Type 0 where
  pub code : ℕ
  pub next : Machine

-- a code, and this machine after it
unfoldable pub gets : ℕ → Machine → Step
gets code m = record { code = code; next = m }

-- MACHINE-3, MACHINE-4, MACHINE-5, MACHINE-13: inactive: 6 with seconds not 1 to 86,400, else the code `full` if it is not 0, else 0 and
-- a session opens. Active, same MP: 6 with bad seconds, else 4 and the time starts again; other MP: 7.
unfoldable pub activate : (full seconds level side : ℕ) (tag : List ℕ) → Machine → Step
activate full seconds level side tag (prohibited owed) = gets 0 (prohibited owed)
activate full seconds level side tag (inactive owed) =
    cond (within 1 86400 seconds)
    (cond (eqb full 0) (gets 0 (active level side (seconds * 1000) tag)) (gets full (inactive owed)))
    (gets 6 (inactive owed))
activate full seconds level side tag (active own-level own-side left own-tag) =
    cond (eqb level own-level && eqb side own-side)
    (cond (within 1 86400 seconds)
    (gets 4 (active own-level own-side (seconds * 1000) own-tag))
    (gets 6 (active own-level own-side left own-tag)))
    (gets 7 (active own-level own-side left own-tag))

-- MACHINE-6, MACHINE-7, MACHINE-8, MACHINE-12: inactive: 5; active: 0 and the session closes, or 7 if the level or the side is another.
unfoldable pub deactivate : (level side : ℕ) → Machine → Step
deactivate level side (prohibited owed) = gets 0 (prohibited owed)
deactivate level side (inactive owed) = gets 5 (inactive owed)
deactivate level side (active own-level own-side left tag) =
    cond (eqb level own-level && eqb side own-side) (gets 0 (inactive nothing)) (gets 7 (active own-level own-side left tag))

-- REPLY-7, REPLY-12: what a reply says of a machine that is not active: no side, and 0 seconds.
unfoldable pub idle : Status
idle = record { side = None; seconds = 0 }

-- REPLY-7, REPLY-8, REPLY-12: what a reply says of a machine: its side if it is active, and the seconds left, a started one counted whole.
unfoldable pub status_of : Machine → Status
status_of (prohibited owed) = idle
status_of (inactive owed) = idle
status_of (active level side left tag) = record { side = Some side; seconds = (left + 999) / 1000 }

-- ---- data

-- MACHINE-28, MACHINE-29, MACHINE-30, MACHINE-31: a machine that is not active forwards; an active one forwards SOAM up to and including
-- its level, loops other data from its side, and drops other data from the opposite side.
unfoldable pub fate : (soam : Bool) (level side : ℕ) → Machine → Fate
fate soam level side (prohibited owed) = Forward
fate soam level side (inactive owed) = Forward
fate soam level side (active own-level own-side left tag) =
    cond (soam && leb level own-level) Forward (cond (eqb side own-side) Loop Drop)

-- ---- time and management

-- TIME-4, TIME-5: the elapsed time is taken off; a session that has as much left or less closes and is owed a notice with code 8.
unfoldable pub ticked : (elapsed : ℕ) → Machine → Machine
ticked elapsed (prohibited owed) = prohibited owed
ticked elapsed (inactive owed) = inactive owed
ticked elapsed (active level side left tag) =
    cond (leb left elapsed) (inactive (notice 8 level side tag)) (active level side (left - elapsed) tag)

-- FLOW-1, FLOW-3: a prohibited machine becomes inactive; any other stays as it is.
unfoldable pub allowed : Machine → Machine
allowed (prohibited owed) = inactive owed
allowed (inactive owed) = inactive owed
allowed (active level side left tag) = active level side left tag

-- FLOW-2, FLOW-3: the machine becomes prohibited; an open session closes and is owed a notice with code 9.
unfoldable pub forbidden : Machine → Machine
forbidden (prohibited owed) = prohibited owed
forbidden (inactive owed) = prohibited owed
forbidden (active level side left tag) = prohibited (notice 9 level side tag)

-- TIME-8: a session closes without a notice, a notice is dropped, and a prohibition stays.
unfoldable pub restarted : Machine → Machine
restarted (prohibited owed) = prohibited nothing
restarted (inactive owed) = inactive nothing
restarted (active level side left tag) = inactive nothing

-- NOTICE-3: a notice that was taken is owed no more.
unfoldable pub taken : Machine → Machine
taken (prohibited owed) = prohibited nothing
taken (inactive owed) = inactive nothing
taken (active level side left tag) = active level side left tag
