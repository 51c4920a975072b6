-- Which sessions a valid state may have, each alone in a unit whose flow 2 is prohibited.
use mathlib.Core.Path.{◌≡◌, refl}
use mathlib.Core.Bool.{true, false}
use mathlib.Core.List.{List, [], ◌∷◌}
use Rattle.octets.specs.Lists.{every, some}
use Rattle.codec.specs.FrameSet.{external, cen}
use Rattle.machine.specs.declared.Session.{Session}
use Rattle.state.specs.State.{valid}
use Rattle.state.proofs.Examples.{session, unit, judged}

good_sessions : List Session
unfolding session
good_sessions =
    session 1 0x0200000000aa 4 cen 4 0x81000014 60000 0
    -- any priority bits; from one millisecond to a day
    ∷ session 1 0x0200000000aa 4 cen 4 0x8100f014 1 0
    ∷ session 1 0x0200000000aa 4 cen 4 0x81000014 86400000 0
    -- only the group bit of a source counts
    ∷ session 1 0 4 cen 4 0x81000014 60000 0
    ∷ session 1 0x020000000001 4 cen 4 0x81000014 60000 0
    -- a MIP faces both sides; `u` has no tag; an `s` tag
    ∷ session 3 0x0200000000aa 2 external 0 0 60000 0
    ∷ session 3 0x0200000000aa 2 cen 0 0 60000 0
    ∷ session 4 0x0200000000aa 4 cen 4 0x88a80014 60000 0
    -- owed code 8 on an allowed flow, code 9 on a prohibited one
    ∷ session 1 0x0200000000aa 4 cen 4 0x81000014 0 8
    ∷ session 2 0x0200000000aa 4 external 4 0x8100001e 0 9
    ∷ []

sessions_of_a_valid_state : every (λ x. valid (unit (x ∷ []))) good_sessions ≡ true
unfolding judged unit good_sessions
sessions_of_a_valid_state = refl

bad_sessions : List Session
unfolding session
bad_sessions =
    -- a group source, and one of more than 48 bits
    session 1 0x0300000000aa 4 cen 4 0x81000014 60000 0
    ∷ session 1 0x10200000000aa 4 cen 4 0x81000014 60000 0
    -- tags of another VID, of the wrong type, of the wrong length
    ∷ session 1 0x0200000000aa 4 cen 4 0x8100001e 60000 0
    ∷ session 1 0x0200000000aa 4 cen 4 0x88a80014 60000 0
    ∷ session 4 0x0200000000aa 4 cen 4 0x81000014 60000 0
    ∷ session 1 0x0200000000aa 4 cen 0 0x81000014 60000 0
    ∷ session 1 0x0200000000aa 4 cen 0 0 60000 0
    ∷ session 3 0x0200000000aa 2 cen 4 0x81000014 60000 0
    ∷ session 3 0x0200000000aa 2 cen 0 1 60000 0
    -- no MP at the level, or not facing the side; no such side
    ∷ session 1 0x0200000000aa 5 cen 4 0x81000014 60000 0
    ∷ session 1 0x0200000000aa 8 cen 4 0x81000014 60000 0
    ∷ session 1 0x0200000000aa 4 external 4 0x81000014 60000 0
    ∷ session 3 0x0200000000aa 2 2 0 0 60000 0
    -- a flow that is not in the plan, and one that is prohibited
    ∷ session 5 0x0200000000aa 4 cen 4 0x81000014 60000 0
    ∷ session 2 0x0200000000aa 4 external 4 0x8100001e 60000 0
    -- no time, and more than a day
    ∷ session 1 0x0200000000aa 4 cen 4 0x81000014 0 0
    ∷ session 1 0x0200000000aa 4 cen 4 0x81000014 86400001 0
    -- owed code 8 on a prohibited flow, code 9 on an allowed one, a code with time left, another code
    ∷ session 2 0x0200000000aa 4 external 4 0x8100001e 0 8
    ∷ session 1 0x0200000000aa 4 cen 4 0x81000014 0 9
    ∷ session 1 0x0200000000aa 4 cen 4 0x81000014 1 8
    ∷ session 1 0x0200000000aa 4 cen 4 0x81000014 0 7
    ∷ []

sessions_of_no_valid_state : some (λ x. valid (unit (x ∷ []))) bad_sessions ≡ false
unfolding judged unit bad_sessions
sessions_of_no_valid_state = refl
