-- What is asked of a state: what it starts with, the machine of a key, room for one more, the next notice.
use mathlib.Core.Path.{◌≡◌, refl}
use mathlib.Core.Bool.{false}
use mathlib.Core.List.{[], ◌∷◌, ◌++◌, map}
use Rattle.octets.specs.Lists.{some, count, first}
use Rattle.codec.specs.FrameSet.{external, cen}
use Rattle.machine.specs.declared.Machine.TheVariants.{Inactive, Active}
use Rattle.machine.specs.Machine.{key, key_of, is_open}
use Rattle.plan.specs.Plan.{no_flow}
use Rattle.state.specs.State.{made, is_allowed, machine_of, full_for, notice_due, first_owed}
use Rattle.state.proofs.Examples.{session, state, unit, many, yard}

-- a state that was just made at 7: its clock, and that flow 1 and flow 32 start prohibited
clock_of_a_state_just_made : (made yard 7).clock ≡ 7
unfolding made
clock_of_a_state_just_made = refl

flows_start_prohibited : is_allowed 1 (made yard 7) ∷ is_allowed 32 (made yard 7) ∷ [] ≡ false ∷ false ∷ []
unfolding made is_allowed
flows_start_prohibited = refl

the_machine_of_an_open_session : machine_of (key 1 7) (many 3 6) ≡ Active (session 1 7 4 cen 4 0x81000014 60000 0)
unfolding machine_of many session key key_of is_open
the_machine_of_an_open_session = refl

-- another source, another flow, and a session that is closed and owed a notice
machines_without_a_session :
    map (λ k. machine_of k (many 3 6 ++ (session 1 9 4 cen 4 0x81000014 0 8 ∷ []))) (key 1 5 ∷ key 2 7 ∷ key 1 9 ∷ [])
    ≡ Inactive ∷ Inactive ∷ Inactive ∷ []
unfolding machine_of many session key key_of is_open
machines_without_a_session = refl

-- 15 open and one owed a notice leave room; 16 open do not
room_for_a_sixteenth : full_for no_flow (unit (many 15 1 ++ (session 1 16 4 cen 4 0x81000014 0 8 ∷ []))) ≡ 0
unfolding full_for count is_open unit state many session
room_for_a_sixteenth = refl

no_room_for_a_seventeenth : full_for no_flow (unit (many 16 1)) ≡ 2
unfolding full_for count is_open unit state many session
no_room_for_a_seventeenth = refl

-- by flow and then source, open ones passed over
the_first_notice_owed :
    first_owed
    (unit
    (session 1 1 4 cen 4 0x81000014 60000 0
    ∷ session 1 0x0200000000aa 4 cen 4 0x81000014 0 8
    ∷ session 2 2 4 external 4 0x8100001e 0 9
    ∷ []))
    ≡ session 1 0x0200000000aa 4 cen 4 0x81000014 0 8
unfolding first_owed first is_open unit state session
the_first_notice_owed = refl

no_notice_owed : notice_due (unit (many 16 1)) ≡ false
unfolding notice_due some is_open unit state many session
no_notice_owed = refl
