-- The definitions that examples compute with, and what the calls of the examples make of their unit.
use mathlib.Core.Path.{◌≡◌, refl, sym, subst}
use mathlib.Core.Bool.{true}
use mathlib.Core.List.{List, ◌∷◌}
use Prim.Native.Nat.{ℕ, ◌*◌, ◌≤◌, ◌^◌}
use Rattle.octets.specs.Lists.{within, every, some, count, first, ascends, distinct, put, without}
use Rattle.octets.specs.Octets.{number, octets}
use Rattle.octets.specs.Text.{hex}
use Rattle.codec.specs.FrameSet.{destination, source, group, type_behind, vid_of, set_of, tagged, by_tag, sets_of, soam, pdu_of, tag_fits}
use Rattle.codec.specs.Request.{octet, level_of, version_of, opcode_of, offset_of, type_of, port_mac_of, tlvs_of, is_request, addressed, class2}
use Rattle.codec.specs.Request.{wrong_mac, wrong_offset, untimed, malformed, by_type, request_of, copies_of}
use Rattle.codec_tlvs.specs.Tlv.{ended, cut, followed, walk, parse, subtype, is_timer, bad_tlv}
use Rattle.codec_tlvs.specs.Tlv.{timers, bad_list, is_unknown, unknowns, tlv_list, tlv_octets}
use Rattle.machine.specs.Machine.{activity, condition_of, is_open, key, key_of, lasting, owed, good_seconds, answered, admitted}
use Rattle.machine.specs.Machine.{same_mp, refreshed, restarted, closed as closes, decided, after}
use Rattle.machine.specs.Table.{condition_number, event_number, condition_at, event_at, action_of, action_at}
use Rattle.machine.specs.Time.{elapsed, jumped, ticked}
use Rattle.plan.specs.Plan.{no_port, no_flow, port_numbered, flow_numbered, set_key, flow_key, flow_of_set, in_plan, mp_at, faces}
use Rattle.plan.specs.Plan.{mps_of, mp_count, good_address, good_vid, good_kind, good_port, good_flow, so_far, keeps_rules}
use Rattle.state.specs.State.{State, with_clock, with_sessions, is_allowed, machine_of, full_for, notice_due, no_session, first_owed, valid}
use Rattle.state.specs.State.{only_flows, good_time, good_session}
use Rattle.state.specs.Image.{state_of, ok_image}
use Rattle.state.proofs.ImageLaws.{ok_valid}
use Rattle.calls.specs.Answer.{leaves, sends, packed, number_of}
use Rattle.calls.specs.Frame.{arrived_at, pdu, mp_of, for_mp, own_key, own, own_action, goes_on, new_session, changed, replied, decides}
use Rattle.calls.specs.Frame.{machine_served, answers, request_served, by_whom, in_flow, in_sets, frame_served}
use Rattle.calls.specs.Calls.{Call, no_such_place, bad_length, short_output, no_such_flow, refusal, served, ticked_to, lent}
use Rattle.calls.specs.Calls.{handed, call as called}
use Rattle.calls.proofs.CallValid.{call_valid}
use Rattle.codec_replies.specs.Reply.{active_flags, flags_by, flags, header, timer_tlv, carries_timer, timer_part, reply_pdu, reply_of}
use Rattle.codec_replies.specs.Reply.{reply_frame, tag_of}
use Rattle.calls.specs.Bench.{written, to_tester, room, to_port, asks, activate60, state_request}
use Rattle.demands.specs.Machine.{gets, activate, deactivate, is_prohibited, is_active, owed_by, status_of}
use Rattle.demands.specs.World.{World, same_set, notice_due as noticeDueIn}
use Rattle.demands.specs.Frame.{own as ownIn, arrived, is_for}
use Rattle.demands.specs.Calls.{call, no_such_place as noPlaceIn, refusal as refusalIn}
use Rattle.demands.specs.Shown.{resting, tag_in, machine_by, machine_in, machine_on, machine_at, world_of}
use Rattle.demands.specs.Data.{sets_at, is_of, is_own, in_set}
use Rattle.demands.specs.Elapsed.{elapsed_by, elapsed_over, carried_out, changes, asks_change, asks as asksIn, spares, is_left_alone}
use Rattle.demands.specs.Runs.{Seen, EntriesRun, entered, Typed}
use Rattle.demands.proofs.Shows.{Shows}
use Rattle.demands.proofs.CallShown.{sent, call_alike}
use Rattle.demands.proofs.Entered.{typed_fair, sent_keeps, left_ok, left_is}
use Rattle.demands.proofs.EntryShown.{state_shows}
use Rattle.demands.proofs.ImageShown.{world_in}
use Rattle.demands.proofs.Limit.{due_same}
use Rattle.demands.proofs.TypedCalls.{is_typed}
use Rattle.demands.proofs.ExampleUnit.{idle, unit, busy, closed, slip}

-- everything that is computed
unfoldable pub computed : Unit {0}
unfolding within every some count first put without number octets hex destination source group type_behind vid_of set_of tagged by_tag
    sets_of soam pdu_of octet level_of version_of opcode_of offset_of type_of port_mac_of tlvs_of is_request addressed class2 wrong_mac
    wrong_offset untimed malformed by_type request_of copies_of ended cut followed walk parse subtype is_timer bad_tlv timers bad_list
    activity condition_of is_open key key_of lasting owed good_seconds answered admitted same_mp refreshed restarted closes decided
    after condition_number event_number condition_at event_at action_of action_at elapsed jumped ticked no_port no_flow port_numbered
    set_key flow_key flow_of_set in_plan mp_at faces with_clock with_sessions is_allowed machine_of full_for notice_due leaves sends arrived_at
    pdu mp_of for_mp own_key own own_action goes_on new_session changed replied decides machine_served answers request_served by_whom
    in_flow in_sets frame_served no_such_place bad_length short_output refusal served ticked_to room to_port asks activate60 state_request
    sent no_such_flow lent no_session first_owed is_unknown unknowns tlv_list tlv_octets gets activate deactivate is_prohibited is_active
    owed_by same_set ownIn arrived is_for noPlaceIn refusalIn resting tag_in machine_by machine_in machine_on machine_at world_of sets_at
    is_of is_own in_set elapsed_by elapsed_over carried_out changes asks_change asksIn spares is_left_alone is_typed ascends distinct tag_fits
    flow_numbered mps_of mp_count good_address good_vid good_kind good_port good_flow so_far keeps_rules only_flows good_time good_session
    valid reply_frame reply_pdu tag_of header flags flags_by active_flags timer_tlv carries_timer timer_part reply_of written to_tester
    number_of packed status_of
computed = tt

-- ---- the states of the examples

pub idle_valid : valid idle ≡ true
unfolding computed
idle_valid = refl

pub unit_valid : valid unit ≡ true
unfolding computed
unit_valid = refl

pub busy_valid : valid busy ≡ true
unfolding computed
busy_valid = refl

pub closed_valid : valid closed ≡ true
unfolding computed
closed_valid = refl

pub slip_keeps : (sent unit slip).state ≡ unit
unfolding computed
slip_keeps = refl

pub activate_opens : (sent idle activate60).state ≡ unit
unfolding computed
activate_opens = refl

-- ---- what a call leaves of a valid state, and of its image

pub step_shows : (keys : ℕ) → 33 * 2 ^ 48 ≤ keys → (s t : State) → valid s ≡ true → (c : Call) → Typed c → (sent s c).state ≡ t
    → Shows t (call keys (world_of s) c).world
step_shows keys big s t ok c typed e =
    subst (λ (u : State). Shows u (call keys (world_of s) c).world) e
    (call_alike keys big s (world_of s) ok (state_shows s) c (typed_fair c typed)).shown

pub step_left : (l : List ℕ) {left : List ℕ} {c : Call} {cs : List Call} {x : Seen} {xs : List Seen} {ls : List (List ℕ)}
    → EntriesRun l (c ∷ cs) (x ∷ xs) (left ∷ ls)
    → ok_image l ≡ true
    → Typed c
    → state_of left ≡ (sent (state_of l) c).state
unfolding sent called refusal handed
step_left l {left = left} (entered {c = c} {x = x} o more) ok typed =
    let v : valid (sent (state_of l) c).state ≡ true = call_valid (state_of l) c (typed_fair c typed) (ok_valid l ok) in
    let is : left ≡ _ = left_is l ok c o in
    rw is (left_ok l ok (sent (state_of l) c) (sent_keeps l ok c) v).1

-- ---- the world of a valid state, and of its image

pub due_is : (keys : ℕ) → 33 * 2 ^ 48 ≤ keys → (s : State) → valid s ≡ true → noticeDueIn keys (world_of s) ≡ notice_due s
due_is keys big s ok = due_same keys s (world_of s) big ok (state_shows s)

pub on_image : (s : State) (l : List ℕ) → state_of l ≡ s → (P : World → Type 0) → P (world_of s) → P (world_in l)
on_image s l e P h = subst (λ (t : State). P (world_of t)) (sym e) h
