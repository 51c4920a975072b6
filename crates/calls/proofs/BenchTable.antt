-- B1 to B12, and the further cases, hold of the definitions: one computed test over each table.
use mathlib.Core.Path.{◌≡◌, refl}
use mathlib.Core.Bool.{true}
use mathlib.Core.List.{◌++◌}
use Rattle.octets.specs.Lists.{within, every, some, count, first, ascends, put, without, distinct}
use Rattle.octets.specs.Octets.{number, octets, low_number, low_octets, moved_up, moved_down, all_zero, same}
use Rattle.octets.specs.Text.{text, hex}
use Rattle.codec.specs.FrameSet.{destination, source, group, type_behind, vid_of, set_of, tagged, by_tag, tag_fits, sets_of, soam}
use Rattle.codec.specs.FrameSet.{pdu_of}
use Rattle.codec_replies.specs.Reply.{active_flags, flags_by, flags, header, timer_tlv, carries_timer, timer_part, reply_pdu, reply_of}
use Rattle.codec_replies.specs.Reply.{reply_frame, tag_of, looped}
use Rattle.codec.specs.Request.{octet, level_of, version_of, opcode_of, offset_of, type_of, port_mac_of, tlvs_of, is_request, class2}
use Rattle.codec.specs.Request.{addressed, wrong_mac, wrong_offset, untimed, malformed, by_type, request_of, copies_of, copied, read_of}
use Rattle.codec_tlvs.specs.Tlv.{ended, cut, followed, walk, parse, subtype, is_timer, bad_tlv, timers, bad_list}
use Rattle.codec_tlvs.specs.Tlv.{is_unknown, unknowns, tlv_octets, tlv_list}
use Rattle.machine.specs.Machine.{activity, condition_of, is_open, key, key_of, lasting, owed, good_seconds, answered, admitted}
use Rattle.machine.specs.Machine.{same_mp, refreshed, restarted, closed, decided, after, passes, turned, fate_of, data_event}
use Rattle.machine.specs.Machine.{seconds_left, status_of}
use Rattle.machine.specs.Management.{closed_by, managed_by, allowed_after}
use Rattle.machine.specs.Table.{condition_number, event_number, condition_at, event_at, action_of, action_at}
use Rattle.machine.specs.Time.{elapsed, jumped, ticked}
use Rattle.plan.specs.Line.{joined, parted, field, is_digit, is_number, is_address, spelled, number_in, address_in, listed, port_kinds}
use Rattle.plan.specs.Line.{flow_kinds, mp_kinds, as_port, as_flow, as_mp, by_word, line_of}
use Rattle.plan.specs.Plan.{no_port, no_flow, port_numbered, flow_numbered, set_key, flow_key, flow_of_set, in_plan, mp_at, faces, mps_of}
use Rattle.plan.specs.Plan.{mp_count, good_address, good_vid, good_kind, good_port, good_flow, so_far, keeps_rules}
use Rattle.plan.specs.PlanText.{port_reason, flow_reason, mp_reason, reason_of, with_mp, added, finished, read_lines, empty_plan, plan_in}
use Rattle.state.specs.Image.{zeros, port_row, flow_row, session_row, rows, table, rows_in, place_from, places, bit, head, image}
use Rattle.state.specs.Image.{port_in, flow_in, session_in, state_of, ok_image}
use Rattle.state.specs.Image.{unit_flag, shared_address, ports_open, behind_places, port_counters, flows_open, behind_sessions}
use Rattle.state.specs.State.{with_clock, with_allowed, with_sessions, is_allowed, only_flows, good_time, good_session, valid, machine_of, full_for, notice_due, no_session, made}
use Rattle.state.specs.State.{first_owed}
use Rattle.calls.specs.Answer.{packed, number_of, leaves, sends}
use Rattle.calls.specs.Bench.{run, blank, right, bench_plan, start, room, written, to_port, to_tester, asks, activate60}
use Rattle.calls.specs.Bench.{state_request, other_vlan, bench_table}
use Rattle.calls.specs.Calls.{no_such_place, bad_length, short_output, no_such_flow, refusal, make_served, ticked_to}
use Rattle.calls.specs.Calls.{managed, restarted_at, served, lent, handed, call, makes, keeps_image, stored}
use Rattle.calls.specs.Calls.{enter}
use Rattle.calls.specs.Frame.{pdu, mp_of, for_mp, own_key, own, own_action, by_fate, data_served, goes_on, new_session}
use Rattle.calls.specs.Frame.{changed, replied, decides, machine_served, answers, request_served, by_whom}
use Rattle.calls.specs.Frame.{arrived_at, in_flow, in_sets, frame_served}
use Rattle.calls.specs.Notice.{port_of, notice_frame, noticed, notice_served}
use Rattle.calls.proofs.Further.{opened, due, blank_frame, refusals, activate_from, sessions, tester, requests, traffic}
use Rattle.calls.proofs.Mps.{mp_plan, mps, other_level, at_mip, at_enni, to_group, with_priority, levels, groups, entered}
use Rattle.calls.proofs.Mps.{image_of, entries}

-- every definition, to be unfolded at once
unfoldable pub everything : Unit {0}
unfolding within every some count first ascends put without distinct number octets low_number low_octets moved_up moved_down all_zero same text hex
    destination source group type_behind vid_of set_of tagged by_tag tag_fits sets_of soam pdu_of active_flags flags_by flags
    header timer_tlv carries_timer timer_part reply_pdu copied reply_of reply_frame tag_of looped octet level_of version_of opcode_of
    offset_of type_of port_mac_of tlvs_of is_request class2 addressed wrong_mac wrong_offset untimed malformed by_type request_of copies_of
    read_of ended cut followed walk parse subtype is_timer bad_tlv timers bad_list is_unknown unknowns tlv_octets tlv_list activity condition_of is_open key
    key_of lasting owed good_seconds answered admitted same_mp refreshed restarted closed decided after passes turned fate_of
    data_event closed_by managed_by allowed_after seconds_left status_of condition_number event_number condition_at event_at action_of
    action_at elapsed jumped ticked joined parted field is_digit is_number is_address spelled number_in address_in listed port_kinds
    flow_kinds mp_kinds as_port as_flow as_mp by_word line_of no_port no_flow port_numbered flow_numbered set_key flow_key flow_of_set in_plan
    mp_at faces mps_of mp_count good_address good_vid good_kind good_port good_flow so_far keeps_rules port_reason flow_reason mp_reason reason_of
    with_mp added finished read_lines empty_plan plan_in zeros port_row flow_row session_row rows table rows_in place_from places bit head
    unit_flag shared_address ports_open behind_places port_counters flows_open behind_sessions
    image port_in flow_in session_in state_of ok_image is_allowed only_flows good_time good_session valid machine_of full_for notice_due
    no_session first_owed packed number_of leaves sends run blank right bench_plan start room written to_port to_tester asks activate60
    state_request other_vlan bench_table no_such_place bad_length short_output no_such_flow refusal made make_served ticked_to managed
    restarted_at served lent handed call makes keeps_image stored enter pdu mp_of for_mp own_key own own_action by_fate
    data_served goes_on new_session with_clock with_allowed with_sessions changed replied decides machine_served answers request_served by_whom arrived_at in_flow in_sets
    frame_served port_of notice_frame noticed notice_served opened due blank_frame refusals activate_from sessions tester requests
    traffic mp_plan mps other_level at_mip at_enni to_group with_priority levels groups entered image_of entries
everything = tt

-- B1 to B12
pub bench_table_lem : every right bench_table ≡ true
unfolding everything
bench_table_lem = refl

further_tables : every right (refusals ++ requests ++ traffic ++ levels ++ groups) ≡ true
unfolding everything
further_tables = refl

entry_table : every entered entries ≡ true
unfolding everything
entry_table = refl
