-- Demand 3 on the bench: B2 is B1 as a later version would send it.
use mathlib.Core.Path.{◌≡◌, refl}
use mathlib.Core.List.{List, [], ◌∷◌}
use Prim.Native.Nat.{ℕ, ◌+◌, ◌^◌, ◌<◌, ◌≤◌}
use native.Mathlib.Omega.{arith}
use lib.ListN.{length}
use Rattle.octets.specs.Lists.{within, some, first}
use Rattle.octets.specs.Octets.{number, octets}
use Rattle.octets.specs.Text.{hex}
use Rattle.codec.specs.FrameSet.{destination, source, group, type_behind, vid_of, set_of, tagged, by_tag, sets_of, soam, pdu_of}
use Rattle.codec.specs.Request.{octet, level_of, version_of, opcode_of, offset_of, type_of, port_mac_of, tlvs_of, is_request, class2}
use Rattle.codec.specs.Request.{addressed, wrong_mac, wrong_offset, untimed, malformed}
use Rattle.codec.specs.Later.{Parts, pdu_in, Laid}
use Rattle.codec_tlvs.specs.Tlv.{Tlv, ended, cut, followed, walk, parse, subtype, is_timer, bad_tlv, timers, bad_list, is_unknown, unknowns}
use Rattle.codec_tlvs.specs.Tlv.{tlv_octets, tlv_list}
use Rattle.codec_tlvs.specs.Additions.{Whole, AllWhole, ended as none, kept, new}
use Rattle.plan.specs.Plan.{no_port, no_flow, port_numbered, set_key, flow_key, flow_of_set, in_plan, mp_at, faces}
use Rattle.plan.proofs.Examples.{bench_plan}
use Rattle.calls.specs.Frame.{arrived_at, pdu, mp_of, for_mp}
use Rattle.calls.specs.Bench.{to_port, to_tester}
use Rattle.demands.specs.Frame.{is_for, arrived}
use Rattle.demands.specs.Later.{Later}
use Rattle.demands.specs.LaterRuns.{copied_bit}

-- ---- the two frames, and their parts

unfoldable pub b1 : List ℕ
b1 = to_port (hex "80 39 00 08 01 00 02 00 00 00 00 01 25 00 05 01 00 00 00 3C 00")

unfoldable pub b2 : List ℕ
b2 = to_port (hex "81 39 00 0A 01 00 02 00 00 00 00 01 00 00 09 00 01 FF 25 00 05 01 00 00 00 3C 00")

abbrev pub timer : Tlv
timer = record { kind = 37; value = 1 ∷ 0 ∷ 0 ∷ 0 ∷ 60 ∷ [] }

abbrev pub unknown9 : Tlv
unknown9 = record { kind = 9; value = 255 ∷ [] }

-- Activate, with the port's address
abbrev pub parts : ℕ → ℕ → List ℕ → List Tlv → Parts
parts version offset ahead tlvs =
    record {
      level = 4;
      version = version;
      flags = 0;
      offset = offset;
      fixed = 1 ∷ 0 ∷ 2 ∷ 0 ∷ 0 ∷ 0 ∷ 0 ∷ 1 ∷ [];
      ahead = ahead;
      tlvs = tlvs;
      behind = [];
    }

-- to be unfolded at once: all that the bench's frames compute with
unfoldable pub computed : Unit {0}
unfolding within some first number octets hex destination source group type_behind vid_of set_of tagged by_tag sets_of
    soam pdu_of octet level_of version_of opcode_of offset_of type_of port_mac_of tlvs_of is_request class2 addressed wrong_mac wrong_offset
    untimed malformed pdu_in ended cut followed walk parse subtype is_timer bad_tlv timers bad_list tlv_octets tlv_list is_unknown
    unknowns no_port no_flow port_numbered set_key flow_key flow_of_set in_plan mp_at faces bench_plan arrived_at pdu mp_of for_mp to_port
    to_tester is_for arrived copied_bit b1 b2
computed = tt

pub whole : (kind : ℕ) (value : List ℕ) → 1 ≤ kind → kind < 256 → length value < 2 ^ 16 → Whole (record { kind = kind; value = value })
whole kind value some small short = record { kind_some = some; kind_small = small; short = short }

pub laid : (version offset : ℕ) (ahead : List ℕ) (tlvs : List Tlv) → version < 32 → offset < 256 → offset ≡ 8 + length ahead
    → AllWhole tlvs → Laid (parts version offset ahead tlvs)
laid version offset ahead tlvs v o first whole =
    record {
      level_small = omega arith;
      version_small = v;
      flags_small = omega arith;
      offset_small = o;
      eight = refl;
      first = first;
      whole = whole;
    }

unfoldable pub b2_later : Later b1 b2
unfolding computed
b2_later =
    let timed : Whole timer = whole 37 _ (omega arith) (omega arith) (omega arith) in
    let added : Whole unknown9 = whole 9 _ (omega arith) (omega arith) (omega arith) in
    record {
      head = hex "02 00 00 00 00 01 02 00 00 00 00 AA 81 00 00 14 89 02";
      old = parts 0 8 [] (timer ∷ []);
      new = parts 1 10 (0 ∷ 0 ∷ []) (unknown9 ∷ timer ∷ []);
      old_laid = laid 0 8 [] _ (omega arith) (omega arith) refl (timed, tt);
      new_laid = laid 1 10 (0 ∷ 0 ∷ []) _ (omega arith) (omega arith) refl (added, (timed, tt));
      old_is = refl;
      new_is = refl;
      rewritten =
          record {
            more = 0 ∷ 0 ∷ [];
            level_same = refl;
            later = omega arith;
            flags_same = refl;
            fixed_same = refl;
            ahead_more = refl;
            tlvs_added = new refl (kept none);
            behind_same = refl;
          };
      fits = omega arith;
    }
