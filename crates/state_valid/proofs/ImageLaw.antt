-- The definition of validity, part by part, for octets of the length of an image.
use mathlib.Core.Path.{◌≡◌, sym, ap, ◌∙◌}
use mathlib.Core.Bool.{true, ◌&&◌, and-true, and_assoc}
use mathlib.Core.List.{List, map}
use Prim.Native.Nat.{ℕ, ◌+◌, ◌^◌, ◌<◌, ◌≤◌}
use native.Mathlib.Omega.{arith}
use lib.Dec.{eqb}
use lib.ListN.{length, take, drop, length-drop, length-map}
use lib.Seq.{length-take-le, take_all}
use borrow.Author.Tests.{eq-eqb, lt-ltb, le-leb}
use Rattle.octets.specs.Octets.{low_octets, all_zero, same}
use Rattle.octets.specs.Lists.{every, ascends}
use Rattle.octets.proofs.Same.{same_self}
use Rattle.octets.proofs.LowLaws.{low_fits, octets_low}
use Rattle.octets.proofs.Laws.{Octets}
use Rattle.machine.specs.Machine.{key_of}
use Rattle.plan.specs.Plan.{Plan, keeps_rules}
use Rattle.state.specs.State.{State, valid, only_flows, good_session}
use Rattle.state.specs.Image.{zeros, port_row, flow_row, session_row, table, rows_in, places, bit}
use Rattle.state.specs.Image.{port_in, flow_in, session_in, state_of, ok_image}
use Rattle.state.specs.Image.{unit_flag, shared_address, ports_open, behind_places, port_counters, flows_open, behind_sessions}
use Rattle.state.proofs.BaseParts.{Bare, bare}
use Rattle.state.proofs.Cuts.{same_zeros}
use Rattle.state.proofs.TableLaws.{rows_few, rows_within, port_within, flow_within, session_within}
use Rattle.state.proofs.Sizes.{Sized}
use Rattle.state_tables.proofs.ZeroLaws.{zero_cut}
use Rattle.state_valid.proofs.ReadSizes.{read_size, port_wide, flow_wide, session_wide}
use Rattle.state_valid.proofs.SameImage.{same_image}
use Rattle.state_valid.proofs.TableEnd.{table_end}

module _ (l : List ℕ) (o : Octets l) (long : length l ≡ 4096) where
  abbrev s : State
  s = state_of l

  abbrev plan : Plan
  plan = s.plan

  pub ports_read : rows_in 8 16 port_in (take 128 (drop 128 l)) ≡ plan.ports
  unfolding state_of
  ports_read = rows_within 8 16 128 port_in (omega arith) port_within (drop 128 l) (omega arith)

  pub flows_read : rows_in 32 32 flow_in (take 1024 (drop 256 l)) ≡ plan.flows
  unfolding state_of
  flows_read = rows_within 32 32 1024 flow_in (omega arith) flow_within (drop 256 l) (omega arith)

  pub sessions_read : rows_in 16 32 session_in (take 2560 (drop 1536 l)) ≡ s.sessions
  unfolding state_of
  sessions_read = rows_within 16 32 2560 session_in (omega arith) session_within (drop 1536 l) (omega arith)

  none : Bare s
  none = bare s

  rest_long : (at n : ℕ) → at + n ≤ 4096 → n ≤ length (drop at l)
  rest_long at n h = rw length-drop (omega arith)

  pub part_long : (at n : ℕ) → at + n ≤ 4096 → length (take n (drop at l)) ≡ n
  part_long at n h = length-take-le n (drop at l) (rest_long at n h)

  sizes : Sized s
  unfolding state_of
  sizes =
      record {
        allowed_size = length-map (take 32 (drop 32 l)) (eqb 1) ∙ part_long 32 32 (omega arith);
        ports_size = read_size port_row port_in 16 port_wide 8 128 (drop 128 l) (rest_long 128 128 (omega arith)) (omega arith);
        flows_size = read_size flow_row flow_in 32 flow_wide 32 1024 (drop 256 l) (rest_long 256 1024 (omega arith)) (omega arith);
        sessions_size =
            read_size session_row session_in 32 session_wide 16 512 (drop 1536 l) (rest_long 1536 512 (omega arith)) (omega arith);
      }

  -- a part that is 0 in a unit of the base
  zero_part : (p : List ℕ) (at n : ℕ) → p ≡ zeros n → at + n ≤ 4096 → same p (take n (drop at l)) ≡ all_zero (take n (drop at l))
  unfolding zeros
  zero_part p at n e h = rw e (same_zeros n (take n (drop at l)) (part_long at n h))

  zero_end : same (behind_sessions s) (drop 2048 l) ≡ all_zero (take 2048 (drop 2048 l))
  zero_end =
      let all : take 2048 (drop 2048 l) ≡ drop 2048 l = take_all 2048 (drop 2048 l) (rw length-drop (omega arith)) in
      ap (same (behind_sessions s)) (sym all) ∙ zero_part (behind_sessions s) 2048 2048 none.behind_sessions_is (omega arith)

  clock_same : same (low_octets 4 s.clock) (take 4 l) ≡ true
  unfolding state_of
  clock_same = rw (octets_low 4 l o (omega arith)) (same_self (take 4 l))

  clock_fits : s.clock < 2 ^ 32
  unfolding state_of
  clock_fits = low_fits 4 l o

  sessions_few : length s.sessions ≤ 16
  unfolding state_of
  sessions_few = rows_few 16 32 session_in (drop 1536 l)

  pub image_law : ok_image l
      ≡ ((keeps_rules plan
      && only_flows plan 1 s.allowed
      && ascends key_of 0 s.sessions
      && every (good_session s) s.sessions)
      && (all_zero (take 28 (drop 4 l))
      && (same (map bit s.allowed) (take 32 (drop 32 l))
      && (same (places 32 1 plan.flows) (take 32 (drop 64 l))
      && (all_zero (take 32 (drop 96 l))
      && (same (table 128 port_row plan.ports) (take 128 (drop 128 l))
      && (same (table 1024 flow_row plan.flows) (take 1024 (drop 256 l))
      && (all_zero (take 256 (drop 1280 l))
      && same (table 2560 session_row s.sessions) (take 2560 (drop 1536 l))))))))))
  unfolding ok_image valid
  image_law =
      rw (
        zero_cut 4 4 24 l,
        zero_cut 8 8 16 l,
        zero_cut 1280 192 64 l,
        table_end session_row 512 2048 s.sessions sizes.sessions_size 1536 l (omega arith),
      )
      (simp (
        same_image s l sizes,
        clock_same,
        zero_part (unit_flag s) 4 4 none.flag (omega arith),
        zero_part (shared_address s) 8 8 none.shared (omega arith),
        zero_part (ports_open s) 16 16 none.ports_open_is (omega arith),
        zero_part (behind_places s) 96 32 none.behind_places (omega arith),
        zero_part (port_counters s) 1280 192 none.counters (omega arith),
        zero_part (flows_open s) 1472 64 none.flows_open_is (omega arith),
        zero_end,
        lt-ltb s.clock (2 ^ 32) clock_fits,
        eq-eqb (length s.allowed) 32 sizes.allowed_size,
        le-leb (length s.sessions) 16 sessions_few,
        and-true,
        and_assoc,
      ))
