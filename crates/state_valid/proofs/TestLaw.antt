-- The test of validity, put together: it passes when octets are the image of a valid state, and then alone.
use mathlib.Core.Path.{◌≡◌, refl, ap, ◌∙◌}
use mathlib.Core.Bool.{Bool, true, false, ◌&&◌, and_assoc, and_comm}
use mathlib.Core.List.{List, map}
use Prim.Native.Nat.{ℕ}
use native.Mathlib.Omega.{arith}
use lib.Dec.{leb}
use lib.ListN.{length, take, drop}
use Rattle.octets.specs.Octets.{all_zero, same}
use Rattle.octets.specs.Lists.{within, every, ascends, distinct}
use Rattle.octets.proofs.Same.{both_true}
use Rattle.octets.proofs.Laws.{Octets, octets_drop}
use Rattle.machine.specs.Machine.{key_of}
use Rattle.plan.specs.Plan.{Plan, so_far, keeps_rules, flow_key, mp_count, good_port, good_flow}
use Rattle.plan.proofs.Kept.{good_numbers}
use Rattle.state.specs.State.{State, only_flows, good_session}
use Rattle.state.specs.Image.{port_row, flow_row, session_row, table, rows_in, places, bit, port_in, state_of, ok_image}
use Rattle.state.proofs.ImageLaws.{ok_length}
use Rattle.state_tables.specs.Pass.{ok_ports, ok_flows, ok_allowed}
use Rattle.state_tables.proofs.Tests.{and_left_comm, and_when}
use Rattle.state_tables.proofs.RowsLaw.{octets_take}
use Rattle.state_tables.proofs.PortsLaw.{ports_law}
use Rattle.state_tables.proofs.FlowsLaw.{flows_law}
use Rattle.state_tables.proofs.AllowedLaw.{allowed_law}
use Rattle.state_valid.specs.Sessions.{ok_sessions}
use Rattle.state_valid.proofs.SessionsLaw.{sessions_law}
use Rattle.state_valid.proofs.ImageLaw.{ports_read, flows_read, sessions_read, part_long, image_law}

module _ (z1 z2 z3 p1 p2 p3 address t1 : Bool) where
  -- the test that later ones rest on, before them
  ports_first : (flows allowed sessions : Bool)
      → ((z1 && z2 && z3) && ((p1 && p2 && p3 && t1) && address && flows) && allowed && sessions)
      ≡ (p1 && p2 && z1 && z2 && z3 && address && t1 && (p3 && (flows && (allowed && sessions))))
  ports_first flows allowed sessions = simp (and_assoc, and_comm, and_left_comm)

  as_image : (f1 f2 f3 f4 allowed octets s1 s2 pl t2 t3 : Bool)
      → (p1 && p2 && z1 && z2 && z3 && address && t1
      && (p3 && ((f1 && f2 && f3 && f4 && (pl && t2)) && (allowed && octets && ((s1 && s2) && t3)))))
      ≡ ((p1 && (p2 && p3 && address && f1 && f2 && f3 && f4) && allowed && s1 && s2)
      && (z1 && (octets && (pl && (z2 && (t1 && (t2 && (z3 && t3))))))))
  as_image f1 f2 f3 f4 allowed octets s1 s2 pl t2 t3 = simp (and_assoc, and_comm, and_left_comm)

module _ (l : List ℕ) (o : Octets l) (long : length l ≡ 4096) where
  abbrev s : State
  s = state_of l

  abbrev plan : Plan
  plan = s.plan

  -- does each part have the octets of what is read from it?
  abbrev al : Bool
  al = same (map bit s.allowed) (take 32 (drop 32 l))

  abbrev pl : Bool
  pl = same (places 32 1 plan.flows) (take 32 (drop 64 l))

  abbrev t1 : Bool
  t1 = same (table 128 port_row plan.ports) (take 128 (drop 128 l))

  abbrev t2 : Bool
  t2 = same (table 1024 flow_row plan.flows) (take 1024 (drop 256 l))

  abbrev t3 : Bool
  t3 = same (table 2560 session_row s.sessions) (take 2560 (drop 1536 l))

  -- does what is read keep the rules?
  abbrev good_flows : Bool
  good_flows =
      ascends flow_key 0 plan.flows
      && every (good_flow plan) plan.flows
      && distinct (map (λ f. f.number) plan.flows)
      && leb (mp_count plan.flows) 32

  abbrev good_sessions : Bool
  good_sessions = ascends key_of 0 s.sessions && every (good_session s) s.sessions

  -- the tests behind the flows'
  abbrev rest : Bool
  rest = ok_allowed (take 32 (drop 32 l)) (take 32 (drop 64 l)) && ok_sessions l (take 2560 (drop 1536 l))

  abbrev good_rest : Bool
  good_rest = only_flows plan 1 s.allowed && al && (good_sessions && t3)

  known_numbers : good_flows ≡ true → every (λ f. within 1 32 f.number) plan.flows ≡ true
  known_numbers e =
      let f1 : Bool = ascends flow_key 0 plan.flows in
      let f2 : Bool = every (good_flow plan) plan.flows in
      let f3 : Bool = distinct (map (λ f. f.number) plan.flows) in
      let b : _ = both_true (f1 && f2 && f3) (leb (mp_count plan.flows) 32) e in
      good_numbers plan plan.flows (both_true f1 f2 (both_true (f1 && f2) f3 b.0).0).1

  behind_flows : (good_flows && (pl && t2)) ≡ true → rest ≡ good_rest
  unfolding state_of
  behind_flows e =
      let a : _ = both_true good_flows (pl && t2) e in
      let placed : pl ≡ true = (both_true pl t2 a.1).0 in
      let t : List ℕ = take 2560 (drop 1536 l) in
      let ot : Octets t = octets_take 2560 (drop 1536 l) (octets_drop 1536 l o) in
      rw (
        allowed_law plan (take 32 (drop 32 l)) (take 32 (drop 64 l)) (part_long l o long 32 32 (omega arith)) placed,
        sessions_law l placed (known_numbers a.0) t ot (part_long l o long 1536 2560 (omega arith)),
        sessions_read l o long,
      )

  behind_ports : every good_port plan.ports ≡ true
      → (ok_flows l (take 1024 (drop 256 l)) && rest) ≡ (good_flows && (pl && t2) && good_rest)
  behind_ports ports =
      let t : List ℕ = take 1024 (drop 256 l) in
      let ot : Octets t = octets_take 1024 (drop 256 l) (octets_drop 256 l o) in
      rw (flows_law l (omega arith) ports t ot (part_long l o long 256 1024 (omega arith)), flows_read l o long)
      (and_when (good_flows && (pl && t2)) behind_flows)

  pub test_law
      : ((all_zero (take 28 (drop 4 l))
      && all_zero (take 32 (drop 96 l))
      && all_zero (take 256 (drop 1280 l)))
      && (ok_ports (take 128 (drop 128 l))
      && distinct (map (λ p. p.address) (rows_in 8 16 port_in (take 128 (drop 128 l))))
      && ok_flows l (take 1024 (drop 256 l)))
      && ok_allowed (take 32 (drop 32 l)) (take 32 (drop 64 l))
      && ok_sessions l (take 2560 (drop 1536 l)))
      ≡ ok_image l
  unfolding keeps_rules so_far
  test_law =
      let z1 : Bool = all_zero (take 28 (drop 4 l)) in
      let z2 : Bool = all_zero (take 32 (drop 96 l)) in
      let z3 : Bool = all_zero (take 256 (drop 1280 l)) in
      let p1 : Bool = leb 1 (length plan.ports) in
      let p2 : Bool = ascends (λ p. p.number) 0 plan.ports in
      let p3 : Bool = every good_port plan.ports in
      let ad : Bool = distinct (map (λ p. p.address) plan.ports) in
      let t : List ℕ = take 128 (drop 128 l) in
      let ot : Octets t = octets_take 128 (drop 128 l) (octets_drop 128 l o) in
      rw (ports_law t ot (part_long l o long 128 128 (omega arith)), ports_read l o long, image_law l o long)
      (ports_first z1 z2 z3 p1 p2 p3 ad t1 _ _ _
      ∙ ap (λ (q : Bool). p1 && p2 && z1 && z2 && z3 && ad && t1 && q) (and_when p3 behind_ports)
      ∙ as_image z1 z2 z3 p1 p2 p3 ad t1 _ _ _ _ _ al _ _ pl t2 t3)

pub short_law : (l : List ℕ) → (length l ≡ 4096 → ⊥) → ok_image l ≡ false
short_law l other = go (ok_image l) refl
  where
    go : (t : Bool) → ok_image l ≡ t → t ≡ false
    go true e = absurd (other (ok_length l e))
    go false e = refl
