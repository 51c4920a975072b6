-- A port's, a flow's and a session's row: written and read again, and octets read and written again.
use mathlib.Core.Path.{◌≡◌, refl}
use mathlib.Core.Bool.{◌&&◌, and_assoc}
use mathlib.Core.List.{List, [], ◌∷◌, ◌++◌, append_assoc}
use Prim.Native.Nat.{ℕ, ◌^◌, ◌<◌, ◌≤◌}
use native.Mathlib.Omega.{arith}
use lib.Dec.{eqb}
use lib.ListN.{length, get_or, take, drop, length-append, length-drop}
use lib.Seq.{drop-drop, take_at}
use borrow.Author.Tests.{eq-eqb}
use Rattle.octets.specs.Octets.{low_number, low_octets, all_zero, same}
use Rattle.octets.proofs.Laws.{Octets}
use Rattle.octets.proofs.LowLaws.{low_octets_lem, octets_low_at, low_parts, low_1}
use Rattle.octets.proofs.ListLaws.{eqb_turn}
use Rattle.machine.specs.declared.Session.{Session}
use Rattle.machine.specs.Machine.{key, key_of}
use Rattle.plan.specs.declared.Port.{Port}
use Rattle.plan.specs.declared.Flow.{Flow}
use Rattle.plan.specs.Plan.{set_key, flow_key}
use Rattle.state.specs.Image.{zeros, port_row, flow_row, session_row, port_in, flow_in, session_in}
use Rattle.state.proofs.Cuts.{take_two, take_on, low_octets_join, same_tail}

-- what a port, a flow and a session need to fit their rows
pub record PortFits (p : Port) : Type 0 where
  pub address_fits : p.address < 2 ^ 48

pub record FlowFits (f : Flow) : Type 0 where
  pub vid_fits : f.vid < 2 ^ 16
  pub mps_fit : length f.mps ≡ 8

pub record SessionFits (x : Session) : Type 0 where
  pub flow_fits : x.flow < 2 ^ 16
  pub source_fits : x.source < 2 ^ 48
  pub left_fits : x.left < 2 ^ 32
  pub tag_fits : x.tag < 2 ^ 64

pub port_length : (p : Port) → length (port_row p) ≡ 16
unfolding port_row low_octets zeros
port_length p = refl

pub flow_length : (f : Flow) → length f.mps ≡ 8 → length (flow_row f) ≡ 32
unfolding flow_row low_octets zeros
flow_length f h = rw length-append (omega arith)

pub session_length : (x : Session) → length (session_row x) ≡ 32
unfolding session_row low_octets zeros
session_length x = refl

-- ---- written and read again

module _ (p : Port) (t : List ℕ) where
  pub port_back : PortFits p → port_in (port_row p ++ t) ≡ p
  unfolding port_in port_row low_octets zeros
  port_back h = rw (low_octets_lem 6 p.address (p.kind ∷ p.number ∷ (zeros 8 ++ t)) h.address_fits)

  pub port_head : 1 ≤ p.number → low_number 8 (port_row p ++ t) ≡ 0 → ⊥
  unfolding port_row low_octets low_number
  port_head h z = omega arith

module _ (f : Flow) (t : List ℕ) where
  pub flow_back : FlowFits f → flow_in (flow_row f ++ t) ≡ f
  unfolding flow_in flow_row low_octets zeros
  flow_back h =
      rw (
        append_assoc f.mps (zeros 16) t,
        take_at f.mps (zeros 16 ++ t) 8 h.mps_fit,
        low_octets_lem 2 f.vid (f.kind ∷ f.port ∷ (f.mps ++ (zeros 16 ++ t))) h.vid_fits,
      )

  pub flow_head : 1 ≤ f.port → low_number 8 (flow_row f ++ t) ≡ 0 → ⊥
  unfolding flow_row low_octets low_number
  flow_head h z = omega arith

module _ (x : Session) (t : List ℕ) (h : SessionFits x) where
  -- the octets behind the tag, behind the time left and behind the key
  abbrev last : List ℕ
  last = zeros 8 ++ t

  abbrev later : List ℕ
  later = x.notice ∷ x.level ∷ x.side ∷ x.taglen ∷ low_octets 8 x.tag ++ last

  abbrev behind : List ℕ
  behind = low_octets 4 x.left ++ later

  session_parts : session_row x ++ t ≡ low_octets 6 x.source ++ (low_octets 2 x.flow ++ behind)
  unfolding session_row key_of key
  session_parts = rw (low_octets_join 6 2 x.source x.flow h.source_fits) (simp append_assoc)

  pub session_back : session_in (session_row x ++ t) ≡ x
  unfolding session_in low_octets zeros
  session_back =
      rw (
        session_parts,
        low_octets_lem 6 x.source (low_octets 2 x.flow ++ behind) h.source_fits,
        low_octets_lem 2 x.flow behind h.flow_fits,
        low_octets_lem 4 x.left later h.left_fits,
        low_octets_lem 8 x.tag last h.tag_fits,
      )

  pub session_key : low_number 8 (session_row x ++ t) ≡ key_of x
  unfolding session_row key_of key low_octets
  session_key =
      let f : x.flow < 2 ^ 16 = h.flow_fits in
      let s : x.source < 2 ^ 48 = h.source_fits in
      low_octets_lem 8 (key_of x) behind (omega arith)

  pub session_head : 1 ≤ key_of x → low_number 8 (session_row x ++ t) ≡ 0 → ⊥
  session_head k z = omega (arith, session_key, k, z)

-- ---- read and written again

pub session_key_in : (l : List ℕ) → key_of (session_in l) ≡ low_number 8 l
unfolding key_of key session_in
session_key_in l = omega (arith, low_parts 6 2 0 l refl refl)

pub flow_key_in : (l : List ℕ) → flow_key (flow_in l) ≡ low_number 4 (drop 4 l)
unfolding flow_key set_key flow_in
flow_key_in l = omega (arith, low_parts 2 2 4 l refl (low_parts 1 1 6 l (low_1 6 l) (low_1 7 l)))

module _ (l : List ℕ) (o : Octets l) where
  pub port_exact : 16 ≤ length l → same (port_row (port_in l)) (take 16 l) ≡ all_zero (take 8 (drop 8 l))
  unfolding port_row port_in
  port_exact h =
      let two : List ℕ = get_or l 6 0 ∷ get_or l 7 0 ∷ [] in
      let front : take 8 l ≡ take 6 l ++ two
      = rw (take_on 0 6 2 l, take_two 6 0 l (omega arith)) in
      rw (octets_low_at 0 6 l o (omega arith), ← append_assoc (take 6 l) two (zeros 8), ← front) (same_tail 8 8 l h)

  pub session_exact : 32 ≤ length l → same (session_row (session_in l)) (take 32 l) ≡ all_zero (take 8 (drop 24 l))
  unfolding session_row session_in
  session_exact h =
      let four : List ℕ = get_or l 12 0 ∷ get_or l 13 0 ∷ get_or l 14 0 ∷ get_or l 15 0 ∷ take 8 (drop 16 l) in
      let back : take 12 (drop 12 l) ≡ four
      = rw (take_two 12 10 l (omega arith), take_two 14 8 l (omega arith)) in
      let front : take 24 l ≡ take 8 l ++ take 4 (drop 8 l) ++ four = rw (take_on 0 12 12 l, take_on 0 8 4 l, back) in
      rw (
        session_key_in l,
        octets_low_at 0 8 l o (omega arith),
        octets_low_at 8 4 l o (omega arith),
        octets_low_at 16 8 l o (omega arith),
        ← front,
      ) (same_tail 24 8 l h)

  pub flow_exact : 32 ≤ length l
      → same (flow_row (flow_in l)) (take 32 l)
      ≡ (eqb (get_or l 0 0) 0 && eqb (get_or l 2 0) 0 && eqb (get_or l 3 0) 0 && all_zero (take 16 (drop 16 l)))
  unfolding flow_row flow_in same
  flow_exact h =
      let two : List ℕ = get_or l 6 0 ∷ get_or l 7 0 ∷ take 8 (drop 8 l) in
      let front : take 12 (drop 4 l) ≡ take 2 (drop 4 l) ++ two
      = rw (take_on 4 2 10 l, take_two 6 8 l (omega arith)) in
      let long : 28 ≤ length (drop 4 l) = omega (arith, length-drop 4 l) in
      let four : take 32 l ≡ get_or l 0 0 ∷ get_or l 1 0 ∷ get_or l 2 0 ∷ get_or l 3 0 ∷ take 28 (drop 4 l)
      = rw (take_two 0 30 l (omega arith), take_two 2 28 l (omega arith)) in
      rw (
        four,
        octets_low_at 4 2 l o (omega arith),
        ← front,
        eq-eqb (get_or l 1 0) (get_or l 1 0) refl,
        same_tail 12 16 (drop 4 l) long,
        drop-drop,
        eqb_turn 0 (get_or l 0 0),
        eqb_turn 0 (get_or l 2 0),
        eqb_turn 0 (get_or l 3 0),
      ) (simp and_assoc)
