-- The pass over the flows' rows, and the rules that flows keep: each flow good, frame sets in order, numbers distinct and in
-- their places, at most 32 MPs.
use mathlib.Core.Path.{◌≡◌, ap, ◌∙◌}
use mathlib.Core.Bool.{Bool, true, ◌&&◌, and_assoc}
use mathlib.Core.List.{List, [], ◌∷◌, map}
use Prim.Native.Nat.{ℕ, suc, ◌+◌, ◌≤◌, ◌<◌}
use native.Mathlib.Nat.{add-zero, zero-add}
use native.Mathlib.Omega.{arith}
use lib.Dec.{eqb, ltb, leb}
use lib.ListN.{length, get_or, take, drop, length-drop}
use lib.Seq.{get_or-drop, get_or-take, length-take-le}
use Rattle.octets.specs.Octets.{same}
use Rattle.octets.specs.Lists.{within, every, count, ascends, distinct}
use Rattle.octets.proofs.ListLaws.{every_map}
use Rattle.octets.proofs.Laws.{Octets}
use Rattle.plan.specs.declared.Flow.{Flow}
use Rattle.plan.specs.Plan.{Plan, flow_key, good_port, good_flow, mp_count}
use Rattle.plan.proofs.Kept.{good_numbers}
use Rattle.state.specs.Image.{flow_row, flow_in, state_of, places, table, rows_in}
use Rattle.state.proofs.TableLaws.{rows_few}
use Rattle.state_tables.specs.Pass.{Seen, none_seen, octet_sum, ok_flows}
use Rattle.state_tables.proofs.Tests.{and_left_comm, and_when}
use Rattle.state_tables.proofs.RowsLaw.{passes, rows_law}
use Rattle.state_tables.proofs.MarksLaw.{all_marks, marks_law}
use Rattle.state_tables.proofs.PlacesLaw.{placed, places_law}
use Rattle.state_tables.proofs.OddLaw.{even, even_fits, even_seen, even_right, odd_law}
use Rattle.state_tables.proofs.FlowLaw.{fits, next, flow_law, next_law, wide_law}

one_turn : (a g p r e q m : Bool) → (a && g && p && (r && e && q && m)) ≡ (a && r && (g && e) && (p && q) && m)
one_turn a g p r e q m = simp (and_assoc, and_left_comm)

kept_turn : (a g p m c : Bool) → (a && g && p && (m && c)) ≡ (a && (g && (m && (p && c))))
kept_turn a g p m c = simp (and_assoc, and_left_comm)

rules_turn : (a g m d s t : Bool) → (a && (g && (m && (d && s))) && t) ≡ (a && g && d && m && (s && t))
rules_turn a g m d s t = simp (and_assoc, and_left_comm)

module _ (b : List ℕ) where
  abbrev plan : Plan
  plan = (state_of b).plan

  -- where a flow number leads
  abbrev at : ℕ → ℕ
  at n = get_or b (63 + n) 0

  -- the places in the image
  abbrev told : List ℕ
  told = take 32 (drop 64 b)

  -- what is known at the end
  end : ℕ → ℕ → List Flow → Bool
  end place marks fs = leb (octet_sum 8 (all_marks marks fs)) 128 && eqb (place + length fs) (count (leb 1) told)

  end_next : (s : Seen) (f : Flow) (fs : List Flow)
      → end (next s f).place (next s f).marks fs ≡ end s.place s.marks (f ∷ fs)
  unfolding end next all_marks
  end_next s f fs = let e : s.place + 1 + length fs ≡ s.place + suc (length fs) = omega arith in rw e

  flows_pass : (s : Seen) (fs : List Flow)
      → passes (fits b) next (even_right b) s fs
      ≡ (ascends flow_key s.last fs && every (good_flow plan) fs && placed at (s.place + 1) fs && end s.place s.marks fs)
  unfolding passes even_right ascends every placed end all_marks fits next
  flows_pass s [] = rw add-zero
  flows_pass s (f ∷ fs) =
      rw (flows_pass (next s f) fs, end_next s f fs)
      (one_turn (ltb s.last (flow_key f)) (good_flow plan f) (eqb (at f.number) (s.place + 1))
      (ascends flow_key (flow_key f) fs) (every (good_flow plan) fs)
      (placed at (s.place + 1 + 1) fs) (end s.place s.marks (f ∷ fs)))

  module _ (h : 96 ≤ length b) where
    place_told : (i : ℕ) → i < 32 → at (1 + i) ≡ get_or told i 0
    place_told i l = let e : 63 + (1 + i) ≡ 64 + i = omega arith in rw (get_or-take 32 (drop 64 b) i 0 l, get_or-drop, e)

    long_places : length told ≡ 32
    long_places = length-take-le 32 (drop 64 b) (omega (arith, length-drop 64 b))

    numbers_within : (fs : List Flow) → every (good_flow plan) fs ≡ true → every (within 1 32) (map (λ f. f.number) fs) ≡ true
    numbers_within fs g = every_map (λ (f : Flow). f.number) (within 1 32) fs ∙ good_numbers plan fs g

    module _ (fs : List Flow) (few : length fs ≤ 32) where
      counted : every (good_flow plan) fs ≡ true
          → (leb (octet_sum 8 (all_marks 0 fs)) 128 && (placed at 1 fs && eqb (0 + length fs) (count (leb 1) told)))
          ≡ (leb (mp_count fs) 32 && (distinct (map (λ f. f.number) fs) && same (places 32 1 fs) told))
      counted g =
          rw (marks_law plan fs g few, zero-add, places_law at told fs long_places place_told (numbers_within fs g))

      kept : (ascends flow_key 0 fs && every (good_flow plan) fs && placed at 1 fs && end 0 0 fs)
          ≡ (ascends flow_key 0 fs && (every (good_flow plan) fs
          && (leb (mp_count fs) 32 && (distinct (map (λ f. f.number) fs) && same (places 32 1 fs) told))))
      unfolding end
      kept =
          let a : Bool = ascends flow_key 0 fs in
          let g : Bool = every (good_flow plan) fs in
          kept_turn a g (placed at 1 fs) (leb (octet_sum 8 (all_marks 0 fs)) 128) (eqb (0 + length fs) (count (leb 1) told))
          ∙ ap (λ (r : Bool). a && r) (and_when g counted)

    pub flows_law : every good_port plan.ports ≡ true → (t : List ℕ) → Octets t → length t ≡ 1024
        → ok_flows b t
        ≡ ((ascends flow_key 0 (rows_in 32 32 flow_in t) && every (good_flow plan) (rows_in 32 32 flow_in t)
        && distinct (map (λ f. f.number) (rows_in 32 32 flow_in t)) && leb (mp_count (rows_in 32 32 flow_in t)) 32)
        && (same (places 32 1 (rows_in 32 32 flow_in t)) (take 32 (drop 64 b))
        && same (table 1024 flow_row (rows_in 32 32 flow_in t)) t))
    unfolding ok_flows none_seen even
    flows_law g t o n =
        let fs : List Flow = rows_in 32 32 flow_in t in
        let few : length fs ≤ 32 = rows_few 32 32 flow_in t in
        let pass : _
        = rows_law flow_in flow_row 32 (even_fits b) even_seen (fits b) next (even_right b) (λ s l o h some. flow_law b g s l o h)
        (λ s l o h some. next_law s l) (λ l o h some. wide_law l h) 32 none_seen t o (omega arith) in
        rw (odd_law b 32 none_seen t, pass, flows_pass none_seen fs, kept fs few, n)
        (rules_turn (ascends flow_key 0 fs) (every (good_flow plan) fs) (leb (mp_count fs) 32) (distinct (map (λ f. f.number) fs))
        (same (places 32 1 fs) told) (same (table 1024 flow_row fs) t))
