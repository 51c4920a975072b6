-- The row of a flow by its number: the place that the image has for it leads to the row that the flow is read from.
use mathlib.Core.Path.{◌≡◌, refl, sym, ap, ◌∙◌}
use mathlib.Core.Bool.{Bool, true, false, cond, not}
use mathlib.Core.List.{List, ◌++◌}
use Prim.Native.Nat.{ℕ, ◌+◌, ◌-◌, ◌*◌, ◌<◌, ◌≤◌}
use native.Mathlib.Omega.{arith}
use lib.Dec.{eqb}
use lib.ListN.{get_or, take, drop}
use lib.Seq.{get_or-drop, get_or-take, drop-drop, take_at}
use borrow.Author.Tests.{ne_eqb, le-leb, lt-leb}
use Rattle.octets.specs.Octets.{same}
use Rattle.octets.specs.Lists.{within, every}
use Rattle.octets.proofs.Same.{same_equal, same_self}
use Rattle.octets.proofs.Cases.{by_eq}
use Rattle.octets.proofs.ListLaws.{within_low, within_high}
use Rattle.plan.specs.Plan.{Plan, no_flow, flow_numbered, in_plan}
use Rattle.plan.proofs.Kept.{rules, good_numbers}
use Rattle.plan.proofs.Found.{flow_found, flow_passes}
use Rattle.state.specs.State.{State}
use Rattle.state.specs.Image.{behind_places, place_from, places, flow_in, state_of, ok_image}
use Rattle.state.specs.Rows.{row_found, row_at_place, numbered_at, flow_of_row}
use Rattle.state.proofs.Rules.{valid_parts}
use Rattle.state.proofs.TableLaws.{rows_few}
use Rattle.state.proofs.Sizes.{sized}
use Rattle.state.proofs.ImageParts.{places_length, ports_part, image_places}
use Rattle.state.proofs.ImageLaws.{ok_valid, image_state}
use Rattle.state.proofs.FlowPlaces.{place_bounds, place_in, place_at, at_place, place_flow, no_number}

module _ (b : List ℕ)
    (right : same (places 32 1 (state_of b).plan.flows) (take 32 (drop 64 b)) ≡ true)
    (known : every (λ f. within 1 32 f.number) (state_of b).plan.flows ≡ true)
    (n : ℕ) where
  abbrev plan : Plan
  plan = (state_of b).plan

  abbrev place : ℕ
  place = place_from n 1 plan.flows

  octet_place : within 1 32 n ≡ true → get_or b (63 + n) 0 ≡ place
  octet_place w =
      let low : 1 ≤ n = within_low 1 32 n w in
      let high : n ≤ 32 = within_high 1 32 n w in
      let i : n - 1 < 32 = omega arith in
      let e : 63 + n ≡ 64 + (n - 1) = omega arith in
      let d : 1 + (n - 1) ≡ n = omega arith in
      rw (e, ← get_or-drop 64 b (n - 1) 0, ← get_or-take 32 (drop 64 b) (n - 1) 0 i)
      (ap (λ (l : List ℕ). get_or l (n - 1) 0) (sym (same_equal (places 32 1 plan.flows) (take 32 (drop 64 b)) right))
      ∙ place_at 32 1 (n - 1) plan.flows i
      ∙ ap (λ (m : ℕ). place_from m 1 plan.flows) d)

  place_few : place ≤ 32
  unfolding state_of
  place_few =
      by_eq place 0
      (λ e none. omega arith)
      (λ e some. omega (arith, place_bounds n 1 plan.flows some, rows_few 32 32 flow_in (drop 256 b)))

  numbered_at_lem : within 1 32 n ≡ true → numbered_at n b ≡ cond (eqb place 0) 0 (224 + place * 32)
  unfolding numbered_at row_at_place within
  numbered_at_lem w =
      let most : place ≤ 32 = place_few in
      rw (octet_place w)
      (by_eq place 0
      (λ e none. simp (w, lt-leb 1 place (omega arith), e))
      (λ e some. simp (w, le-leb 1 place (omega arith), le-leb place 32 most, e)))

  numbered_not : within 1 32 n ≡ false → numbered_at n b ≡ 0
  unfolding numbered_at
  numbered_not w = rw w

  numbered_row : within 1 32 n ≡ true → flow_of_row (row_found (numbered_at n b)) b ≡ at_place place 1 (drop 256 b)
  unfolding flow_of_row at_place
  numbered_row w =
      rw (numbered_at_lem w)
      (by_eq place 0
      (λ e none. simp e)
      (λ e some.
      let at : 256 + (place - 1) * 32 ≡ 224 + place * 32 = omega arith in
      simp (e, ne_eqb (224 + place * 32) 0 (λ z. omega arith), drop-drop, at)))

  pub numbered_flow : flow_of_row (row_found (numbered_at n b)) b ≡ flow_numbered n plan
  unfolding flow_numbered state_of flow_of_row
  numbered_flow = go (within 1 32 n) refl
    where
      go : (t : Bool) → within 1 32 n ≡ t → flow_of_row (row_found (numbered_at n b)) b ≡ flow_numbered n plan
      go true w = numbered_row w ∙ place_flow n 32 1 (drop 256 b) (omega arith)
      go false w = rw (numbered_not w) (sym (no_number n plan.flows w known))

  pub numbered_none : eqb (numbered_at n b) 0 ≡ not (in_plan (flow_numbered n plan).number)
  unfolding flow_numbered in_plan no_flow
  numbered_none = go (within 1 32 n) refl
    where
      go : (t : Bool) → within 1 32 n ≡ t → eqb (numbered_at n b) 0 ≡ not (in_plan (flow_numbered n plan).number)
      go true w =
          rw (numbered_at_lem w, ← place_in n 1 plan.flows (within_low 1 32 n w) (omega arith))
          (by_eq place 0 (λ e none. simp e) (λ e some. simp (e, ne_eqb (224 + place * 32) 0 (λ z. omega arith))))
      go false w = rw (numbered_not w, no_number n plan.flows w known)

  pub numbered_within : in_plan (flow_numbered n plan).number ≡ true → within 1 32 n ≡ true
  numbered_within e = rw (flow_found plan n e) at (flow_passes plan (λ f. within 1 32 f.number) n known e)

-- ---- the octets of a valid state

module _ (b : List ℕ) (ok : ok_image b ≡ true) where
  pub ok_places : same (places 32 1 (state_of b).plan.flows) (take 32 (drop 64 b)) ≡ true
  ok_places =
      let s : State = state_of b in
      let ps : List ℕ = places 32 1 s.plan.flows in
      let rest : List ℕ = behind_places s ++ ports_part s in
      let e : drop 64 b ≡ ps ++ rest = rw (image_state b ok) at (image_places s (sized s (ok_valid b ok))) in
      rw (e, take_at ps rest 32 (places_length 32 1 s.plan.flows)) (same_self ps)

  pub ok_numbers : every (λ f. within 1 32 f.number) (state_of b).plan.flows ≡ true
  ok_numbers =
      let s : State = state_of b in
      good_numbers s.plan s.plan.flows (rules s.plan (valid_parts s (ok_valid b ok)).plan_kept).flows_good
