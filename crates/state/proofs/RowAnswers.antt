-- What a row says of an MP, and the list of the allowed flows of a flow.
use mathlib.Core.Path.{◌≡◌, refl, sym}
use mathlib.Core.Bool.{true, false}
use mathlib.Core.List.{List, map}
use Prim.Native.Nat.{ℕ, ◌+◌, ◌-◌, ◌<◌, ◌≤◌}
use native.Mathlib.Nat.{add_assoc, min-le_left, le_trans}
use native.Mathlib.Omega.{arith}
use lib.Dec.{eqb}
use lib.ListN.{length, get_or, take, drop, length-take, get_or-map, get_or-eq_default}
use lib.Seq.{get_or-drop, get_or-take}
use Rattle.std.specs.Prelude.{Option, None, Some, is_some, unwrap_or, option_map}
use Rattle.octets.proofs.ListLaws.{eqb_turn, all_alike}
use Rattle.plan.specs.Plan.{no_flow, mp_at}
use Rattle.state.specs.Image.{flow_in}
use Rattle.state.specs.Rows.{flow_of_row}

none_above : (n : ℕ) (l : List ℕ) (level : ℕ) → n ≤ level → get_or (take n l) level 0 ≡ 0
none_above n l level h = get_or-eq_default (take n l) 0 (rw length-take (le_trans (min-le_left n (length l)) h))

-- the number of the flow of a row, and 0 where there is none
pub number_or_none : (b : List ℕ) (row : Option ℕ)
    → unwrap_or (option_map (λ at. (flow_in (drop at b)).number) row) 0 ≡ (flow_of_row row b).number
unfolding flow_of_row no_flow
number_or_none b None = refl
number_or_none b (Some at) = refl

-- the number that is read, if there is a row
module _ (b : List ℕ) where
  pub number_none : (row : Option ℕ) → None ≡ option_map (λ at. (flow_in (drop at b)).number) row → row ≡ None
  number_none None e = refl
  number_none (Some at) e = absurd (cc)

  pub number_some : (row : Option ℕ) {number : ℕ} → Some number ≡ option_map (λ at. (flow_in (drop at b)).number) row
      → (number ≡ (flow_of_row row b).number) × (is_some row ≡ true)
  unfolding flow_of_row
  number_some None e = absurd (cc)
  number_some (Some at) e = (cc, refl)

-- the MP at a level of the flow of a row
module _ (b : List ℕ) (level : ℕ) where
  pub mp_none : 0 ≡ mp_at level (flow_of_row None b)
  unfolding mp_at flow_of_row no_flow
  mp_none = sym (all_alike 0 8 level)

  module _ (at : ℕ) where
    pub mp_above : 7 < level → 0 ≡ mp_at level (flow_of_row (Some at) b)
    unfolding mp_at flow_of_row flow_in
    mp_above h = sym (none_above 8 (drop 8 (drop at b)) level h)

    pub mp_here : {w : ℕ} → level ≤ 7 → w ≡ level → get_or b (at + 8 + w) 0 ≡ mp_at level (flow_of_row (Some at) b)
    unfolding mp_at flow_of_row flow_in
    mp_here h same =
        let f : level < 8 = omega arith in
        simp (same, get_or-take 8 (drop 8 (drop at b)) level 0 f, get_or-drop, add_assoc)

pub allowed_at_lem : (b : List ℕ) (flow : ℕ) → 1 ≤ flow → flow ≤ 32
    → eqb (get_or b (31 + flow) 0) 1 ≡ get_or (map (eqb 1) (take 32 (drop 32 b))) (flow - 1) false
allowed_at_lem b flow h k =
    let e : 32 + (flow - 1) ≡ 31 + flow = omega arith in
    rw (
      get_or-map (eqb 1) (take 32 (drop 32 b)) (flow - 1) 0,
      get_or-take 32 (drop 32 b) (flow - 1) 0 (omega arith),
      get_or-drop,
      e,
    )
    (eqb_turn (get_or b (31 + flow) 0) 1)
