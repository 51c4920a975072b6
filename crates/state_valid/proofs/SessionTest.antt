-- The row of a flow that is found by its number.
use mathlib.Core.Path.{◌≡◌}
use mathlib.Core.Bool.{Bool}
use mathlib.Core.List.{List}
use Prim.Native.Nat.{ℕ, ◌+◌, ◌≤◌}
use lib.ListN.{get_or, drop}
use lib.Seq.{get_or-drop, drop-drop}
use Rattle.std.specs.Prelude.{Some}
use Rattle.octets.specs.Octets.{low_number}
use Rattle.octets.specs.Lists.{within}
use Rattle.octets.proofs.Cases.{by_le}
use Rattle.codec.specs.FrameSet.{set_of, tag_fits}
use Rattle.state.specs.Image.{flow_in}
use Rattle.state.specs.Rows.{numbered_at, flow_of_row}

pub numbered_flow : (b : List ℕ) {flow row : ℕ} → row ≡ numbered_at flow b → (row ≡ 0 → ⊥) → flow ≤ 32
unfolding numbered_at within
numbered_flow b {flow} e n =
    by_le 1 flow
    (λ f h. by_le flow 32 (λ g k. k) (λ g k. absurd (n (rw (f, g) at e))))
    (λ f h. absurd (n (rw f at e)))

-- a tag fits the row's flow, if it fits the kind and the VID that were read
pub row_tag : (b : List ℕ) (row count tag : ℕ) {vid : ℕ} {fits : Bool} → vid ≡ low_number 2 (drop (row + 4) b)
    → fits ≡ tag_fits (set_of (get_or b (row + 6) 0) vid) count tag
    → fits ≡ tag_fits (set_of (flow_of_row (Some row) b).kind (flow_of_row (Some row) b).vid) count tag
unfolding flow_of_row flow_in
row_tag b row count tag v e = rw (get_or-drop, drop-drop, ← v) e
