-- A row that is found lies in its table, and that of a session has its key.
use mathlib.Core.Path.{◌≡◌, refl}
use mathlib.Core.Bool.{Bool, true, false, cond, not}
use mathlib.Core.List.{List}
use Prim.Native.Nat.{ℕ, ◌+◌, ◌≤◌}
use native.Mathlib.Omega.{arith}
use lib.Dec.{eqb}
use lib.ListN.{length, get_or, drop}
use borrow.Author.Tests.{eqb-true}
use Rattle.std.specs.Prelude.{Option, IfSome}
use Rattle.octets.specs.Octets.{low_number}
use Rattle.octets.specs.Lists.{within}
use Rattle.octets.proofs.Cases.{by_le}
use Rattle.codec.specs.declared.FrameSet.{FrameSet}
use Rattle.plan.specs.Plan.{set_key}
use Rattle.state.specs.Rows.{row_found, port_at, flow_at, session_at, owed_at, row_at_place, numbered_at}
use Rattle.state.proofs.FoundLaws.{found_passes, found_fits}
use Rattle.state.proofs.RowFound.{if_found}

module _ (b : List ℕ) {r : ℕ} where
  pub port_fits_lem : (number : ℕ) → r ≡ port_at number b → r + 16 ≤ 256
  unfolding port_at
  port_fits_lem number e = rw e (found_fits (λ l. eqb (get_or l 7 0) number) 16 7 128 (drop 128 b))

  pub flow_fits_lem : (port : ℕ) (set : FrameSet) → r ≡ flow_at port set b → r + 32 ≤ 1280
  unfolding flow_at
  flow_fits_lem port set e =
      rw e (found_fits (λ l. eqb (low_number 4 (drop 4 l)) (set_key port set.kind set.vid)) 32 31 256 (drop 256 b))

  pub session_fits_lem : (key : ℕ) → r ≡ session_at key b → r + 32 ≤ 2048
  unfolding session_at
  session_fits_lem key e = rw e (found_fits (λ l. eqb (low_number 8 l) key) 32 15 1536 (drop 1536 b))

  pub session_keyed : (key : ℕ) → r ≡ session_at key b → (r ≡ 0 → ⊥) → low_number 8 (drop r b) ≡ key
  unfolding session_at
  session_keyed key e z =
      rw e (eqb-true _ key (found_passes (λ l. eqb (low_number 8 l) key) 32 16 1536 b (rw e at z)))

  pub owed_fits : r ≡ owed_at b → r + 32 ≤ 2048
  unfolding owed_at
  owed_fits e = rw e (found_fits (λ l. not (eqb (get_or l 12 0) 0)) 32 15 1536 (drop 1536 b))

place_fits_lem : (place : ℕ) → row_at_place place + 32 ≤ 1280
unfolding row_at_place within
place_fits_lem place =
    by_le 1 place
    (λ e low. by_le place 32 (λ f high. simp (e, f) (omega arith)) (λ f high. simp (e, f) (omega arith)))
    (λ e low. simp e (omega arith))

pub numbered_fits : (b : List ℕ) {r : ℕ} (flow : ℕ) → r ≡ numbered_at flow b → r + 32 ≤ 1280
unfolding numbered_at
numbered_fits b flow e = rw e (go (within 1 32 flow))
  where
    go : (t : Bool) → cond t (row_at_place (get_or b (63 + flow) 0)) 0 + 32 ≤ 1280
    go true = place_fits_lem (get_or b (63 + flow) 0)
    go false = omega arith

-- The row that the code finds, if there is one, lies in the octets.
module _ (b : List ℕ) (long : length b ≡ 4096) {row : Option ℕ} where
  pub flow_inside : (port : ℕ) (set : FrameSet) → row ≡ row_found (flow_at port set b) → IfSome row (λ at. at + 32 ≤ length b)
  flow_inside port set e = if_found (λ at. at + 32 ≤ length b) e (omega (arith, flow_fits_lem b port set refl))

  pub session_inside : (key : ℕ) → row ≡ row_found (session_at key b) → IfSome row (λ at. at + 32 ≤ length b)
  session_inside key e = if_found (λ at. at + 32 ≤ length b) e (omega (arith, session_fits_lem b key refl))
