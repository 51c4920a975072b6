-- The pass over the sessions' rows: each session read is tested as the definition has it, through the place of its flow.
use mathlib.Core.Path.{◌≡◌, refl, sym}
use mathlib.Core.Bool.{Bool, true, false, ◌&&◌, and-true}
use mathlib.Core.List.{List}
use Prim.Native.Nat.{ℕ, ◌+◌, ◌^◌, ◌<◌, ◌≤◌}
use native.Mathlib.Omega.{arith}
use lib.Dec.{eqb, ltb}
use lib.ListN.{length, get_or, take, drop}
use borrow.Author.Tests.{lt-ltb}
use Rattle.octets.specs.Octets.{low_number, same}
use Rattle.octets.specs.Lists.{within, every, ascends}
use Rattle.octets.proofs.LowLaws.{low_fits}
use Rattle.octets.proofs.ListLaws.{within_low, within_high}
use Rattle.octets.proofs.Laws.{Octets}
use Rattle.machine.specs.declared.Session.{Session}
use Rattle.machine.specs.Machine.{key_of}
use Rattle.plan.specs.Plan.{Plan, flow_numbered, in_plan}
use Rattle.state.specs.State.{is_allowed, good_session}
use Rattle.state.specs.Image.{session_row, table, rows_in, places, session_in, state_of}
use Rattle.state.proofs.RowAnswers.{allowed_at_lem}
use Rattle.state.proofs.RowLaws.{session_exact, session_key_in, session_length}
use Rattle.state.proofs.PlaceLaws.{numbered_flow, numbered_none, numbered_within}
use Rattle.state_tables.proofs.RowsLaw.{rows_law, keys_law}
use Rattle.state_valid.specs.Sessions.{good_in, session_fits, ok_sessions}

source_fits : (l : List ℕ) → Octets l → (session_in l).source < 2 ^ 48
unfolding session_in
source_fits l o = low_fits 6 l o

module _ (b : List ℕ)
    (right : same (places 32 1 (state_of b).plan.flows) (take 32 (drop 64 b)) ≡ true)
    (known : every (λ f. within 1 32 f.number) (state_of b).plan.flows ≡ true) where
  abbrev plan : Plan
  plan = (state_of b).plan

  allowed_octet : (n : ℕ) → 1 ≤ n → n ≤ 32 → eqb (get_or b (31 + n) 0) 1 ≡ is_allowed n (state_of b)
  unfolding is_allowed state_of
  allowed_octet n low high = allowed_at_lem b n low high

  pub good_in_lem : (x : Session) → x.source < 2 ^ 48 → good_in b x ≡ good_session (state_of b) x
  unfolding good_in good_session
  good_in_lem x small = go (in_plan (flow_numbered x.flow plan).number) refl
    where
      go : (t : Bool) → in_plan (flow_numbered x.flow plan).number ≡ t → good_in b x ≡ good_session (state_of b) x
      go true e =
          let w : within 1 32 x.flow ≡ true = numbered_within b right known x.flow e in
          rw (
            numbered_flow b right known x.flow,
            numbered_none b right known x.flow,
            allowed_octet x.flow (within_low 1 32 x.flow w) (within_high 1 32 x.flow w),
            lt-ltb x.source (2 ^ 48) small,
            e,
          )
      go false e = simp (numbered_none b right known x.flow, e)

  abbrev good : Session → Bool
  good x = good_session (state_of b) x

  abbrev fits : ℕ → Session → Bool
  fits last x = ltb last (key_of x) && good x

  fit : (last : ℕ) (l : List ℕ) → Octets l → 32 ≤ length l → (low_number 8 l ≡ 0 → ⊥)
      → session_fits b last l ≡ (fits last (session_in l) && same (session_row (session_in l)) (take 32 l))
  unfolding session_fits
  fit last l o h some = rw (session_exact l o h, session_key_in l, good_in_lem (session_in l) (source_fits l o))

  pub sessions_law : (t : List ℕ) → Octets t → length t ≡ 2560
      → let xs = rows_in 16 32 session_in t in
      ok_sessions b t ≡ ((ascends key_of 0 xs && every (good_session (state_of b)) xs) && same (table 2560 session_row xs) t)
  unfolding ok_sessions
  sessions_law t o h =
      let pass : _
      = rows_law session_in session_row 32 (session_fits b) (λ last l. low_number 8 l) fits (λ last x. key_of x) (λ last. true) fit
      (λ last l o h some. sym (session_key_in l)) (λ l o h some. session_length (session_in l)) 16 0 t o (omega arith) in
      rw (pass, keys_law key_of good (λ last. true) 0 (rows_in 16 32 session_in t), and-true, h)
