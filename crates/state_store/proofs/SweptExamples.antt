-- What a sweep writes, by computation: a row keeps its key, whatever session the step answers; the others behind it stay.
use mathlib.Core.Path.{◌≡◌, refl}
use mathlib.Core.List.{[], ◌∷◌, ◌++◌}
use Prim.Native.Nat.{ℕ, ◌^◌, ◌<◌}
use native.Mathlib.Omega.{arith}
use lib.ListN.{drop}
use Rattle.octets.specs.Octets.{low_octets}
use Rattle.machine.specs.declared.Session.{Session}
use Rattle.machine.specs.Machine.{key, key_of}
use Rattle.state.specs.Image.{zeros, session_row}
use Rattle.state_store.specs.StoredRows.{InTypes, Stepped, rests_written}

abbrev session : ℕ → ℕ → Session
session flow ms = record { flow = flow; source = 0xAA; level = 3; side = 1; taglen = 0; tag = 0; left = ms; notice = 0 }

-- three rows, and what a step answers of the sessions of the first two: 7 ms left, and of the second that it is of flow 9
keys_stay : rests_written (session 5 7 ∷ session 9 7 ∷ [])
    (session_row (session 5 1000) ++ session_row (session 6 1000) ++ session_row (session 7 1000))
    ≡ session_row (session 5 7) ++ (low_octets 8 (key 6 0xAA) ++ drop 8 (session_row (session 9 7))) ++ session_row (session 7 1000)
unfolding rests_written session_row low_octets key_of key zeros
keys_stay = refl

-- one answer for each session, no more and no fewer
answers_are_paired : (says : Session → Session → Type 0) (x y : Session) → InTypes y → says x y → Stepped says (x ∷ []) (y ∷ [])
answers_are_paired says x y t s = ((t, s), tt)

answer_too_many : (says : Session → Session → Type 0) (x y z : Session) → Stepped says (x ∷ []) (y ∷ z ∷ []) → ⊥
answer_too_many says x y z s = s.1

answer_too_few : (says : Session → Session → Type 0) (x y z : Session) → Stepped says (x ∷ y ∷ []) (z ∷ []) → ⊥
answer_too_few says x y z s = s.1

-- none has more time left than a row holds
answer_too_long : (says : Session → Session → Type 0) (x : Session) → Stepped says (x ∷ []) (session 5 (2 ^ 32) ∷ []) → ⊥
answer_too_long says x s = let long : 2 ^ 32 < 2 ^ 32 = s.0.0.left_in in omega (arith, long)
