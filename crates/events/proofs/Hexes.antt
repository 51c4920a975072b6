-- Laws of octets in hex: how long they are, and a turn of the loop that writes them.
use mathlib.Core.Path.{◌≡◌, refl}
use mathlib.Core.List.{List, [], ◌∷◌, ◌++◌}
use Prim.Native.Nat.{ℕ, ◌+◌, ◌*◌, ◌/◌, ◌%◌, ◌<◌, ◌≤◌}
use native.Mathlib.Numerals.{add-one}
use native.Mathlib.Omega.{arith}
use lib.ListN.{length, take, get_or, set}
use lib.Seq.{take-suc}
use Rattle.plan.specs.WrittenPlan.{hex_digit}
use Rattle.events.specs.AnswerLine.{hexed}
use Rattle.events.specs.Read.{Put}
use Rattle.events.proofs.Puts.{put_more, put_as}

-- two digits an octet
pub hexed_length : (l : List ℕ) → length (hexed l) ≡ 2 * length l
unfolding hexed
hexed_length [] = refl
hexed_length (x ∷ l) = rw (hexed_length l) (omega arith)

-- an octet behind others
hexed_snoc : (l : List ℕ) (x : ℕ) → hexed (l ++ (x ∷ [])) ≡ hexed l ++ (hex_digit (x / 16) ∷ []) ++ (hex_digit (x % 16) ∷ [])
unfolding hexed
hexed_snoc [] x = refl
hexed_snoc (y ∷ l) x = rw (hexed_snoc l x)

-- one octet more of those that are written: a turn of the loop, with its two stores
pub hex_turn : (s : List ℕ) (i : ℕ) {d out : List ℕ} {a b : ℕ} → Put (hexed (take i s)) 0 (2 * i) d out → i < length s
    → 2 * length s ≤ length d
    → a ≡ hex_digit (get_or s i 0 / 16) → b ≡ hex_digit (get_or s i 0 % 16)
    → Put (hexed (take (i + 1) s)) 0 (2 * (i + 1)) d (set (set out (2 * i) a) (2 * i + 1) b)
hex_turn s i {d} {out} {a} {b} p h r ea eb =
    let two : Put (hexed (take i s) ++ (a ∷ []) ++ (b ∷ [])) 0 (2 * i + 1 + 1) d (set (set out (2 * i) a) (2 * i + 1) b)
    = put_more b (put_more a p (omega arith)) (omega arith) in
    put_as two (rw (add-one, take-suc s i 0, hexed_snoc, ea, eb)) (omega arith)
