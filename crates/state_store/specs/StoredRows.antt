-- How the code rewrites the lent octets. The laws in proofs/ say what each of these makes of a state's image.
use Rattle.std.specs.Prelude.{◌≡◌, List, [], ◌∷◌, ◌++◌, Option, None, Some, cond, ℕ, zero, suc, ◌+◌, ◌^◌, ◌<◌, take, drop, eqb, ltb}
use Rattle.octets.specs.Octets.{low_number, splice, moved_up, moved_down}
use Rattle.machine.specs.declared.Session.{Session}
use Rattle.machine.specs.Machine.{key_of}
use Rattle.state.specs.Image.{zeros, session_row, session_in, state_of}
use Rattle.state.specs.Rows.{row_found, session_at}

-- at most n rows at the head of l, each session put through f
unfoldable pub map_rows : (Session → Session) → ℕ → List ℕ → List ℕ
map_rows f zero l = l
map_rows f (suc n) l = cond (eqb (low_number 8 l) 0) l (session_row (f (session_in l)) ++ map_rows f n (drop 32 l))

-- b with every session put through f
unfoldable pub sessions_mapped : (Session → Session) → List ℕ → List ℕ
sessions_mapped f b = take 1536 b ++ map_rows f 16 (drop 1536 b)

-- a session whose numbers fit their types in the code
pub record InTypes (x : Session) : Type 0 where
  pub flow_in : x.flow < 2 ^ 16
  pub source_in : x.source < 2 ^ 64
  pub level_in : x.level < 2 ^ 8
  pub side_in : x.side < 2 ^ 8
  pub taglen_in : x.taglen < 2 ^ 8
  pub tag_in : x.tag < 2 ^ 64
  pub left_in : x.left < 2 ^ 32
  pub notice_in : x.notice < 2 ^ 8

-- what a step says of some sessions, in their order: one session for each
abbrev pub Stepped : (Session → Session → Type 0) → List Session → List Session → Type 0
Stepped says [] [] = Unit {0}
Stepped says [] (y ∷ ys) = ⊥
Stepped says (x ∷ xs) [] = ⊥
Stepped says (x ∷ xs) (y ∷ ys) = (InTypes y × says x y) × Stepped says xs ys

-- the rows at the head of l, what is behind the key of each written over with one of these sessions
unfoldable pub rests_written : List Session → List ℕ → List ℕ
rests_written [] l = l
rests_written (y ∷ ys) l = take 8 l ++ drop 8 (session_row y) ++ rests_written ys (drop 32 l)

-- b put through a step, whatever that says of each session: what it answered is written, and each row keeps its key
pub record Swept (says : Session → Session → Type 0) (before after : List ℕ) : Type 0 where
  pub answers : List Session
  pub stepped : Stepped says (state_of before).sessions answers
  pub written : after ≡ take 1536 before ++ rests_written answers (drop 1536 before)

-- where a key belongs, of n rows, the first of which stands at `at`: the first row that is empty or has no lower key
unfoldable pub place_row : ℕ → ℕ → ℕ → List ℕ → ℕ
place_row zero key at l = at
place_row (suc n) key at l =
    cond (eqb (low_number 8 l) 0) at (cond (ltb (low_number 8 l) key) (place_row n key (at + 32) (drop 32 l)) at)

unfoldable pub place_of : ℕ → List ℕ → ℕ
place_of key b = place_row 16 key 1536 (drop 1536 b)

-- b with a session in place of the row at `at`
unfoldable pub row_put : ℕ → Session → List ℕ → List ℕ
row_put at x b = splice at (session_row x) b

-- b with a session put in at `at`, the rows from there on one place further; the sixteenth row is lost
unfoldable pub row_inserted : ℕ → Session → List ℕ → List ℕ
row_inserted at x b = row_put at x (moved_up 32 at 2016 b)

-- b with a session put in where its key belongs; without a sixteenth place to put it, b
unfoldable pub session_inserted : Session → List ℕ → List ℕ
session_inserted x b = let at = place_of (key_of x) b in cond (ltb at 2048) (row_inserted at x b) b

-- b with a session in the row that has its key, or put in where its key belongs
unfoldable pub session_put : Session → List ℕ → List ℕ
session_put x b = let row = session_at (key_of x) b in cond (eqb row 0) (session_inserted x b) (row_put row x b)

-- b without this row, if there is one, the rows after it one place nearer
unfoldable pub row_removed : Option ℕ → List ℕ → List ℕ
row_removed None b = b
row_removed (Some row) b = splice 2016 (zeros 32) (moved_down 32 (row + 32) 2048 b)

-- b without the row that has this key
unfoldable pub session_removed : ℕ → List ℕ → List ℕ
session_removed key b = row_removed (row_found (session_at key b)) b

-- b without any session
unfoldable pub sessions_cleared : List ℕ → List ℕ
sessions_cleared b = splice 1536 (zeros 512) b
