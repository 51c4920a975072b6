-- Any calls have a run of the C entries on any octets; and a run in two parts.
use mathlib.Core.Path.{◌≡◌, refl, ap}
use mathlib.Core.List.{List, [], ◌∷◌, ◌++◌}
use Prim.Native.Nat.{ℕ}
use Rattle.calls.specs.Calls.{Call, enter}
use Rattle.demands.specs.Runs.{Seen, EntriesRun, ended, entered, octets_after}

-- what the promises say of calls in turn
pub seen_by : List ℕ → List Call → List Seen
seen_by l [] = []
seen_by l (c ∷ cs) = record { number = (enter l c).number; out = (enter l c).out } ∷ seen_by (enter l c).image cs

pub left_by : List ℕ → List Call → List (List ℕ)
left_by l [] = []
left_by l (c ∷ cs) = (enter l c).image ∷ left_by (enter l c).image cs

pub every_run : (l : List ℕ) (cs : List Call) → EntriesRun l cs (seen_by l cs) (left_by l cs)
unfolding seen_by left_by
every_run l [] = ended
every_run l (c ∷ cs) = entered (record { answered = refl; stored = refl; written = refl }) (every_run (enter l c).image cs)

-- what comes after the first call
pub rest_run : {l left : List ℕ} {c : Call} {cs : List Call} {x : Seen} {xs : List Seen} {ls : List (List ℕ)}
    → EntriesRun l (c ∷ cs) (x ∷ xs) (left ∷ ls)
    → EntriesRun left cs xs ls
rest_run (entered o more) = more

-- A run of calls and then of others: any call of a run is the first of one on the image that the calls before it leave.
pub record RunParts (l : List ℕ) (cs ds : List Call) (xs : List Seen) (ls : List (List ℕ)) : Type 0 where
  pub seen_first : List Seen
  pub seen_then : List Seen
  pub left_first : List (List ℕ)
  pub left_then : List (List ℕ)
  pub first : EntriesRun l cs seen_first left_first
  pub then : EntriesRun (octets_after l left_first) ds seen_then left_then
  pub seen_whole : xs ≡ seen_first ++ seen_then
  pub left_whole : ls ≡ left_first ++ left_then

pub run_parts : {l : List ℕ} (cs ds : List Call) {xs : List Seen} {ls : List (List ℕ)} → EntriesRun l (cs ++ ds) xs ls
    → RunParts l cs ds xs ls
unfolding octets_after
run_parts [] ds {xs = xs} {ls = ls} run =
    record {
      seen_first = [];
      seen_then = xs;
      left_first = [];
      left_then = ls;
      first = ended;
      then = run;
      seen_whole = refl;
      left_whole = refl;
    }
run_parts (c ∷ cs) ds (entered {left = left} {x = x} o more) =
    let r : RunParts left cs ds _ _ = run_parts cs ds more in
    record {
      seen_first = x ∷ r.seen_first;
      seen_then = r.seen_then;
      left_first = left ∷ r.left_first;
      left_then = r.left_then;
      first = entered o r.first;
      then = r.then;
      seen_whole = ap (λ (ys : List Seen). x ∷ ys) r.seen_whole;
      left_whole = ap (λ (ks : List (List ℕ)). left ∷ ks) r.left_whole;
    }
