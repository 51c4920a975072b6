-- Down to the octets: the C entries turn a frame round exactly when the machine that the calls before it leave is active and has
-- its side.
use mathlib.Core.Path.{◌≡◌, sym, ap, ◌∙◌}
use mathlib.Core.Bool.{true, false}
use mathlib.Core.List.{List, [], ◌∷◌, ◌++◌}
use Prim.Native.Nat.{ℕ, ◌*◌, ◌≤◌, ◌^◌}
use native.Mathlib.Omega.{arith}
use lib.ListN.{length}
use Rattle.codec.specs.declared.FrameSet.{FrameSet}
use Rattle.codec.specs.FrameSet.{source}
use Rattle.plan.specs.Plan.{Plan}
use Rattle.plan.specs.PlanText.{planned, plan_in}
use Rattle.state.specs.Image.{state_of, ok_image}
use Rattle.calls.specs.declared.Answer.{Answer}
use Rattle.calls.specs.declared.Answer.TheVariants.{Refused, Forwarded, Dropped, Looped, Replied, RepliedForwarded}
use Rattle.calls.specs.declared.Answer.TheVariants.{Noticed, Done, Faulty}
use Rattle.calls.specs.Answer.{number_of}
use Rattle.calls.specs.Calls.{Call, make, frame}
use Rattle.calls.proofs.CodesSent.{low}
use Rattle.demands.specs.World.{World, fresh}
use Rattle.demands.specs.Calls.{refusal, call}
use Rattle.demands.specs.Runs.{Seen, seen, world_after, EntriesRun, AllTyped}
use Rattle.demands.specs.Data.{sets_at, in_set, IsData, facing, exempt, Turned, is_looped, says_loop}
use Rattle.demands.specs.Shown.{world_of}
use Rattle.demands.proofs.NotTurned.{never_turned}
use Rattle.demands.proofs.Turned.{turned_round, turned_only}
use Rattle.demands.proofs.LastCall.{entries_last, made_last}

number_says : (a : Answer) → says_loop (number_of a) ≡ is_looped a
unfolding says_loop number_of is_looped
number_says (Refused n) = rw (low 0 n 0 0 0 (omega arith))
number_says Forwarded = rw (low 1 0 0 0 0 (omega arith))
number_says Dropped = rw (low 2 0 0 0 0 (omega arith))
number_says (Looped n) = rw (low 3 0 0 0 n (omega arith))
number_says (Replied n) = rw (low 4 0 0 0 n (omega arith))
number_says (RepliedForwarded n) = rw (low 5 0 0 0 n (omega arith))
number_says (Noticed port side n) = rw (low 4 0 port side n (omega arith))
number_says Done = rw (low 6 0 0 0 0 (omega arith))
number_says (Faulty line reason) = rw (low 7 reason 0 0 line (omega arith))

-- a frame of which is seen what the world w answers
module _ (keys : ℕ) (w : World) (port side : ℕ) (f out : List ℕ) (x : Seen)
    (told : x ≡ seen (frame port side f out) (call keys w (frame port side f out))) where
  number_is : says_loop x.number ≡ is_looped (call keys w (frame port side f out)).answer
  unfolding seen
  number_is = ap (λ (y : Seen). says_loop y.number) told ∙ number_says (call keys w (frame port side f out)).answer

  told_turned : {set : FrameSet} {taglen : ℕ} → refusal keys w (frame port side f out) ≡ 0 → IsData w port side set taglen f
      → exempt taglen f (w.machine port set (source f)) ≡ false
      → says_loop x.number ≡ facing side (w.machine port set (source f))
  told_turned free d e = number_is ∙ turned_round keys w port side f out free d e

  told_never : in_set w port (sets_at w port f) ≡ false → says_loop x.number ≡ false
  told_never gone = number_is ∙ never_turned keys w port side f out gone

  told_only : says_loop x.number ≡ true → (refusal keys w (frame port side f out) ≡ 0) × Turned w port side f
  told_only h = turned_only keys w port side f out (sym number_is ∙ h)

-- A run of the C entries on a valid state's image: any calls `cs`, and a frame.
module _ (keys : ℕ) (big : 33 * 2 ^ 48 ≤ keys) {l : List ℕ} (ok : ok_image l ≡ true) (cs : List Call) (port side : ℕ)
    (f out : List ℕ) (xs : List Seen) (x : Seen) {ls : List (List ℕ)} (typed : AllTyped (cs ++ (frame port side f out ∷ [])))
    (run : EntriesRun l (cs ++ (frame port side f out ∷ [])) (xs ++ (x ∷ [])) ls) where
  -- the world after the calls before it
  abbrev w : World
  w = world_after keys (world_of (state_of l)) cs

  told : x ≡ seen (frame port side f out) (call keys w (frame port side f out))
  told = entries_last keys big cs (frame port side f out) xs x ok typed run

  pub entries_turned : {set : FrameSet} {taglen : ℕ} → refusal keys w (frame port side f out) ≡ 0 → IsData w port side set taglen f
      → exempt taglen f (w.machine port set (source f)) ≡ false
      → says_loop x.number ≡ facing side (w.machine port set (source f))
  entries_turned = told_turned keys w port side f out x told

  pub entries_never_turned : in_set w port (sets_at w port f) ≡ false → says_loop x.number ≡ false
  entries_never_turned = told_never keys w port side f out x told

  pub entries_turned_only : says_loop x.number ≡ true → (refusal keys w (frame port side f out) ≡ 0) × Turned w port side f
  entries_turned_only = told_only keys w port side f out x told

-- So it is of a run that begins with `make`, on a plan's text.
module _ (keys : ℕ) (big : 33 * 2 ^ 48 ≤ keys) {l text : List ℕ} {clock : ℕ} {plan : Plan} (long : length l ≡ 4096)
    (reads : plan_in text ≡ planned plan) (cs : List Call) (port side : ℕ) (f out : List ℕ) (xs : List Seen) (x : Seen)
    {ls : List (List ℕ)} (typed : AllTyped (make text clock ∷ (cs ++ (frame port side f out ∷ []))))
    (run : EntriesRun l (make text clock ∷ (cs ++ (frame port side f out ∷ []))) (xs ++ (x ∷ [])) ls) where
  abbrev v : World
  v = world_after keys (fresh plan clock) cs

  seen_made : x ≡ seen (frame port side f out) (call keys v (frame port side f out))
  seen_made = made_last keys big cs (frame port side f out) xs x long reads typed run

  pub made_turned : {set : FrameSet} {taglen : ℕ} → refusal keys v (frame port side f out) ≡ 0 → IsData v port side set taglen f
      → exempt taglen f (v.machine port set (source f)) ≡ false
      → says_loop x.number ≡ facing side (v.machine port set (source f))
  made_turned = told_turned keys v port side f out x seen_made

  pub made_never_turned : in_set v port (sets_at v port f) ≡ false → says_loop x.number ≡ false
  made_never_turned = told_never keys v port side f out x seen_made

  pub made_turned_only : says_loop x.number ≡ true → (refusal keys v (frame port side f out) ≡ 0) × Turned v port side f
  made_turned_only = told_only keys v port side f out x seen_made
