-- A call of the C entries on a valid image: what is seen of it is the answer of the world that the image shows, and the image after it
-- is valid and shows the world after it.
use mathlib.Core.Path.{◌≡◌, refl}
use mathlib.Core.Bool.{true, cond}
use mathlib.Core.List.{List}
use Prim.Native.Nat.{ℕ, ◌*◌, ◌≤◌, ◌^◌}
use Rattle.state.specs.State.{State}
use Rattle.state.specs.Image.{image, state_of, ok_image}
use Rattle.state.proofs.ImageLaws.{ok_valid}
use Rattle.calls.specs.Calls.{Call, enter, keeps_image, refusal, call as called, handed}
use Rattle.calls.proofs.CallValid.{FairCall, call_valid}
use Rattle.tmavolice.specs.Outcome.{Outcome}
use Rattle.demands.specs.World.{World}
use Rattle.demands.specs.Calls.{call}
use Rattle.demands.specs.Shown.{world_of}
use Rattle.demands.specs.Runs.{Seen, seen, Typed}
use Rattle.demands.proofs.Shows.{Shows, Alike}
use Rattle.demands.proofs.CallShown.{sent, call_alike}
use Rattle.demands.proofs.Entered.{typed_fair, sent_keeps, left_ok, left_is, seen_same}

-- A state shows its world.
pub state_shows : (s : State) → Shows s (world_of s)
unfolding world_of
state_shows s = record { plan_same = refl; clock_same = refl; machines = λ port set source small low. refl }

module _ (keys : ℕ) (big : 33 * 2 ^ 48 ≤ keys) where
  pub record EntryShown (w : World) (c : Call) (x : Seen) (left : List ℕ) : Type 0 where
    pub ok : ok_image left ≡ true
    pub shows : Shows (state_of left) (call keys w c).world
    pub told : x ≡ seen c (call keys w c)

  pub entry_shown : (l : List ℕ) {left : List ℕ} (c : Call) (x : Seen) → Outcome (enter l c) x.number left x.out → ok_image l ≡ true
      → Typed c
      → (w : World)
      → Shows (state_of l) w
      → EntryShown w c x left
  unfolding sent called refusal handed
  entry_shown l {left = left} c x o good t w k =
      let s : State = state_of l in
      let fair : FairCall c = typed_fair c t in
      let a : Alike (sent s c) (call keys w c) = call_alike keys big s w (ok_valid l good) k c fair in
      let after : _ = left_ok l good (sent s c) (sent_keeps l good c) (call_valid s c fair (ok_valid l good)) in
      let e : left ≡ cond (keeps_image (sent s c).answer) l (image (sent s c).state) = left_is l good c o in
      record { ok = rw e after.0; shows = rw (e, after.1) a.shown; told = seen_same l good c o a }
