-- A run of the C entries on a valid image, by the worlds that its images show.
use mathlib.Core.Path.{◌≡◌, sym}
use mathlib.Core.Bool.{true}
use mathlib.Core.List.{List, ◌∷◌}
use Prim.Native.Nat.{ℕ, ◌*◌, ◌≤◌, ◌<◌, ◌^◌}
use Rattle.codec.specs.declared.FrameSet.{FrameSet}
use Rattle.codec.specs.FrameSet.{only}
use Rattle.plan.specs.Plan.{port_numbered}
use Rattle.state.specs.Image.{state_of, ok_image}
use Rattle.calls.specs.Calls.{Call}
use Rattle.calls.proofs.PlaceSets.{InPlace, in_place}
use Rattle.demands.specs.World.{World}
use Rattle.demands.specs.Shown.{world_of}
use Rattle.demands.specs.Runs.{Seen, EntriesRun, entered, Typed}
use Rattle.demands.specs.Data.{sets_at}
use Rattle.demands.proofs.Shows.{SmallSet, Shows}
use Rattle.demands.proofs.EntryShown.{state_shows, EntryShown, entry_shown}

-- the world that an image's octets show
abbrev pub world_in : List ℕ → World
world_in l = world_of (state_of l)

-- Any world that an image shows has its machines.
pub machine_shown : (l : List ℕ) (w : World) → Shows (state_of l) w → (p : ℕ) (s : FrameSet) (x : ℕ) → SmallSet s → x < 2 ^ 48
    → (world_in l).machine p s x ≡ w.machine p s x
unfolding world_of
machine_shown l w shows p s x small low = sym (shows.machines p s x small low)

-- The set of a frame is small.
pub small_set : (w : World) (port : ℕ) (f : List ℕ) (set : FrameSet) (taglen : ℕ) → sets_at w port f ≡ only set taglen → SmallSet set
unfolding sets_at
small_set w port f set taglen placed =
    let p : InPlace f set = in_place f (port_numbered port w.plan).kind set taglen placed in
    record { kind_small = p.kind_small; vid_small = p.vid_small }

-- The first call of a run, in the world that the image before it shows.
pub first_shown : (keys : ℕ) (big : 33 * 2 ^ 48 ≤ keys)
    {l left : List ℕ} {c : Call} {cs : List Call} {x : Seen} {xs : List Seen} {ls : List (List ℕ)}
    → EntriesRun l (c ∷ cs) (x ∷ xs) (left ∷ ls)
    → ok_image l ≡ true
    → Typed c
    → EntryShown keys big (world_in l) c x left
first_shown keys big {l = l} (entered {c = c} {x = x} o more) good t =
    entry_shown keys big l c x o good t (world_in l) (state_shows (state_of l))
