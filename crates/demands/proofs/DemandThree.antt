-- Demand 3: requests rewritten as a later protocol version would send them change nothing but the copies of unknown TLVs, their length
-- and their flag. After each call the image has the same octets: nothing of a request's version, or of what it added, is kept.
use mathlib.Core.Path.{◌≡◌, refl, sym, ◌∙◌}
use mathlib.Core.Bool.{true}
use mathlib.Core.List.{List, ◌∷◌}
use Prim.Native.Nat.{ℕ, ◌*◌, ◌≤◌, ◌^◌}
use lib.ListN.{length}
use Rattle.plan.specs.Plan.{Plan}
use Rattle.plan.specs.PlanText.{planned, plan_in}
use Rattle.state.specs.Image.{state_of, ok_image}
use Rattle.calls.specs.Calls.{Call, make, frame}
use Rattle.demands.specs.World.{World, fresh}
use Rattle.demands.specs.Runs.{Seen, EntriesRun, ended, entered, AllTyped}
use Rattle.demands.specs.Shown.{world_of}
use Rattle.demands.specs.LaterRuns.{Became, left_alone, Rewritten, equal, AllMatch, next}
use Rattle.demands.specs.LaterRuns.{ended as run-ended, same as run-same, later as run-later}
use Rattle.demands.proofs.Shows.{Shows}
use Rattle.demands.proofs.ShownOnce.{one_octets}
use Rattle.demands.proofs.EntryShown.{state_shows, entry_shown}
use Rattle.demands.proofs.RunShown.{run_shown}
use Rattle.demands.proofs.DemandTwo.{make_shown}
use Rattle.demands.proofs.LaterWorlds.{call_later, runs_match}

module _ (keys : ℕ) (big : 33 * 2 ^ 48 ≤ keys) where
  -- the images of the two runs, call by call
  images_same : {w : World} {l : List ℕ} {cs ds : List Call} {fs : List Became} {xs ys : List Seen} {ls ks : List (List ℕ)}
      → Rewritten keys w cs ds fs
      → AllTyped cs
      → AllTyped ds
      → ok_image l ≡ true
      → Shows (state_of l) w
      → EntriesRun l cs xs ls
      → EntriesRun l ds ys ks
      → ks ≡ ls
  images_same run-ended t u ok shows ended ended = refl
  images_same {w = w} {l = l} (run-same {c = c} more) t u ok shows (entered {x = x} o run) (entered p other) =
      let a : _ = entry_shown keys big l c x o ok t.0 w shows in
      let e : _ = p.stored ∙ sym o.stored in
      let rest : _ = images_same more t.1 u.1 a.ok a.shows run (rw e at other) in
      rw (e, rest)
  images_same {w = w} {l = l} (run-later {port = port} {side = side} {set = set} {taglen = taglen} {f = f} {g = g} {out = out} asks r len more)
      t u ok shows (entered {left = left} {x = x} o run) (entered {left = right} {x = y} p other) =
      let a : _ = entry_shown keys big l (frame port side f out) x o ok t.0 w shows in
      let b : _ = entry_shown keys big l (frame port side g out) y p ok u.0 w shows in
      let one : _ = (call_later keys w port side set taglen f g out asks r len).world_same in
      let e : right ≡ left = one_octets right left b.ok a.ok (rw one at b.shows) a.shows in
      let rest : _ = images_same more t.1 u.1 a.ok a.shows run (rw e at other) in
      rw (e, rest)

  -- any world that a valid state's image shows
  shown_three : {w : World} {l : List ℕ} {cs ds : List Call} {fs : List Became} {xs ys : List Seen} {ls ks : List (List ℕ)}
      → ok_image l ≡ true
      → Shows (state_of l) w
      → Rewritten keys w cs ds fs
      → AllTyped cs
      → AllTyped ds
      → EntriesRun l cs xs ls
      → EntriesRun l ds ys ks
      → AllMatch cs fs xs ys × (ks ≡ ls)
  shown_three {w = w} ok shows r t u run later-run = (
    rw ((run_shown keys big run ok t w shows).seen_are, (run_shown keys big later-run ok u w shows).seen_are) (runs_match keys r),
    images_same r t u ok shows run later-run,
  )

  -- Of the C entries, on any valid state's image.
  pub demand_three : {l : List ℕ} {cs ds : List Call} {fs : List Became} {xs ys : List Seen} {ls ks : List (List ℕ)} → ok_image l ≡ true
      → Rewritten keys (world_of (state_of l)) cs ds fs
      → AllTyped cs
      → AllTyped ds
      → EntriesRun l cs xs ls
      → EntriesRun l ds ys ks
      → AllMatch cs fs xs ys × (ks ≡ ls)
  demand_three {l = l} ok = shown_three ok (state_shows (state_of l))

  -- So after a text that reads as a plan, on any octets before it.
  pub demand_three_made : {l k text : List ℕ} {clock : ℕ} {plan : Plan} {cs ds : List Call} {fs : List Became} {xs ys : List Seen}
      {ls ks : List (List ℕ)}
      → length l ≡ 4096
      → length k ≡ 4096
      → plan_in text ≡ planned plan
      → AllTyped (make text clock ∷ cs)
      → AllTyped (make text clock ∷ ds)
      → Rewritten keys (fresh plan clock) cs ds fs
      → EntriesRun l (make text clock ∷ cs) xs ls
      → EntriesRun k (make text clock ∷ ds) ys ks
      → AllMatch (make text clock ∷ cs) (left_alone ∷ fs) xs ys × (ks ≡ ls)
  demand_three_made {l = l} {k = k} {text = text} {clock = clock} {plan = plan} long-l long-k reads t u r
      (entered {left = left} {x = x} o run) (entered {left = right} {x = y} p later-run) =
      let a : _ = make_shown l text clock plan long-l reads x o t.0 in
      let b : _ = make_shown k text clock plan long-k reads y p u.0 in
      let e : right ≡ left = one_octets right left b.ok a.ok b.shows a.shows in
      let rest : _ = shown_three a.ok a.shows r t.1 u.1 run (rw e at later-run) in
      (rw (a.told, b.told) (next equal rest.0), rw (e, rest.1))
