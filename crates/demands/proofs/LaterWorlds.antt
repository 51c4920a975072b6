-- A run of a world whose requests are rewritten: what is seen of the calls matches, and each leaves the same world.
use mathlib.Core.Path.{◌≡◌, refl}
use mathlib.Core.List.{List}
use Prim.Native.Nat.{ℕ, ◌+◌}
use lib.ListN.{length}
use Rattle.codec.specs.declared.FrameSet.{FrameSet}
use Rattle.calls.specs.Calls.{Call, frame}
use Rattle.demands.specs.World.{World}
use Rattle.demands.specs.Calls.{call}
use Rattle.demands.specs.Runs.{seen, world_run, world_after}
use Rattle.demands.specs.Later.{Later}
use Rattle.demands.specs.LaterRuns.{Asks, Became, rewritten, Rewritten, Matches, equal, AllMatch}
use Rattle.demands.specs.LaterRuns.{ended as run-ended, same as run-same, later as run-later, next}
use Rattle.demands.proofs.LaterFrames.{twins}
use Rattle.demands.proofs.LaterCall.{agree_call}

module _ (keys : ℕ) where
  -- one call
  pub record CallsAgree (w : World) (taglen : ℕ) (c d : Call) (became : Became) : Type 0 where
    pub world_same : (call keys w d).world ≡ (call keys w c).world
    pub matches : Matches c became (seen c (call keys w c)) (seen d (call keys w d))

  pub call_later : (w : World) (port side : ℕ) (set : FrameSet) (taglen : ℕ) (f g out : List ℕ) → Asks w port side set taglen f
      → (r : Later f g) → length r.head ≡ 14 + taglen
      → CallsAgree w taglen (frame port side f out) (frame port side g out) (rewritten taglen r.old.tlvs r.new.tlvs)
  call_later w port side set taglen f g out asks r len =
      rw (r.old_is, r.new_is)
      (let asked : _ = rw r.old_is at asks in
      let h : _
      = agree_call keys asked
      (twins w port side taglen set r.head len r.old r.new r.old_laid r.new_laid r.rewritten asked (rw r.new_is at r.fits))
      out in
      record { world_same = h.world_same; matches = h.matches })

  -- any run of a world
  pub runs_match : {w : World} {cs ds : List Call} {fs : List Became} → Rewritten keys w cs ds fs
      → AllMatch cs fs (world_run keys w cs) (world_run keys w ds)
  unfolding world_run
  runs_match run-ended = run-ended
  runs_match (run-same more) = next equal (runs_match more)
  runs_match (run-later {w = w} {port = port} {side = side} {set = set} {taglen = taglen} {f = f} {g = g} {out = out} {cs = cs} {ds = ds} {fs = fs} asks r len more) =
      let a : _ = call_later w port side set taglen f g out asks r len in
      let rest : AllMatch cs fs (world_run keys (call keys w (frame port side f out)).world cs)
      (world_run keys (call keys w (frame port side g out)).world ds)
      = rw a.world_same (runs_match more) in
      next a.matches rest

  -- and the world after it is the same
  pub worlds_same : {w : World} {cs ds : List Call} {fs : List Became} → Rewritten keys w cs ds fs
      → world_after keys w ds ≡ world_after keys w cs
  unfolding world_after
  worlds_same run-ended = refl
  worlds_same (run-same more) = worlds_same more
  worlds_same (run-later {w = w} {port = port} {side = side} {set = set} {taglen = taglen} {f = f} {g = g} {out = out} asks r len more) =
      rw (call_later w port side set taglen f g out asks r len).world_same (worlds_same more)
