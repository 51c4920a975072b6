-- A run of the C entries on a valid image: every call is answered as the world that the image shows answers it, every image after a
-- call is valid, and the last one shows the world after the calls.
use mathlib.Core.Path.{◌≡◌, refl}
use mathlib.Core.Bool.{true}
use mathlib.Core.List.{List}
use Prim.Native.Nat.{ℕ, ◌*◌, ◌≤◌, ◌^◌}
use Rattle.octets.specs.Lists.{every}
use Rattle.state.specs.Image.{state_of, ok_image}
use Rattle.calls.specs.Calls.{Call}
use Rattle.demands.specs.World.{World}
use Rattle.demands.specs.Calls.{call}
use Rattle.demands.specs.Runs.{Seen, world_run, world_after, EntriesRun, ended, entered, octets_after, AllTyped}
use Rattle.demands.proofs.Shows.{Shows}
use Rattle.demands.proofs.EntryShown.{entry_shown}

module _ (keys : ℕ) where
  pub record RunShown (w : World) (cs : List Call) (xs : List Seen) (last : List ℕ) (ls : List (List ℕ)) : Type 0 where
    pub seen_are : xs ≡ world_run keys w cs
    pub each_ok : every ok_image ls ≡ true
    pub last_ok : ok_image last ≡ true
    pub last_shows : Shows (state_of last) (world_after keys w cs)

  pub run_shown : 33 * 2 ^ 48 ≤ keys → {l : List ℕ} {cs : List Call} {xs : List Seen} {ls : List (List ℕ)} → EntriesRun l cs xs ls
      → ok_image l ≡ true
      → AllTyped cs
      → (w : World)
      → Shows (state_of l) w
      → RunShown w cs xs (octets_after l ls) ls
  unfolding world_run world_after octets_after every
  run_shown big ended ok t w shows = record { seen_are = refl; each_ok = refl; last_ok = ok; last_shows = shows }
  run_shown big (entered {l = l} {c = c} {x = x} o more) ok t w shows =
      let e : _ = entry_shown keys big l c x o ok t.0 w shows in
      let rest : _ = run_shown big more e.ok t.1 (call keys w c).world e.shows in
      record {
        seen_are = rw (e.told, rest.seen_are);
        each_ok = rw e.ok rest.each_ok;
        last_ok = rest.last_ok;
        last_shows = rest.last_shows;
      }
