-- The machine (MACHINE): what a host sees over a run of calls: of the world, and of the unit's entries by their promises.
use Rattle.std.specs.Prelude.{List, [], ◌∷◌, ℕ, ◌<◌, ◌^◌, get_or}
use Rattle.octets.specs.Octets.{over}
use Rattle.calls.specs.declared.Answer.TheVariants.{Done}
use Rattle.calls.specs.Answer.{number_of}
use Rattle.calls.specs.Calls.{Call, make, frame, tick, allow, prohibit, notice, restart, lent, enter}
use Rattle.tmavolice.specs.Outcome.{Outcome}
use Rattle.demands.specs.World.{World}
use Rattle.demands.specs.Frame.{Told}
use Rattle.demands.specs.Calls.{call}

-- of a call: the number that it answers, and every octet of its output after it
pub record Seen : Type 0 where
  pub number : ℕ
  pub out : List ℕ

-- CALL-27: what is written stands at the front of the output; all octets after it stay as they were.
unfoldable pub seen : Call → Told → Seen
seen c t = record { number = number_of t.answer; out = over t.octets (lent c) }

-- CALL-22: what is seen of a make that succeeds: done, and no output.
abbrev pub done_seen : Seen
done_seen = record { number = number_of Done; out = [] }

-- MACHINE-1: what the machines of a world answer over a run of calls.
unfoldable pub world_run : ℕ → World → List Call → List Seen
world_run keys w [] = []
world_run keys w (c ∷ cs) = seen c (call keys w c) ∷ world_run keys (call keys w c).world cs

-- the world after a run of calls
unfoldable pub world_after : ℕ → World → List Call → World
world_after keys w [] = w
world_after keys w (c ∷ cs) = world_after keys (call keys w c).world cs

-- Calls of the C entries on one image, each as its promise has it: what was seen of them, and the octets of the image after each.
pub data EntriesRun : List ℕ → List Call → List Seen → List (List ℕ) → Type 0 where
  ended : {l : List ℕ} → EntriesRun l [] [] []
  entered : {l left : List ℕ} {c : Call} {cs : List Call} {x : Seen} {xs : List Seen} {ls : List (List ℕ)}
      → Outcome (enter l c) x.number left x.out
      → EntriesRun left cs xs ls
      → EntriesRun l (c ∷ cs) (x ∷ xs) (left ∷ ls)

-- the octets after them
unfoldable pub octets_after : List ℕ → List (List ℕ) → List ℕ
octets_after l [] = l
octets_after l (left ∷ ls) = octets_after left ls

-- What the types of a host's arguments give: clock readings of 32 bits, and frames of octets.
abbrev pub Typed : Call → Type 0
Typed (make text clock) = clock < 2 ^ 32
Typed (frame port side octets out) = (i : ℕ) → get_or octets i 0 < 256
Typed (tick clock) = clock < 2 ^ 32
Typed (allow flow) = Unit {0}
Typed (prohibit flow) = Unit {0}
Typed (notice out) = Unit {0}
Typed (restart clock) = clock < 2 ^ 32

abbrev pub AllTyped : List Call → Type 0
AllTyped [] = Unit {0}
AllTyped (c ∷ cs) = Typed c × AllTyped cs
