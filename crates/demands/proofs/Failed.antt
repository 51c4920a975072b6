-- A request that fails changes nothing: a step that is not carried out is answered 2, 5, 6 or 7, and leaves its machine as it was.
use mathlib.Core.Path.{◌≡◌, refl}
use mathlib.Core.Bool.{Bool, true, false, cond, ◌&&◌, ◌||◌, true≢false}
use mathlib.Core.List.{List}
use Prim.Native.Nat.{ℕ, ◌*◌}
use lib.Dec.{eqb, ltb}
use Rattle.octets.specs.Lists.{within}
use Rattle.codec.specs.declared.FrameSet.{FrameSet}
use Rattle.codec.specs.Request.{level_of}
use Rattle.codec_replies.specs.Reply.{tag_of}
use Rattle.calls.specs.Frame.{Arrived, pdu}
use Rattle.demands.specs.Machine.{Machine, Step, nothing, prohibited, inactive, active, gets, activate, deactivate, is_active}
use Rattle.demands.specs.World.{World, at, counted, full_for}
use Rattle.demands.specs.Frame.{own, activated, deactivated}
use Rattle.demands.specs.Elapsed.{carried_out}

unfoldable pub is_failure : ℕ → Bool
is_failure code = eqb code 2 || eqb code 5 || eqb code 6 || eqb code 7

abbrev pub Fails : Machine → Step → Type 0
Fails m step = carried_out step.code ≡ false → (step.next ≡ m) × (is_failure step.code ≡ true)

-- The code `full` is 0 or 2, as `full_for` has it.
activate_fails : (free : Bool) (seconds level side : ℕ) (tag : List ℕ) (m : Machine)
    → Fails m (activate (cond free 0 2) seconds level side tag m)
unfolding activate gets carried_out is_failure
activate_fails free seconds level side tag (prohibited owed) h = absurd (true≢false h)
activate_fails free seconds level side tag (inactive owed) h = go free (within 1 86400 seconds) h
  where
    go : (free good : Bool)
        → Fails (inactive owed) (cond good
        (cond (eqb (cond free 0 2) 0) (gets 0 (active level side (seconds * 1000) tag)) (gets (cond free 0 2) (inactive owed)))
        (gets 6 (inactive owed)))
    go true true e = absurd (true≢false e)
    go false true e = (refl, refl)
    go free false e = (refl, refl)
activate_fails free seconds level side tag (active own-level own-side left own-tag) h =
    go (eqb level own-level && eqb side own-side) (within 1 86400 seconds) h
  where
    go : (same good : Bool)
        → Fails (active own-level own-side left own-tag) (cond same
        (cond good (gets 4 (active own-level own-side (seconds * 1000) own-tag)) (gets 6 (active own-level own-side left own-tag)))
        (gets 7 (active own-level own-side left own-tag)))
    go true true e = absurd (true≢false e)
    go true false e = (refl, refl)
    go false good e = (refl, refl)

deactivate_fails : (level side : ℕ) (m : Machine) → Fails m (deactivate level side m)
unfolding deactivate gets carried_out is_failure
deactivate_fails level side (prohibited owed) h = absurd (true≢false h)
deactivate_fails level side (inactive owed) h = (refl, refl)
deactivate_fails level side (active own-level own-side left tag) h = go (eqb level own-level && eqb side own-side) h
  where
    go : (same : Bool)
        → Fails (active own-level own-side left tag)
        (cond same (gets 0 (inactive nothing)) (gets 7 (active own-level own-side left tag)))
    go true e = absurd (true≢false e)
    go false e = (refl, refl)

-- ---- a frame's step

pub activated_fails : (keys : ℕ) (w : World) (set : FrameSet) (a : Arrived) (seconds : ℕ)
    → Fails (own w set a) (activated keys w set a seconds)
unfolding full_for
activated_fails keys w set a seconds =
    activate_fails (ltb (counted (λ k. is_active (at k w)) keys) 16) seconds (level_of (pdu a)) a.side (tag_of a.taglen a.frame)
    (own w set a)

pub deactivated_fails : (w : World) (set : FrameSet) (a : Arrived) → Fails (own w set a) (deactivated w set a)
deactivated_fails w set a = deactivate_fails (level_of (pdu a)) a.side (own w set a)
