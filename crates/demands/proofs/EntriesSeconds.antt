-- Down to the octets: the seconds that the C entries tell come from accepted readings, and a session closes when they reach it.
use mathlib.Core.Path.{◌≡◌, ap, ◌∙◌}
use mathlib.Core.Bool.{true}
use mathlib.Core.List.{List, [], ◌∷◌, ◌++◌}
use Prim.Native.Nat.{ℕ, ◌+◌, ◌-◌, ◌*◌, ◌/◌, ◌≤◌, ◌<◌, ◌^◌}
use Rattle.std.specs.Prelude.{Some}
use Rattle.octets.specs.Octets.{over}
use Rattle.octets.specs.Lists.{within}
use Rattle.codec.specs.declared.FrameSet.{FrameSet}
use Rattle.codec.specs.declared.Request.TheVariants.{Activate, State as StateRequest}
use Rattle.codec.specs.FrameSet.{source, pdu_of}
use Rattle.codec.specs.Request.{level_of, type_of, copies_of}
use Rattle.codec.proofs.FrameParts.{source_fits}
use Rattle.codec_replies.specs.Reply.{reply_frame, reply_pdu, tag_of}
use Rattle.plan.specs.Plan.{port_numbered, flow_of_set}
use Rattle.state.specs.Image.{ok_image}
use Rattle.calls.specs.Calls.{Call, frame, tick, lent}
use Rattle.demands.specs.Machine.{Owed, notice, inactive, active, status_of}
use Rattle.demands.specs.World.{full_for}
use Rattle.demands.specs.Calls.{refusal}
use Rattle.demands.specs.Runs.{Seen, seen, world_after, EntriesRun, octets_after, Typed, AllTyped}
use Rattle.demands.specs.Data.{Carries}
use Rattle.demands.specs.Elapsed.{elapsed_over, is_left_alone}
use Rattle.demands.proofs.Shows.{SmallSet}
use Rattle.demands.proofs.RunParts.{rest_run}
use Rattle.demands.proofs.EntryShown.{state_shows, EntryShown}
use Rattle.demands.proofs.RunShown.{run_shown}
use Rattle.demands.proofs.ImageShown.{world_in, machine_shown, small_set, first_shown}
use Rattle.demands.proofs.Seconds.{time_left, expires}
use Rattle.demands.proofs.Asked.{opened, state_says}
use Rattle.demands.proofs.SecondsTold.{active_free}

module _ (keys : ℕ) (big : 33 * 2 ^ 48 ≤ keys) where
  -- Over any calls that leave it alone a machine of the image has so much less left as elapsed,
  module _ {l : List ℕ} {xs : List Seen} {ls : List (List ℕ)} (cs : List Call) (ok : ok_image l ≡ true) (p : ℕ) (s : FrameSet) (y : ℕ)
      (small : SmallSet s) (low : y < 2 ^ 48) {level side left : ℕ} {tag : List ℕ}
      (m : (world_in l).machine p s y ≡ active level side left tag) (alone : is_left_alone keys p s y (world_in l) cs ≡ true)
      (some_left : elapsed_over keys (world_in l) cs < left) where
    pub entries_time_left : EntriesRun l cs xs ls → AllTyped cs
        → (world_in (octets_after l ls)).machine p s y ≡ active level side (left - elapsed_over keys (world_in l) cs) tag
    entries_time_left run typed =
        machine_shown (octets_after l ls) _ (run_shown keys big run ok typed (world_in l) (state_shows _)).last_shows p s y small low
        ∙ time_left keys p s y (world_in l) cs level side left tag m alone some_left

    -- and with the accepted tick that reaches it, it is closed and owes a code 8 notice.
    pub entries_expires : (clock : ℕ) → EntriesRun l (cs ++ (tick clock ∷ [])) xs ls → AllTyped (cs ++ (tick clock ∷ []))
        → refusal keys (world_after keys (world_in l) cs) (tick clock) ≡ 0
        → left ≤ elapsed_over keys (world_in l) (cs ++ (tick clock ∷ []))
        → (world_in (octets_after l ls)).machine p s y ≡ inactive (notice 8 level side tag)
    entries_expires clock run typed free over =
        machine_shown (octets_after l ls) _ (run_shown keys big run ok typed (world_in l) (state_shows _)).last_shows p s y small low
        ∙ expires keys p s y (world_in l) cs m alone some_left clock free over

  -- An Activate `g` on the image `l` opens a session, and leaves the image `from`; the calls `cs` leave its machine alone; then its
  -- tester asks with `f`, and the output begins with the reply.
  module _ {l from left : List ℕ} (port side : ℕ) (set : FrameSet) (taglen seconds : ℕ) (g out : List ℕ) {cs ds : List Call}
      (side' taglen' : ℕ) (f out' : List ℕ) {z x : Seen} {xs ys : List Seen} {ls ks : List (List ℕ)}
      (run : EntriesRun l (frame port side g out ∷ cs) (z ∷ xs) (from ∷ ls))
      (then : EntriesRun (octets_after from ls) (frame port side' f out' ∷ ds) (x ∷ ys) (left ∷ ks))
      (ok : ok_image l ≡ true) (typed : AllTyped (frame port side g out ∷ cs)) (typed' : Typed (frame port side' f out')) where
    abbrev before : List ℕ
    before = octets_after from ls

    pub entries_seconds_told : {owed : Owed} → refusal keys (world_in l) (frame port side g out) ≡ 0
        → Carries (world_in l) port side set taglen g (Activate seconds)
        → (world_in l).machine port set (source g) ≡ inactive owed
        → within 1 86400 seconds ≡ true
        → full_for keys (flow_of_set port set (world_in l).plan) (world_in l) ≡ 0
        → is_left_alone keys port set (source g) (world_in from) cs ≡ true
        → elapsed_over keys (world_in from) cs < seconds * 1000
        → refusal keys (world_in before) (frame port side' f out') ≡ 0
        → Carries (world_in before) port side' set taglen' f StateRequest
        → source f ≡ source g
        → x.out
        ≡ over (reply_frame (source f) (port_numbered port (world_in before).plan).address (tag_of taglen' f)
        (reply_pdu (level_of (pdu_of taglen' f)) (type_of (pdu_of taglen' f)) 0 (port_numbered port (world_in before).plan).address
        (record { side = Some side; seconds = (seconds * 1000 - elapsed_over keys (world_in from) cs + 999) / 1000 })
        (copies_of (pdu_of taglen' f)))) out'
    unfolding seen lent status_of
    entries_seconds_told free q is good space alone low free' q' same =
        let small : SmallSet set = small_set (world_in l) port g set taglen q.placed in
        let fits : source g < 2 ^ 48 = source_fits g typed.0 in
        let first : EntryShown keys big (world_in l) (frame port side g out) z from = first_shown keys big run ok typed.0 in
        let m : (world_in from).machine port set (source g) ≡ active (level_of (pdu_of taglen g)) side (seconds * 1000) (tag_of taglen g)
        = machine_shown from _ first.shows port set (source g) small fits
        ∙ opened keys (world_in l) port side set taglen g out free q is good space in
        let here : _ = entries_time_left cs first.ok port set (source g) small fits m alone low (rest_run run) typed.1 in
        let own : (world_in before).machine port set (source f) ≡ _ = ap (λ n. (world_in before).machine port set n) same ∙ here in
        let ok' : ok_image before ≡ true = (run_shown keys big (rest_run run) first.ok typed.1 (world_in from) (state_shows _)).last_ok in
        ap (λ (y : Seen). y.out) (first_shown keys big then ok' typed').told
        ∙ ap (λ (o : List ℕ). over o out')
        (state_says keys (world_in before) port side' set taglen' f out' free' q' (active_free own) (rw own))
