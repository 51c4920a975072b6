-- A call that leaves an active machine alone: it keeps its session, and an accepted tick takes what elapsed from the time left.
use mathlib.Core.Path.{◌≡◌, refl, sym, ap, ◌∙◌}
use mathlib.Core.Bool.{Bool, true, false, cond, ◌&&◌, ◌||◌, not, false≢true}
use mathlib.Core.List.{List}
use Prim.Native.Nat.{ℕ, ◌-◌, ◌<◌}
use native.Mathlib.Omega.{arith}
use lib.Dec.{eqb}
use borrow.Author.Tests.{not-true}
use Rattle.octets.proofs.Cases.{by_le}
use Rattle.codec.specs.declared.FrameSet.{FrameSet}
use Rattle.codec.specs.FrameSet.{set_of}
use Rattle.machine.specs.Time.{elapsed}
use Rattle.plan.specs.declared.Port.{Port}
use Rattle.plan.specs.declared.Flow.{Flow}
use Rattle.plan.specs.Plan.{flow_numbered}
use Rattle.calls.specs.Calls.{Call, make, frame, tick, allow, prohibit, notice, restart}
use Rattle.demands.specs.Machine.{Owed, nothing, notice as owing, active, owed_by, ticked, allowed, forbidden, taken}
use Rattle.demands.specs.World.{World, same_set, become, of_flow, all, flow_of, source_of, at, at_flow, first_owing}
use Rattle.demands.specs.Frame.{leaves, sends}
use Rattle.demands.specs.Calls.{refusal, served, call, noticed, notice_served}
use Rattle.demands.specs.Data.{sets_at, is_own}
use Rattle.demands.specs.Elapsed.{elapsed_by, asks, spares}
use Rattle.state.proofs.OwedRow.{by_test}
use Rattle.demands.proofs.SetsApart.{same_told}
use Rattle.demands.proofs.Served.{refused_is, served_is}
use Rattle.demands.proofs.Apart.{frame_keeps}

module _ (keys : ℕ) (p : ℕ) (s : FrameSet) (x : ℕ) (w : World) (level side left : ℕ) (tag : List ℕ)
    (m : w.machine p s x ≡ active level side left tag) where
  abbrev Stays : World → Type 0
  Stays u = u.machine p s x ≡ active level side left tag

  -- ---- calls that are served

  allow_stays : (f : Flow) → Stays (of_flow f allowed w)
  unfolding of_flow allowed
  allow_stays f = go (eqb p f.port && same_set s (set_of f.kind f.vid))
    where
      go : (b : Bool) → cond b (allowed (w.machine p s x)) (w.machine p s x) ≡ active level side left tag
      go true = rw m
      go false = m

  prohibit_stays : (f : Flow) → (eqb p f.port && same_set s (set_of f.kind f.vid)) ≡ false → Stays (of_flow f forbidden w)
  unfolding of_flow
  prohibit_stays f e = rw e m

  taken_stays : (key : ℕ) → Stays (become (flow_of key w).port (set_of (flow_of key w).kind (flow_of key w).vid) (source_of key)
      (taken (at key w)) w)
  unfolding become at at_flow taken
  taken_stays key =
      let f : Flow = flow_of key w in
      let set : FrameSet = set_of f.kind f.vid in
      by_test (eqb p f.port && (same_set s set && eqb x (source_of key)))
      (λ t. rw (t, sym (same_told w.machine p f.port s set x (source_of key) t) ∙ m))
      (λ t. rw t m)

  notice_stays : (u : World) → Stays u → (port : Port) (source : ℕ) (owed : Owed) → Stays (noticed w u port source owed).world
  unfolding noticed leaves sends
  notice_stays u h port source nothing = m
  notice_stays u h port source (owing code level side tag) = h

  -- ---- any call

  abbrev Alone : Call → Type 0
  Alone c = (not (eqb (refusal keys w c) 0) || spares keys p s x w c) ≡ true

  -- what it leaves of the time
  abbrev Counts : Call → Type 0
  Counts c = (call keys w c).world.machine p s x ≡ active level side (left - elapsed_by keys w c) tag

  by_served : (c : Call) → elapsed_by keys w c ≡ 0
      → (spares keys p s x w c ≡ true → Stays (served keys w c).world) → Alone c → Counts c
  by_served c none h a =
      let all_left : left - 0 ≡ left = omega arith in
      rw (none, all_left)
      (by_test (eqb (refusal keys w c) 0)
      (λ t. rw (served_is keys w c t) (h (rw t at a)))
      (λ t. rw (refused_is keys w c t) m))

  frame_counts : (port side : ℕ) (f out : List ℕ) → Alone (frame port side f out) → Counts (frame port side f out)
  unfolding spares elapsed_by
  frame_counts port side f out a =
      let all_left : left - 0 ≡ left = omega arith in
      rw all_left
      (by_test (eqb (refusal keys w (frame port side f out)) 0)
      (λ t.
      let free : not (is_own w port f p s x && asks keys w port side f (sets_at w port f)) ≡ true = rw t at a in
      frame_keeps keys w port side f out p s x (not-true _ free) ∙ m)
      (λ t. rw (refused_is keys w (frame port side f out) t) m))

  tick_counts : (clock : ℕ) → elapsed_by keys w (tick clock) < left → Counts (tick clock)
  unfolding elapsed_by served all leaves ticked
  tick_counts clock low =
      by_test (eqb (refusal keys w (tick clock)) 0)
      (λ t.
      let some_left : elapsed clock w.clock < left = rw t at low in
      by_le left (elapsed clock w.clock)
      (λ e less. absurd (omega (arith, some_left)))
      (λ e more. rw (t, served_is keys w (tick clock) t, m, e)))
      (λ t.
      let all_left : left - 0 ≡ left = omega arith in
      rw (t, refused_is keys w (tick clock) t) (m ∙ ap (λ n. active level side n tag) (sym all_left)))

  pub call_counts : (c : Call) → Alone c → elapsed_by keys w c < left → Counts c
  unfolding elapsed_by served spares refusal notice_served leaves
  call_counts (make text clock) a low = absurd (false≢true a)
  call_counts (frame port side f out) a low = frame_counts port side f out a
  call_counts (tick clock) a low = tick_counts clock low
  call_counts (allow flow) a low = by_served (allow flow) refl (λ e. allow_stays (flow_numbered flow w.plan)) a
  call_counts (prohibit flow) a low =
      by_served (prohibit flow) refl (λ e. prohibit_stays (flow_numbered flow w.plan) (not-true _ e)) a
  call_counts (notice out) a low =
      by_served (notice out) refl (λ e. notice_stays _ (taken_stays (first_owing keys w)) _ _ (owed_by (at (first_owing keys w) w))) a
  call_counts (restart clock) a low = absurd (false≢true a)
