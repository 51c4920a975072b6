-- The machine of a frame that came: it decides, its change has full, and the reply says how it is then.
use mathlib.Core.Path.{◌≡◌, refl, sym, ap, ◌∙◌}
use mathlib.Core.Bool.{Bool, true, false, cond}
use mathlib.Core.List.{List}
use Prim.Native.Nat.{ℕ, zero, suc, ◌^◌, ◌<◌}
use native.Mathlib.Omega.{arith}
use lib.Dec.{eqb}
use Rattle.std.specs.Prelude.{Option, Result, Ok, Err}
use Rattle.octets.proofs.Cases.{by_eq}
use Rattle.codec.specs.declared.Status.{Status}
use Rattle.codec.specs.declared.Addressed.{Addressed}
use Rattle.codec.specs.declared.Request.{Request}
use Rattle.codec.specs.FrameSet.{source, soam}
use Rattle.machine.specs.declared.Session.{Session}
use Rattle.machine.specs.declared.Machine.{Machine}
use Rattle.machine.specs.declared.Machine.TheVariants.{Inactive, Active}
use Rattle.machine.specs.declared.Change.TheVariants.{Same}
use Rattle.machine.specs.declared.codes.Code.{Code}
use Rattle.machine.specs.Table.{Event, admit, condition_number, event_number, event_at, action_of, action_at}
use Rattle.machine.specs.Machine.{Decision, numbered, condition_of, answered, decided, after, status_of}
use Rattle.machine.proofs.Laws.{action_at_lem}
use Rattle.plan.specs.declared.Flow.{Flow}
use Rattle.state.specs.State.{State, valid, is_allowed, machine_of, full_for, notice_due}
use Rattle.state.specs.Image.{image, state_of}
use Rattle.state.specs.Rows.{row_found, session_at}
use Rattle.state.proofs.ImageLaws.{ok_valid}
use Rattle.calls.specs.declared.Answer.{Answer}
use Rattle.calls.specs.declared.Answer.TheVariants.{Replied, RepliedForwarded}
use Rattle.calls.specs.Answer.{sends}
use Rattle.calls.specs.Frame.{Arrived, own_key, own, own_action, new_session, replied, changed, decides}
use Rattle.calls_requests.specs.declared.Asked.{Asked}
use Rattle.calls_requests.specs.declared.Arrival.{Arrival}
use Rattle.calls_requests.specs.Arrival.{Known, Placed, Served, arrived_in, onward, asked_of, settled, decision}
use Rattle.calls_requests.proofs.Arrivals.{source_is}
use Rattle.calls_requests.proofs.Changes.{Fitting, Puts, own_changed, put_fits, decided_puts}
use Rattle.calls_requests.proofs.Answered.{reply_to, replied_served}

event_there : (event : ℕ) → event < 3 → event ≡ event_number (event_at event)
unfolding event_number event_at
event_there zero h = refl
event_there (suc zero) h = refl
event_there (suc (suc zero)) h = refl
event_there (suc (suc (suc n))) h = absurd (omega arith)

module _ (s : State) (x : Arrived) where
  pub own_right : {key : ℕ} {m : Machine} → key ≡ own_key x → m ≡ machine_of key s.sessions → m ≡ own s x
  unfolding own
  own_right ek em = rw ek at em

  -- whether it is full matters where the action admits
  full_alike : (action seconds : ℕ) (new : Session) (m : Machine) {full : ℕ} → ((f : Flow) → full ≡ cond (eqb action admit) (full_for f s) 0)
      → decided action full seconds new m ≡ decided action (full_for x.flow s) seconds new m
  unfolding decided
  full_alike action seconds new m told = by_eq action admit (λ t e. rw (told x.flow, t)) (λ t e. rw t)

  decides_right : (m : Machine) (event seconds : ℕ) {new : Session} {condition action full : ℕ} {r : Decision} → event < 3
      → is_allowed x.flow.number s ≡ true → m ≡ own s x → new ≡ new_session x → condition ≡ condition_number (condition_of true m)
      → action ≡ action_at condition event → ((f : Flow) → full ≡ cond (eqb action admit) (full_for f s) 0)
      → r ≡ decided action full seconds new m → r ≡ decides s x (event_at event) seconds
  unfolding decides own_action
  decides_right m event seconds {new} {condition} {action} h ea em en ec et er ed =
      let e : Event = event_at event in
      let t : action_at (condition_number (condition_of true m)) event ≡ action_of (condition_of true m) e
      = ap (action_at (condition_number (condition_of true m))) (event_there event h) ∙ action_at_lem (condition_of true m) e in
      rw (ea, ← em) (rw (et, ec, t, en) at (ed ∙ full_alike action seconds new m er))

  pub fault_right : (request : Request) (code : Code) → Err code ≡ asked_of request
      → numbered (record { code = code; change = Same }) ≡ decision s x request
  unfolding decision settled answered
  fault_right request code eq = rw (← eq)

  pub decision_right : (request : Request) (q : Asked) (m : Machine) {new : Session} {condition action full : ℕ} {r : Decision}
      → Ok q ≡ asked_of request → q.event < 3 → is_allowed x.flow.number s ≡ true → m ≡ own s x → new ≡ new_session x
      → condition ≡ condition_number (condition_of true m) → action ≡ action_at condition q.event
      → ((f : Flow) → full ≡ cond (eqb action admit) (full_for f s) 0) → r ≡ decided action full q.seconds new m
      → r ≡ decision s x request
  unfolding decision settled
  decision_right request q m eq h ea em en ec et er ed = rw (← eq) (decides_right m q.event q.seconds h ea em en ec et er ed)

  decision_puts : valid s ≡ true → notice_due s ≡ false → source x.frame < 2 ^ 48 → (request : Request)
      → Puts s x (decision s x request).change
  unfolding decision settled answered
  decision_puts v quiet fits request = go (asked_of request)
    where
      go : (q : Result Asked Code) → Puts s x (settled s x q).change
      go (Ok q) = decided_puts s x v quiet fits (event_at q.event) q.seconds
      go (Err code) = tt

module _ {b : List ℕ} {a : Arrival} {frame : List ℕ} (k : Known b a frame) (oam : soam a.taglen frame ≡ true) (request : Request) {d : Decision} (ed : d ≡ decision (state_of b) (arrived_in b a frame) request) where
  puts : Puts (state_of b) (arrived_in b a frame) d.change
  unfolding arrived_in
  puts =
      rw ed
      (decision_puts (state_of b) (arrived_in b a frame) (ok_valid b k.ok) k.quiet (rw (source_is k) at k.source_fits) request)

  pub change_placed : {key : ℕ} {row : Option ℕ} → key ≡ own_key (arrived_in b a frame) → row ≡ row_found (session_at key b)
      → (y : Session) → after d.change Inactive ≡ Active y → Placed b row y
  change_placed ek er y e =
      let f : Fitting (state_of b) (arrived_in b a frame) y = put_fits (state_of b) (arrived_in b a frame) d.change puts y e in
      record {
        source_fits = f.source_fits;
        found = er ∙ ap (λ (n : ℕ). row_found (session_at n b)) (ek ∙ sym f.keyed);
        room = f.room;
      }

  pub decision_replied : (whom : Addressed) (on : Bool) {key : ℕ} {m : Machine} (status : Status) (copies : List ℕ) {r : Answer}
      {left before later : List ℕ} → on ≡ onward a whom → key ≡ own_key (arrived_in b a frame)
      → m ≡ machine_of key (state_of b).sessions → left ≡ image (changed key d.change (state_of b))
      → status ≡ status_of (after d.change m)
      → ((t : State)
      → Served (sends (cond on RepliedForwarded Replied) t (reply_to a frame d.code status copies)) r (image t) before later)
      → Served
      (replied (changed (own_key (arrived_in b a frame)) d.change (state_of b)) (arrived_in b a frame) whom d.code copies)
      r left before later
  decision_replied whom on {key} {m} status copies {r} {left} {before} {later} eo ek em el es h =
      let s : State = state_of b in
      let x : Arrived = arrived_in b a frame in
      let t : State = changed (own_key x) d.change s in
      let left_right : left ≡ image t = el ∙ ap (λ (n : ℕ). image (changed n d.change s)) ek in
      let told : status ≡ status_of (own t x)
      = es
      ∙ ap (λ (n : Machine). status_of (after d.change n)) (own_right s x ek em)
      ∙ ap status_of (sym (own_changed s x d.change puts)) in
      replied_served b a frame k oam whom t on d.code status copies (h t) eo told left_right
