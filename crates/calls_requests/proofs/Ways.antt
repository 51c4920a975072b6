-- Each way through a request leaves what the call sends.
use mathlib.Core.Path.{◌≡◌, refl, sym, ◌∙◌}
use mathlib.Core.Bool.{Bool, true, false, cond}
use mathlib.Core.List.{List, []}
use Prim.Native.Nat.{ℕ, ◌+◌, ◌<◌, ◌≤◌}
use native.Mathlib.Omega.{arith}
use lib.Dec.{eqb}
use lib.ListN.{length, get_or, length-drop}
use borrow.Author.Tests.{lt-ltb, le-ltb}
use Rattle.codec.specs.declared.Addressed.{Addressed}
use Rattle.codec.specs.declared.Read.{Read}
use Rattle.codec.specs.declared.Request.TheVariants.{Malformed, Reserved, Activate, Deactivate, State as StateRequest}
use Rattle.codec.specs.FrameSet.{destination, soam, pdu_of}
use Rattle.codec_tlvs.specs.Tlv.{timers}
use Rattle.codec.specs.Request.{type_of, tlvs_of, malformed, by_type, request_of, copies_of, read_of, copied}
use Rattle.machine.specs.Table.{event_at}
use Rattle.machine.specs.Machine.{Decision, answered}
use Rattle.state.specs.State.{State, is_allowed}
use Rattle.state.specs.Image.{state_of, ok_image}
use Rattle.state.proofs.ImageLaws.{image_state}
use Rattle.calls.specs.declared.Answer.{Answer}
use Rattle.calls.specs.declared.Answer.TheVariants.{Forwarded, Dropped}
use Rattle.calls.specs.Answer.{leaves}
use Rattle.calls.specs.Frame.{Arrived, pdu, own_key, changed, replied, machine_served, answers, request_served}
use Rattle.calls_requests.specs.declared.Arrival.{Arrival}
use Rattle.calls_requests.specs.Arrival.{Known, Served, arrived_in, onward, asked_of, settled, decision}
use Rattle.calls_requests.proofs.Arrivals.{allowed_is, onward_is}
use Rattle.calls_requests.proofs.Answered.{read_request, copied_read, copies_fit}

-- an answer that leaves image and output as they were
pub stays : (answer : Answer) {b : List ℕ} (out : List ℕ) → ok_image b ≡ true → Served (leaves answer (state_of b)) answer b out out
unfolding leaves
stays answer {b} out ok = record { answered = refl; stored = sym (image_state b ok); written = refl }

-- ---- a request read on an allowed flow

-- whatever it says, its decision is written and replied
answers_decision : (s : State) (x : Arrived) (whom : Addressed) (bad : Bool) (kind seconds : ℕ)
    → answers s x whom (cond bad Malformed (by_type kind seconds))
    ≡ replied (changed (own_key x) (decision s x (cond bad Malformed (by_type kind seconds))).change s) x whom
    (decision s x (cond bad Malformed (by_type kind seconds))).code (cond bad [] (copies_of (pdu x)))
unfolding answers machine_served decision settled asked_of answered changed by_type event_at
answers_decision s x whom true kind seconds = refl
answers_decision s x whom false kind seconds = go (eqb kind 1) (eqb kind 2) (eqb kind 3)
  where
    go : (activate deactivate state : Bool)
        → answers s x whom (cond activate (Activate seconds) (cond deactivate Deactivate (cond state StateRequest Reserved)))
        ≡ replied (changed (own_key x)
        (decision s x (cond activate (Activate seconds) (cond deactivate Deactivate (cond state StateRequest Reserved)))).change s)
        x whom
        (decision s x (cond activate (Activate seconds) (cond deactivate Deactivate (cond state StateRequest Reserved)))).code
        (copies_of (pdu x))
    go true deactivate state = refl
    go false true state = refl
    go false false true = refl
    go false false false = refl

module _ (b : List ℕ) (a : Arrival) (frame : List ℕ) (whom : Addressed) {r : Read}
    (read : r ≡ read_of whom (destination frame) (pdu_of a.taglen frame)) where
  pub reply_room : a.taglen ≤ 4 → 14 + a.taglen ≤ length frame → length frame ≤ 2000 → 35 + a.taglen + r.copies ≤ 2008
  unfolding pdu_of
  reply_room few long fits =
      copies_fit whom (destination frame) (pdu_of a.taglen frame) read a.taglen few
      (omega (arith, length-drop (14 + a.taglen) frame))

  pub answers_served : {d : Decision} {n : Answer} {left before later : List ℕ}
      → d ≡ decision (state_of b) (arrived_in b a frame) r.request
      → Served (replied (changed (own_key (arrived_in b a frame)) d.change (state_of b)) (arrived_in b a frame) whom d.code
      (copied r.copies (pdu_of a.taglen frame)))
      n left before later
      → Served (answers (state_of b) (arrived_in b a frame) whom (request_of whom (destination frame) (pdu_of a.taglen frame)))
      n left before later
  unfolding request_of pdu arrived_in
  answers_served ed h =
      let to : ℕ = destination frame in
      let p : List ℕ = pdu_of a.taglen frame in
      rw (answers_decision (state_of b) (arrived_in b a frame) whom (malformed whom to p) (type_of p)
      (get_or (timers (tlvs_of p).tlvs) 0 0))
      (rw (ed, read_request whom to p read, copied_read whom to p read) at h)

-- ---- a request, on an allowed flow or not

module _ {b : List ℕ} {a : Arrival} {frame : List ℕ} (k : Known b a frame) (oam : soam a.taglen frame ≡ true) (out : List ℕ) (whom : Addressed) where
  abbrev Requested : Answer → List ℕ → List ℕ → List ℕ → Type 0
  Requested = Served (request_served (state_of b) (arrived_in b a frame) whom)

  module _ (allowed : is_allowed a.flow (state_of b) ≡ true) where
    pub short_served : length frame < 26 + a.taglen → Requested Dropped b out out
    unfolding request_served pdu pdu_of arrived_in
    short_served h =
        let n : ℕ = length (pdu_of a.taglen frame) in
        let few : n < 12 = omega (arith, k.tag_whole, length-drop (14 + a.taglen) frame) in
        rw (allowed_is k ∙ allowed, lt-ltb n 12 few) (stays Dropped out k.ok)

    pub long_served : 26 + a.taglen ≤ length frame → {n : Answer} {left before later : List ℕ}
        → Served (answers (state_of b) (arrived_in b a frame) whom (request_of whom (destination frame) (pdu_of a.taglen frame)))
        n left before later
        → Requested n left before later
    unfolding request_served pdu pdu_of arrived_in
    long_served h g =
        let n : ℕ = length (pdu_of a.taglen frame) in
        let enough : 12 ≤ n = omega (arith, length-drop (14 + a.taglen) frame) in
        rw (allowed_is k ∙ allowed, le-ltb n 12 enough) g

  module _ (prohibited : is_allowed a.flow (state_of b) ≡ false) where
    pub forwarded_served : {on : Bool} → on ≡ onward a whom → on ≡ true → Requested Forwarded b out out
    unfolding request_served arrived_in
    forwarded_served e on = rw (allowed_is k ∙ prohibited, sym (onward_is k oam whom) ∙ sym e ∙ on) (stays Forwarded out k.ok)

    pub dropped_served : {on : Bool} → on ≡ onward a whom → on ≡ false → Requested Dropped b out out
    unfolding request_served arrived_in
    dropped_served e on = rw (allowed_is k ∙ prohibited, sym (onward_is k oam whom) ∙ sym e ∙ on) (stays Dropped out k.ok)
