-- A request read and a reply written: what is copied, how long the reply is, and what is sent with it.
use mathlib.Core.Path.{◌≡◌, refl, sym, ◌∙◌}
use mathlib.Core.Bool.{Bool, true, false, cond}
use mathlib.Core.List.{List, []}
use Prim.Native.Nat.{ℕ, ◌+◌, ◌≤◌}
use native.Mathlib.Omega.{arith}
use lib.ListN.{length, drop, length-drop, drop_of_length-le}
use lib.Seq.{length-take-le}
use Rattle.octets.specs.Octets.{over}
use Rattle.octets.proofs.Cases.{by_eq}
use Rattle.codec.specs.declared.Status.{Status}
use Rattle.codec.specs.declared.Addressed.{Addressed}
use Rattle.codec.specs.declared.Read.{Read}
use Rattle.codec.specs.FrameSet.{soam, pdu_of}
use Rattle.codec.specs.Request.{malformed, request_of, copies_of, read_of, copied}
use Rattle.codec.proofs.Short.{copies_short}
use Rattle.codec_replies.specs.declared.ReplyFields.{ReplyFields}
use Rattle.codec_replies.specs.Reply.{reply_frame, reply_pdu, reply_of, tag_of}
use Rattle.codec_replies.proofs.Lengths.{timer_short, pdu_length, frame_length}
use Rattle.machine.specs.Machine.{status_of}
use Rattle.state.specs.State.{State}
use Rattle.state.specs.Image.{image}
use Rattle.calls.specs.declared.Answer.{Answer}
use Rattle.calls.specs.declared.Answer.TheVariants.{Replied, RepliedForwarded}
use Rattle.calls.specs.Answer.{sends}
use Rattle.calls.specs.Frame.{pdu, own, replied}
use Rattle.calls_requests.specs.declared.Arrival.{Arrival}
use Rattle.calls_requests.specs.Arrival.{Known, Served, arrived_in, onward}
use Rattle.calls_requests.proofs.Arrivals.{source_is, level_is, kind_is, onward_is}

-- ---- a reply written

module _ (taglen to from copies : ℕ) (frame : List ℕ) (r : ReplyFields) where
  abbrev said : List ℕ
  said = reply_of r copies (pdu_of taglen frame)

  abbrev whole : List ℕ
  whole = reply_frame to from (tag_of taglen frame) said

  module _ {n : ℕ} (long : 14 + taglen ≤ length frame) (e : n ≡ 14 + taglen + length said) where
    reply_length : n ≡ length whole
    unfolding tag_of
    reply_length =
        omega (
          arith,
          frame_length to from (tag_of taglen frame) said,
          length-take-le taglen (drop 12 frame) (omega (arith, length-drop 12 frame)),
        )

    pub reply_small : copies ≡ length (copied copies (pdu_of taglen frame)) → n ≤ 35 + taglen + copies
    unfolding reply_of
    reply_small right =
        let l : List ℕ = copied copies (pdu_of taglen frame) in
        omega (
          arith,
          pdu_length r.level r.kind r.code r.port r.status l,
          timer_short r.kind r.code r.status.seconds,
        )

    pub reply_served : (on : Bool) {a : Answer} {before later : List ℕ} → later ≡ over whole before
        → a ≡ cond on RepliedForwarded Replied n → (s : State)
        → Served (sends (cond on RepliedForwarded Replied) s whole) a (image s) before later
    unfolding sends
    reply_served on w ea s = record { answered = rw reply_length at ea; stored = refl; written = w }

-- the octets of a reply to a frame that arrived
abbrev pub reply_to : Arrival → List ℕ → ℕ → Status → List ℕ → List ℕ
reply_to a frame code status copies =
    reply_frame a.heading.source a.replier (tag_of a.taglen frame)
    (reply_pdu a.heading.level a.heading.kind code a.port.address status copies)

pub replied_served : (b : List ℕ) (a : Arrival) (frame : List ℕ) → Known b a frame → soam a.taglen frame ≡ true
    → (whom : Addressed) (s : State) (on : Bool) (code : ℕ)
    (status : Status) (copies : List ℕ) {r : Answer} {left before later : List ℕ}
    → Served (sends (cond on RepliedForwarded Replied) s (reply_to a frame code status copies)) r (image s) before later
    → on ≡ onward a whom → status ≡ status_of (own s (arrived_in b a frame)) → left ≡ image s
    → Served (replied s (arrived_in b a frame) whom code copies) r left before later
unfolding replied sends pdu arrived_in
replied_served b a frame k oam whom s on code status copies h eo es el =
    let g : _ = rw (eo ∙ onward_is k oam whom, es, source_is k, level_is k oam, kind_is k oam) at h in
    record { answered = g.answered; stored = el; written = g.written }

-- ---- what a reply copies

module _ (p : List ℕ) where
  pub copied_all : {n : ℕ} → n ≡ length (copies_of p) → copied n p ≡ copies_of p
  unfolding copied
  copied_all {n} e =
      by_eq n 0
      (λ t z. rw t (sym (drop_of_length-le (copies_of p) {i = 0} (omega arith))))
      (λ t z. rw t)

-- ---- a request read

module _ (whom : Addressed) (to : ℕ) (p : List ℕ) {r : Read} (read : r ≡ read_of whom to p) where
  pub read_request : r.request ≡ request_of whom to p
  unfolding read_of
  read_request = rw read

  count : r.copies ≡ cond (malformed whom to p) 0 (length (copies_of p))
  unfolding read_of
  count = rw read

  pub copied_read : copied r.copies p ≡ cond (malformed whom to p) [] (copies_of p)
  unfolding copied
  copied_read = go (malformed whom to p) count
    where
      go : (bad : Bool) → r.copies ≡ cond bad 0 (length (copies_of p)) → copied r.copies p ≡ cond bad [] (copies_of p)
      go true e = rw e
      go false e = copied_all p e

  pub copies_fit : (taglen : ℕ) → taglen ≤ 4 → 14 + taglen + length p ≤ 2000 → 35 + taglen + r.copies ≤ 2008
  copies_fit taglen few fits = go (malformed whom to p) refl count
    where
      go : (bad : Bool) → malformed whom to p ≡ bad → r.copies ≡ cond bad 0 (length (copies_of p))
          → 35 + taglen + r.copies ≤ 2008
      go true e n = omega (arith, n)
      go false e n = omega (arith, n, copies_short whom to p e)
