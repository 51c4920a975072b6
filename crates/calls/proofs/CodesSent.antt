-- Every reply that a call writes has one of the codes that are sent: of the definitions, and of the number that a host gets.
use mathlib.Core.Path.{◌≡◌, refl, sym, ap, ◌∙◌}
use mathlib.Core.Bool.{Bool, true, false, cond, not, ◌&&◌, ◌||◌, false≢true}
use mathlib.Core.List.{List, [], ◌∷◌, ◌++◌, append_assoc}
use Prim.Native.Nat.{ℕ, ◌+◌, ◌*◌, ◌%◌, ◌≤◌, ◌^◌}
use native.Mathlib.Omega.{arith}
use lib.Dec.{eqb}
use lib.ListN.{length, get_or, drop, length-append}
use lib.Seq.{get_or_at}
use borrow.Author.Tests.{not-true}
use Rattle.std.specs.Prelude.{None}
use Rattle.std.proofs.lemmas.Option.{none-some}
use Rattle.octets.specs.Octets.{octets, over}
use Rattle.octets.specs.Lists.{every, some}
use Rattle.octets.proofs.Laws.{octets_length}
use Rattle.octets.proofs.Same.{both_true}
use Rattle.codec.specs.declared.Addressed.{Addressed}
use Rattle.codec.specs.FrameSet.{oam_type}
use Rattle.codec.specs.Request.{llr}
use Rattle.codec_replies.specs.Reply.{flags, header, timer_part, reply_pdu, reply_frame}
use Rattle.machine.specs.declared.Session.{Session}
use Rattle.machine.specs.declared.Machine.{Machine}
use Rattle.machine.specs.declared.Machine.TheVariants.{Inactive, Active}
use Rattle.machine.specs.Machine.{is_open, status_of}
use Rattle.plan.specs.PlanText.{Reading, fault, planned, plan_in}
use Rattle.state.specs.State.{State, is_allowed, good_time, good_session, notice_due, valid, first_owed}
use Rattle.state.specs.Image.{state_of, ok_image}
use Rattle.state.proofs.OwedRow.{owed_such}
use Rattle.state.proofs.ImageLaws.{ok_valid}
use Rattle.calls.specs.declared.Answer.{Answer}
use Rattle.calls.specs.declared.Answer.TheVariants.{
  Refused,
  Forwarded,
  Dropped,
  Looped,
  Replied,
  RepliedForwarded,
  Noticed,
  Done,
  Faulty,
}
use Rattle.calls.specs.Answer.{packed, number_of, Sent, leaves, sends}
use Rattle.calls.specs.Codes.{request_codes, notice_codes, codes_sent, ReplyWith, Replies, Coded, says_reply}
use Rattle.calls.specs.Frame.{Arrived, own, goes_on, replied, frame_served}
use Rattle.calls.specs.Notice.{notice_frame, noticed, notice_served}
use Rattle.calls.specs.Calls.{Call, make, frame, tick, allow, prohibit, notice, restart, short_output, refusal, make_served}
use Rattle.calls.specs.Calls.{served, lent, handed, call, makes, stored, enter}
use Rattle.calls.proofs.CallValid.{passed}
use Rattle.calls.proofs.Standing.{good_parts}
use Rattle.calls.proofs.FrameEach.{such, frame_each}

-- ---- over the definitions

-- a reply of a machine is one of these
replies : (code : ℕ) {codes : List ℕ} → some (eqb code) codes ≡ true → (requester from : ℕ) (tag : List ℕ) (level kind port : ℕ) (m : Machine)
    (copies before : List ℕ)
    → Replies codes before (over (reply_frame requester from tag (reply_pdu level kind code port (status_of m) copies)) before)
unfolding status_of
replies code h requester from tag level kind port m copies before =
    record {
      reply =
          record {
            code = code;
            among = h;
            requester = requester;
            from = from;
            tag = tag;
            level = level;
            kind = kind;
            port = port;
            status = status_of m;
            copies = copies;
            written = refl;
          };
      idle = idle m;
    }
  where
    idle : (m : Machine) → (status_of m).side ≡ None → (status_of m).seconds ≡ 0
    idle Inactive e = refl
    idle (Active x) e = absurd (none-some x.side (sym e))

abbrev Says : Sent → Type 0
Says r = (before : List ℕ) → Coded r.answer before (over r.octets before)

reply_says : (s : State) (a : Arrived) (whom : Addressed) (code : ℕ) (copies : List ℕ) → some (eqb code) request_codes ≡ true
    → Says (replied s a whom code copies)
unfolding replied sends
reply_says s a whom code copies h before = go (goes_on a whom) _
  where
    is : Replies request_codes before (over (replied s a whom code copies).octets before)
    is = replies code h _ _ _ _ _ _ (own s a) copies before

    go : (b : Bool) (n : ℕ) → Coded (cond b RepliedForwarded Replied n) before (over (replied s a whom code copies).octets before)
    go true n = is
    go false n = is

frame_says : (s : State) (port side : ℕ) (l : List ℕ) → Says (frame_served s port side l)
unfolding leaves sends
frame_says = frame_each Says (λ s before. tt) (λ s before. tt) (λ s w before. tt) reply_says

-- a session that is owed a notice has its code
owed_code : (s : State) (x : Session) → not (is_open x) ≡ true → good_session s x ≡ true → some (eqb x.notice) notice_codes ≡ true
unfolding good_time some notice_codes
owed_code s x o g =
    go (eqb x.notice 8) (eqb x.notice 9) (is_allowed x.flow s)
    (both_true (eqb x.left 0) _ (rw (not-true (is_open x) o) at (good_parts s x g).1)).1
  where
    go : (eight nine may : Bool) → ((eight && may) || (nine && not may)) ≡ true → (eight || (nine || false)) ≡ true
    go true nine may h = refl
    go false true may h = refl
    go false false may h = h

module _ (s : State) where
  due : (b : Bool) → eqb (cond b 0 7) 0 ≡ true → b ≡ true
  due true h = refl
  due false h = h

  notice_says : valid s ≡ true → notice_due s ≡ true → Says (notice_served s)
  unfolding notice_served noticed notice_frame sends
  notice_says v owing before =
      replies (first_owed s).notice (owed_such s v owing (λ x. some (eqb x.notice) notice_codes) (owed_code s)) _ _ _ _ _ _ Inactive [] before

  make_says : (clock : ℕ) (r : Reading) → Says (make_served s clock r)
  unfolding make_served leaves
  make_says clock (fault line reason) before = tt
  make_says clock (planned plan) before = tt

  served_says : (c : Call) → (makes c ≡ false → valid s ≡ true) → eqb (refusal s c) 0 ≡ true → Says (served s c)
  unfolding served refusal leaves makes
  served_says (make text clock) v r = make_says clock (plan_in text)
  served_says (frame port side l out) v r = frame_says s port side l
  served_says (tick clock) v r = λ before. tt
  served_says (allow flow) v r = λ before. tt
  served_says (prohibit flow) v r = λ before. tt
  served_says (notice out) v r = notice_says (v refl) (due (notice_due s) (passed (short_output out) 2 _ r).1)
  served_says (restart clock) v r = λ before. tt

  call_says : (c : Call) → (makes c ≡ false → valid s ≡ true) → Coded (call s c).answer (lent c) (call s c).out
  unfolding call handed leaves
  call_says c v = go (eqb (refusal s c) 0) refl
    where
      go : (b : Bool) → eqb (refusal s c) 0 ≡ b
          → Coded (cond b (served s c) (leaves (Refused (refusal s c)) s)).answer (lent c)
          (over (cond b (served s c) (leaves (Refused (refusal s c)) s)).octets (lent c))
      go true e = served_says c v e (lent c)
      go false e = tt

  -- A reply to a request has a code of requests, a notice a code of notices.
  pub codes_sent_lem : valid s ≡ true → (c : Call) → Coded (call s c).answer (lent c) (call s c).out
  codes_sent_lem v c = call_says c (λ m. v)

-- ---- as the host sees it

-- the outcome stands in the low octet of the number
pub low : (outcome reason port side n : ℕ) → outcome ≤ 7 → packed outcome reason port side n % 2 ^ 8 ≡ outcome
unfolding packed
low outcome reason port side n small = omega arith

none : (outcome reason line : ℕ) → outcome ≤ 7 → (eqb outcome 4 || eqb outcome 5) ≡ false
    → says_reply (packed outcome reason 0 0 line) ≡ true → ⊥
unfolding says_reply
none outcome reason line small e h = false≢true (sym e ∙ rw (low outcome reason 0 0 line small) at h)

module _ {before after : List ℕ} where
  wider : (codes : List ℕ) → every (λ code. some (eqb code) codes_sent) codes ≡ true → Replies codes before after
      → Replies codes_sent before after
  wider codes e q =
      let r : _ = q.reply in
      record {
        reply =
            record {
              code = r.code;
              among = such (λ code. some (eqb code) codes_sent) r.code codes r.among e;
              requester = r.requester;
              from = r.from;
              tag = r.tag;
              level = r.level;
              kind = r.kind;
              port = r.port;
              status = r.status;
              copies = r.copies;
              written = r.written;
            };
        idle = q.idle;
      }

  coded_reply : (a : Answer) → says_reply (number_of a) ≡ true → Coded a before after → Replies codes_sent before after
  unfolding number_of every some codes_sent request_codes notice_codes
  coded_reply (Refused n) h r = absurd (none 0 n 0 (omega arith) refl h)
  coded_reply Forwarded h r = absurd (none 1 0 0 (omega arith) refl h)
  coded_reply Dropped h r = absurd (none 2 0 0 (omega arith) refl h)
  coded_reply (Looped n) h r = absurd (none 3 0 n (omega arith) refl h)
  coded_reply (Replied n) h r = wider request_codes refl r
  coded_reply (RepliedForwarded n) h r = wider request_codes refl r
  coded_reply (Noticed port side n) h r = wider notice_codes refl r
  coded_reply Done h r = absurd (none 6 0 0 (omega arith) refl h)
  coded_reply (Faulty line reason) h r = absurd (none 7 reason line (omega arith) refl h)

  -- Codes 3 and 255 are not sent.
  pub never_3_or_255 : (r : ReplyWith codes_sent before after) → (r.code ≡ 3 → ⊥) × (r.code ≡ 255 → ⊥)
  unfolding some codes_sent request_codes notice_codes
  never_3_or_255 r = (λ e. false≢true (rw e at r.among), λ e. false≢true (rw e at r.among))

  -- The code stands behind the addresses, the tag, the type and five octets of the PDU.
  pub code_place : {codes : List ℕ} (r : ReplyWith codes before after) → get_or after (14 + length r.tag + 5) 0 ≡ r.code
  unfolding reply_frame reply_pdu header
  code_place r =
      let flagged : ℕ = flags r.kind r.status r.copies in
      let ahead : List ℕ
      = octets 6 r.requester ++ octets 6 r.from ++ r.tag ++ octets 2 oam_type
      ++ (r.level * 32 ∷ llr ∷ flagged ∷ 8 ∷ r.kind ∷ []) in
      let reply : List ℕ = reply_frame r.requester r.from r.tag
      (reply_pdu r.level r.kind r.code r.port r.status r.copies) in
      let behind : List ℕ
      = octets 6 r.port ++ timer_part r.kind r.code r.status.seconds ++ r.copies ++ (0 ∷ [])
      ++ drop (length reply) before in
      let parted : over reply before ≡ ahead ++ (r.code ∷ behind) = simp append_assoc in
      ap (λ (l : List ℕ). get_or l (14 + length r.tag + 5) 0) (r.written ∙ parted)
      ∙ get_or_at ahead r.code behind 0 (14 + length r.tag + 5) (simp (length-append, octets_length) (omega arith))

-- Whatever octets are lent as the image: a call whose number says reply has written a reply with one of the codes that are sent.
pub entered_codes : (l : List ℕ) (c : Call) → says_reply (enter l c).number ≡ true → Replies codes_sent (lent c) (enter l c).out
unfolding enter stored number_of
entered_codes l c = go (eqb (length l) 4096 && (makes c || ok_image l)) refl
  where
    go : (b : Bool) → (eqb (length l) 4096 && (makes c || ok_image l)) ≡ b
        → says_reply (cond b (stored l (call (state_of l) c)) (record { number = number_of (Refused 8); image = l; out = lent c })).number
        ≡ true
        → Replies codes_sent (lent c)
        (cond b (stored l (call (state_of l) c)) (record { number = number_of (Refused 8); image = l; out = lent c })).out
    go true e h =
        coded_reply (call (state_of l) c).answer h
        (call_says (state_of l) c (λ m. ok_valid l (rw m at (both_true (eqb (length l) 4096) (makes c || ok_image l) e).1)))
    go false e h = absurd (none 0 8 0 (omega arith) refl h)
