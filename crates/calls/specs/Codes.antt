-- The machine (MACHINE): the response codes that are sent, as MACHINE-19 lists them, and in which answers.
use Rattle.std.specs.Prelude.{◌≡◌, Bool, true, ◌||◌, List, [], ◌∷◌, ◌++◌, ℕ, ◌%◌, ◌^◌, eqb, None}
use Rattle.octets.specs.Octets.{over}
use Rattle.octets.specs.Lists.{some}
use Rattle.codec.specs.declared.Status.{Status}
use Rattle.codec_replies.specs.Reply.{reply_pdu, reply_frame}
use Rattle.calls.specs.declared.Answer.{Answer}
use Rattle.calls.specs.declared.Answer.TheVariants.{
  Refused,
  Forwarded,
  Dropped,
  Looped,
  Replied,
  RepliedForwarded,
  Noticed,
  Done,
  Faulty,
}

-- MACHINE-19: the codes of replies to requests.
unfoldable pub request_codes : List ℕ
request_codes = 0 ∷ 1 ∷ 2 ∷ 4 ∷ 5 ∷ 6 ∷ 7 ∷ 10 ∷ []

-- MACHINE-19: the codes of notices, 8 Timeout and 9 Prohibited.
unfoldable pub notice_codes : List ℕ
notice_codes = 8 ∷ 9 ∷ []

-- MACHINE-19: all codes that are ever sent; neither 3 nor 255 is one of them.
unfoldable pub codes_sent : List ℕ
codes_sent = request_codes ++ notice_codes

-- the front of an output, written over with a reply that has one of these codes, whatever else it says
pub record ReplyWith (codes before after : List ℕ) : Type 0 where
  pub code : ℕ
  pub among : some (eqb code) codes ≡ true
  pub requester : ℕ
  pub from : ℕ
  pub tag : List ℕ
  pub level : ℕ
  pub kind : ℕ
  pub port : ℕ
  pub status : Status
  pub copies : List ℕ
  pub written : after ≡ over (reply_frame requester from tag (reply_pdu level kind code port status copies)) before

-- REPLY-12: and that gives an inactive machine, which has no side, 0 seconds
pub record Replies (codes before after : List ℕ) : Type 0 where
  pub reply : ReplyWith codes before after
  pub idle : reply.status.side ≡ None → reply.status.seconds ≡ 0

-- what an answer says of the output: a reply to a request, or a notice; no other answer is a reply
abbrev pub Coded : Answer → List ℕ → List ℕ → Type 0
Coded (Refused n) before after = Unit {0}
Coded Forwarded before after = Unit {0}
Coded Dropped before after = Unit {0}
Coded (Looped n) before after = Unit {0}
Coded (Replied n) before after = Replies request_codes before after
Coded (RepliedForwarded n) before after = Replies request_codes before after
Coded (Noticed port side n) before after = Replies notice_codes before after
Coded Done before after = Unit {0}
Coded (Faulty line reason) before after = Unit {0}

-- CALL-20, CALL-21: do bits 0 to 7 of the host's number say reply, or reply and forward?
unfoldable pub says_reply : ℕ → Bool
says_reply number = eqb (number % 2 ^ 8) 4 || eqb (number % 2 ^ 8) 5
