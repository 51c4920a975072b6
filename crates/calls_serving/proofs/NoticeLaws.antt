-- A notice written, and its session taken out.
use mathlib.Core.Path.{◌≡◌, refl, sym, ap, ◌∙◌}
use mathlib.Core.Bool.{true}
use mathlib.Core.List.{List, [], ◌∷◌, ◌++◌}
use Prim.Native.Nat.{ℕ, zero, suc, ◌+◌, ◌-◌, ◌^◌, ◌<◌, ◌≤◌}
use native.Mathlib.Nat.{zero-add, suc-add}
use native.Mathlib.Omega.{arith}
use lib.ListN.{length, take, drop, length-append}
use lib.Seq.{take_all}
use borrow.Rule.Slice.PartMut.{mid_of, put_mid}
use Rattle.std.specs.Prelude.{Option}
use Rattle.octets.specs.Octets.{octets, over}
use Rattle.octets.specs.Lists.{within}
use Rattle.octets.proofs.Laws.{octets_length}
use Rattle.octets.proofs.Over.{then_over}
use Rattle.codec.specs.FrameSet.{oam_type}
use Rattle.codec_replies.specs.Reply.{active_flags, flags_by, flags, header, carries_timer, timer_part, reply_pdu, reply_frame}
use Rattle.machine.specs.declared.Session.{Session}
use Rattle.machine.specs.declared.Machine.TheVariants.{Inactive}
use Rattle.machine.specs.Machine.{key_of, status_of}
use Rattle.plan.specs.declared.Port.{Port}
use Rattle.plan.specs.Plan.{port_numbered}
use Rattle.state.specs.State.{State, first_owed}
use Rattle.state.specs.Image.{state_of, ok_image}
use Rattle.state.specs.Rows.{row_found, session_at, numbered_at, flow_of_row}
use Rattle.state.proofs.ImageLaws.{ok_valid, image_state}
use Rattle.state.proofs.PlaceLaws.{numbered_flow, ok_places, ok_numbers}
use Rattle.state_store.specs.StoredRows.{row_removed, session_removed}
use Rattle.state_store.proofs.Images.{laid, removed_image}
use Rattle.calls.specs.declared.Answer.TheVariants.{Noticed}
use Rattle.calls.specs.Answer.{sends}
use Rattle.calls.specs.Notice.{port_of, notice_frame, noticed, notice_served}
use Rattle.calls.proofs.Fits.{notice_length}
use Rattle.calls_requests.specs.Arrival.{Served}

-- ---- the frame

-- the last n octets of a number are those of its lowest n
last_octets : (k n x : ℕ) → drop k (octets (k + n) x) ≡ octets n x
unfolding octets
last_octets zero n x = rw zero-add
last_octets (suc k) n x = rw suc-add (last_octets k n x)

-- the last so many of four octets, as the part that is read from there on
abbrev last_of : ℕ → List ℕ → List ℕ
last_of w t = take (4 - (4 - w)) (drop (4 - w) t)

tag_octets : (count tag : ℕ) {w : ℕ} {t : List ℕ} → count ≤ 4 → t ≡ octets 4 tag → w ≡ count
    → last_of w t ≡ octets count tag
tag_octets count tag few et ew =
    let m : 4 - (4 - count) ≡ count = omega arith in
    let k : 4 - count + count ≡ 4 = omega arith in
    let d : drop (4 - count) (octets 4 tag) ≡ octets count tag
    = ap (λ (n : ℕ). drop (4 - count) (octets n tag)) (sym k) ∙ last_octets (4 - count) count tag in
    rw (ew, et, d, m) (take_all count (octets count tag) (omega (arith, octets_length count tag)))

-- addresses, tag octets and type
abbrev head_of : ℕ → ℕ → List ℕ → List ℕ
head_of requester from tag = octets 6 requester ++ octets 6 from ++ tag ++ octets 2 oam_type

head_length : (requester from : ℕ) (tag : List ℕ) → length (head_of requester from tag) ≡ 14 + length tag
head_length requester from tag = simp (length-append, octets_length) (omega arith)

-- what a notice's PDU is: the header and End
bare : (x : Session) (address : ℕ) → header x.level 0 2 x.notice address ++ (0 ∷ [])
    ≡ reply_pdu x.level 2 x.notice address (status_of Inactive) []
unfolding reply_pdu timer_part carries_timer flags flags_by active_flags header status_of within octets
bare x address = refl

module _ (port : Port) (x : Session) (o : List ℕ)
    (pre : (x.level < 8) × ((x.taglen ≤ 4) × ((x.tag < 2 ^ 32) × (2008 ≤ length o))))
    {w n : ℕ} {t y : List ℕ} (et : t ≡ octets 4 x.tag) (ew : w ≡ x.taglen)
    (put : (n ≡ 14 + length (last_of w t)) × (y ≡ over (head_of x.source port.address (last_of w t)) o)) where
  abbrev tag : List ℕ
  tag = octets x.taglen x.tag

  abbrev head : List ℕ
  head = head_of x.source port.address tag

  head_end : n ≡ 14 + x.taglen
  head_end = put.0 ∙ rw (tag_octets x.taglen x.tag pre.1.0 et ew, octets_length)

  headed : y ≡ over head o
  headed = rw (tag_octets x.taglen x.tag pre.1.0 et ew) at put.1

  long : length head ≡ 14 + x.taglen
  long = head_length x.source port.address tag ∙ rw octets_length

  pub notice_written : {k : ℕ} {z : List ℕ}
      → (k ≡ 13) × (z ≡ over (header x.level 0 2 x.notice port.address ++ (0 ∷ [])) (mid_of n (length y - n) y))
      → (n + k ≡ length (notice_frame port x)) × (put_mid n (length y - n) y z ≡ over (notice_frame port x) o)
  unfolding notice_frame reply_frame
  notice_written (ek, ez) =
      let pdu : List ℕ = reply_pdu x.level 2 x.notice port.address (status_of Inactive) [] in
      let some : length (head ++ pdu) ≡ 27 + x.taglen = notice_length port x in
      let end : length head ≡ n = long ∙ sym head_end in (
        omega (arith, ek, some, head_end),
        then_over head pdu o n headed (rw (bare x port.address) at ez) end
            (omega (arith, pre, some, length-append head pdu)),
      )

-- ---- the port, and the call

module _ (l : List ℕ) (ok : ok_image l ≡ true) where
  pub port_found : (x : Session) {row : Option ℕ} {number : ℕ} {p : Port} → row ≡ row_found (numbered_at x.flow l) → number ≡ (flow_of_row row l).port
      → p ≡ port_numbered number (state_of l).plan → p ≡ port_of (state_of l) x
  unfolding port_of
  port_found x er en ep = rw (ep, en, er, numbered_flow l (ok_places l ok) (ok_numbers l ok) x.flow)

  pub notice_taken : {x : Session} {p : Port} {n : ℕ} {row : Option ℕ} {left out out' : List ℕ} → x ≡ first_owed (state_of l)
      → p ≡ port_of (state_of l) x
      → (n ≡ length (notice_frame p x)) × (out' ≡ over (notice_frame p x) out)
      → row ≡ row_found (session_at (key_of x) l) → left ≡ row_removed row l
      → Served (notice_served (state_of l)) (Noticed p.number x.side n) left out out'
  unfolding notice_served noticed sends session_removed
  notice_taken {x} ex ep (en, eo) er el =
      let s : State = state_of l in
      let gone : _ = rw (image_state l ok) at (removed_image s (laid s (ok_valid l ok)) (key_of x)) in
      rw (← ex, ← ep) (record { answered = rw en; stored = rw er at el ∙ gone; written = eo })
