-- Two worlds in which a frame's own machine is the same, and which are as full for its flow, serve the frame alike.
use mathlib.Core.Path.{◌≡◌, refl, sym, ap, ◌∙◌}
use mathlib.Core.Bool.{Bool, true, false, cond}
use mathlib.Core.List.{List}
use Prim.Native.Nat.{ℕ}
use lib.Dec.{ltb}
use lib.ListN.{length}
use Rattle.codec.specs.declared.FrameSet.{FrameSet}
use Rattle.codec.specs.declared.Addressed.{Addressed}
use Rattle.codec.specs.declared.Addressed.TheVariants.{Elsewhere, Unicast, Multicast}
use Rattle.codec.specs.declared.Request.{Request}
use Rattle.codec.specs.declared.Request.TheVariants.{Malformed, Reserved, Activate, Deactivate, State as StateRequest}
use Rattle.codec.specs.FrameSet.{source, destination}
use Rattle.codec.specs.Request.{request_of}
use Rattle.machine.specs.declared.Fate.{Fate}
use Rattle.machine.specs.declared.Fate.TheVariants.{Forward, Drop, Loop}
use Rattle.calls.specs.declared.Answer.{Answer}
use Rattle.calls.specs.declared.Answer.TheVariants.{Forwarded, Dropped}
use Rattle.calls.specs.Frame.{Arrived, pdu, goes_on}
use Rattle.demands.specs.Machine.{Step, is_prohibited}
use Rattle.demands.specs.World.{World, full_for}
use Rattle.demands.specs.Frame.{Told, leaves, sends, own, by_fate, data_served, replied, stepped, answers, request_served}
use Rattle.demands.specs.Frame.{by_whom, is_for}
use Rattle.demands.specs.Data.{AnsweredAlike}
use Rattle.demands.proofs.FrameWorlds.{own_becomes}
use Rattle.demands.proofs.Asked.{own_becomes_lem}

module _ (set : FrameSet) (a : Arrived) where
  abbrev Both : Told → Told → Type 0
  Both x y = AnsweredAlike a.port.number set (source a.frame) x y

  module _ (u w : World) (m : own u set a ≡ own w set a) where
    leaves_both : (answer : Answer) → Both (leaves answer u) (leaves answer w)
    unfolding leaves own
    leaves_both answer = record { answer_same = refl; octets_same = refl; own_same = m }

    sends_both : (answer : ℕ → Answer) {k l : List ℕ} → k ≡ l → Both (sends answer u k) (sends answer w l)
    unfolding sends own
    sends_both answer e = record { answer_same = ap (λ l. answer (length l)) e; octets_same = e; own_same = m }

    fates_both : (g : Fate) → Both (by_fate u a g) (by_fate w a g)
    unfolding by_fate
    fates_both Forward = leaves_both Forwarded
    fates_both Drop = leaves_both Dropped
    fates_both Loop = sends_both _ refl

    data_both : Both (data_served u set a) (data_served w set a)
    unfolding data_served
    data_both = rw m (fates_both _)

    replied_both : (whom : Addressed) (code : ℕ) (copies : List ℕ) → Both (replied u set a whom code copies) (replied w set a whom code copies)
    unfolding replied
    replied_both whom code copies = sends_both _ (rw m)

  module _ (keys : ℕ) (u w : World) (m : own u set a ≡ own w set a) where
    stepped_both : (whom : Addressed) {g h : Step} → g ≡ h → Both (stepped u set a whom g) (stepped w set a whom h)
    unfolding stepped
    stepped_both whom {h = h} e =
        rw e
        (replied_both (own_becomes u set a h.next) (own_becomes w set a h.next)
        (own_becomes_lem u set a h.next ∙ sym (own_becomes_lem w set a h.next)) whom h.code _)

    module _ (full : full_for keys a.flow u ≡ full_for keys a.flow w) where
      answers_both : (whom : Addressed) (r : Request) → Both (answers keys u set a whom r) (answers keys w set a whom r)
      unfolding answers
      answers_both whom Malformed = replied_both u w m whom _ _
      answers_both whom Reserved = replied_both u w m whom _ _
      answers_both whom (Activate seconds) = stepped_both whom (rw (full, m))
      answers_both whom Deactivate = stepped_both whom (rw m)
      answers_both whom StateRequest = stepped_both whom (rw m)

      request_both : (whom : Addressed) → Both (request_served keys u set a whom) (request_served keys w set a whom)
      unfolding request_served
      request_both whom = rw m (go (is_prohibited (own w set a)) (ltb (length (pdu a)) 12))
        where
          said : Request
          said = request_of whom (destination a.frame) (pdu a)

          served : World → Bool → Bool → Told
          served v barred short =
              cond barred (leaves (cond (goes_on a whom) Forwarded Dropped) v) (cond short (leaves Dropped v) (answers keys v set a whom said))

          go : (barred short : Bool) → Both (served u barred short) (served w barred short)
          go true short = leaves_both u w m _
          go false true = leaves_both u w m Dropped
          go false false = answers_both whom said

    pub whom_both : (whom : Addressed) → (is_for whom ≡ true → full_for keys a.flow u ≡ full_for keys a.flow w)
        → Both (by_whom keys u set a whom) (by_whom keys w set a whom)
    unfolding by_whom is_for
    whom_both Elsewhere full = data_both u w m
    whom_both Unicast full = request_both (full refl) Unicast
    whom_both Multicast full = request_both (full refl) Multicast
