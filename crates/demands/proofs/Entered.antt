-- A call of the C entries on a valid state's image, by its promise: what is seen of it, and the octets after it.
use mathlib.Core.Path.{◌≡◌, refl, sym, ◌∙◌}
use mathlib.Core.Bool.{Bool, true, false, cond, ◌||◌, true≢false}
use mathlib.Core.List.{List}
use Prim.Native.Nat.{ℕ}
use lib.Dec.{eqb}
use lib.ListN.{length}
use borrow.Author.Tests.{eq-eqb}
use Rattle.octets.specs.Octets.{over}
use Rattle.plan.specs.PlanText.{Reading, fault, planned, plan_in}
use Rattle.state.specs.State.{valid}
use Rattle.state.specs.Image.{image, state_of, ok_image}
use Rattle.state.proofs.ImageLaws.{ok_length, state_image, image_ok}
use Rattle.calls.specs.declared.Answer.TheVariants.{Refused}
use Rattle.calls.specs.Answer.{Sent, leaves, number_of}
use Rattle.calls.specs.Calls.{Call, make, frame, tick, allow, prohibit, notice, restart, refusal, make_served, served}
use Rattle.calls.specs.Calls.{lent, handed, call, makes, keeps_image, stored, enter}
use Rattle.calls.proofs.CallValid.{FairCall}
use Rattle.tmavolice.specs.Outcome.{Outcome}
use Rattle.tmavolice.proofs.Rewrites.{served_rewrites}
use Rattle.demands.specs.Frame.{Told}
use Rattle.demands.specs.Runs.{Seen, seen, Typed}
use Rattle.demands.proofs.Shows.{Alike}
use Rattle.demands.proofs.CallShown.{sent}

pub typed_fair : (c : Call) → Typed c → FairCall c
typed_fair (make text clock) t = t
typed_fair (frame port side octets out) t = t
typed_fair (tick clock) t = t
typed_fair (allow flow) t = t
typed_fair (prohibit flow) t = t
typed_fair (notice out) t = t
typed_fair (restart clock) t = t

-- ---- a call on a valid state's image

module _ (l : List ℕ) (ok : ok_image l ≡ true) where
  enter_call : (c : Call) → enter l c ≡ stored l (call (state_of l) c)
  unfolding enter
  enter_call c = rw (eq-eqb (length l) 4096 (ok_length l ok), ok) (go (makes c))
    where
      go : (m : Bool)
          → cond (m || true) (stored l (call (state_of l) c)) (record { number = number_of (Refused 8); image = l; out = lent c })
          ≡ stored l (call (state_of l) c)
      go true = refl
      go false = refl

  -- an answer that keeps the image keeps the state
  abbrev Keeps : Sent → Type 0
  Keeps x = keeps_image x.answer ≡ true → x.state ≡ state_of l

  make_keeps : (clock : ℕ) (r : Reading) → Keeps (make_served (state_of l) clock r)
  unfolding make_served leaves keeps_image
  make_keeps clock (fault line reason) k = refl
  make_keeps clock (planned plan) k = absurd (true≢false (sym k))

  other_keeps : (c : Call) → makes c ≡ false → Keeps (served (state_of l) c)
  other_keeps c m k = absurd (true≢false (sym k ∙ served_rewrites (state_of l) c m))

  served_keeps : (c : Call) → Keeps (served (state_of l) c)
  unfolding served makes
  served_keeps (make text clock) = make_keeps clock (plan_in text)
  served_keeps (frame port side octets out) = other_keeps (frame port side octets out) refl
  served_keeps (tick clock) = other_keeps (tick clock) refl
  served_keeps (allow flow) = other_keeps (allow flow) refl
  served_keeps (prohibit flow) = other_keeps (prohibit flow) refl
  served_keeps (notice out) = other_keeps (notice out) refl
  served_keeps (restart clock) = other_keeps (restart clock) refl

  pub sent_keeps : (c : Call) → Keeps (sent (state_of l) c)
  unfolding sent leaves
  sent_keeps c = go (eqb (refusal (state_of l) c) 0)
    where
      go : (b : Bool) → Keeps (cond b (served (state_of l) c) (leaves (Refused (refusal (state_of l) c)) (state_of l)))
      go true = served_keeps c
      go false = λ k. refl

  -- the octets after it are the image of the state after it
  pub left_ok : (x : Sent) → Keeps x → valid x.state ≡ true
      → (ok_image (cond (keeps_image x.answer) l (image x.state)) ≡ true)
      × (state_of (cond (keeps_image x.answer) l (image x.state)) ≡ x.state)
  left_ok x keeps v = go (keeps_image x.answer) refl
    where
      go : (b : Bool) → keeps_image x.answer ≡ b
          → (ok_image (cond b l (image x.state)) ≡ true) × (state_of (cond b l (image x.state)) ≡ x.state)
      go true e = (ok, sym (keeps e))
      go false e = (image_ok x.state v, state_image x.state v)

  -- what its promise says was seen
  module _ (c : Call) {x : Seen} {left : List ℕ} (o : Outcome (enter l c) x.number left x.out) where
    pub left_is : left ≡ cond (keeps_image (sent (state_of l) c).answer) l (image (sent (state_of l) c).state)
    unfolding stored call handed sent
    left_is = rw (enter_call c) at o.stored

    number_is : x.number ≡ number_of (sent (state_of l) c).answer
    unfolding stored call handed sent
    number_is = rw (enter_call c) at o.answered

    out_is : x.out ≡ over (sent (state_of l) c).octets (lent c)
    unfolding stored call handed sent
    out_is = rw (enter_call c) at o.written

    pub seen_same : {t : Told} → Alike (sent (state_of l) c) t → x ≡ seen c t
    unfolding seen
    seen_same a = rw (a.answer_same, a.octets_same, sym number_is, sym out_is)
