-- A call on the lent image, refused or served, as the host sees it.
use mathlib.Core.Path.{◌≡◌, refl, sym, ◌∙◌}
use mathlib.Core.Bool.{Bool, true, false, ◌&&◌, ◌||◌, and-false}
use mathlib.Core.List.{List, []}
use Prim.Native.Nat.{ℕ, ◌≤◌}
use native.Mathlib.Omega.{arith}
use lib.Dec.{eqb}
use lib.ListN.{length}
use borrow.Author.Tests.{eq-eqb, ne_eqb}
use Rattle.std.specs.Prelude.{Result, IsErrAnd}
use Rattle.std.proofs.lemmas.Result.{err_from_is_err_and}
use Rattle.state.specs.State.{State}
use Rattle.state.specs.Image.{image, state_of, ok_image}
use Rattle.state.proofs.ImageLaws.{ok_length}
use Rattle.calls.specs.declared.Answer.{Answer}
use Rattle.calls.specs.declared.Answer.TheVariants.{Refused, Done}
use Rattle.calls.specs.Answer.{leaves, number_of}
use Rattle.calls.specs.Calls.{Call, refusal, served, lent, handed, call, Entered, makes, stored, enter}
use Rattle.calls.specs.Codes.{codes_sent, Replies, says_reply}
use Rattle.calls.proofs.Alone.{refused_8_alone, refused_image_alone}
use Rattle.calls.proofs.CodesSent.{entered_codes}
use Rattle.calls_requests.specs.Arrival.{Served}
use Rattle.tmavolice.specs.Outcome.{Outcome}
use Rattle.tmavolice.specs.Checks.{refusal_number, answer_of, checked, Checked}
use Rattle.tmavolice.specs.declared.refusals.Refusal.{Refusal}
use Rattle.tmavolice.proofs.CheckLaws.{numbered}
use Rattle.tmavolice.proofs.Rewrites.{served_rewrites}

-- is there a state to call?
asks : (l : List ℕ) (c : Call) → makes c ≡ false → (eqb (length l) 4096 && (makes c || ok_image l)) ≡ ok_image l
asks l c m = go (ok_image l) refl
  where
    go : (t : Bool) → ok_image l ≡ t → (eqb (length l) 4096 && (makes c || ok_image l)) ≡ ok_image l
    go true e = simp (m, e, eq-eqb (length l) 4096 (ok_length l e))
    go false e = simp (m, e, and-false (eqb (length l) 4096))

refused_is : (l : List ℕ) (c : Call) → makes c ≡ false → (checked l c ≡ 0 → ⊥)
    → enter l c ≡ record { number = number_of (Refused (checked l c)); image = l; out = lent c }
unfolding checked
refused_is l c m n = go (ok_image l) refl
  where
    go : (t : Bool) → ok_image l ≡ t
        → enter l c ≡ record { number = number_of (Refused (checked l c)); image = l; out = lent c }
    go true e = rw e (refused_image_alone l c (asks l c m ∙ e) (ne_eqb _ _ (rw e at n)))
    go false e = rw e (refused_8_alone l c (asks l c m ∙ e))

served_is : (l : List ℕ) (c : Call) → makes c ≡ false → checked l c ≡ 0
    → enter l c ≡ stored l (handed c (served (state_of l) c))
unfolding checked enter call
served_is l c m z = go (ok_image l) refl
  where
    go : (t : Bool) → ok_image l ≡ t → enter l c ≡ stored l (handed c (served (state_of l) c))
    go true e = let r : refusal (state_of l) c ≡ 0 = rw e at z in rw (asks l c m, e, r)
    go false e = let r : ◌≡◌ {A = ℕ} 8 0 = rw e at z in absurd (omega arith)

module _ {l : List ℕ} {c : Call} {Known : Type 0} {no : ℕ} (k : Checked l c Known no) (m : makes c ≡ false) {r : ℕ} where
  -- A refusal answers its number, and every octet stays.
  pub entered_refused : (no ≡ 0 → ⊥) → r ≡ number_of (Refused no) → Outcome (enter l c) r l (lent c)
  entered_refused n e =
      let f : checked l c ≡ 0 → ⊥ = λ z. n (k.right ∙ z) in
      rw (refused_is l c m f) (record { answered = rw (← k.right) e; stored = refl; written = refl })

  -- What is served leaves the image of its state, and writes its octets.
  pub entered_served : no ≡ 0 → {a : Answer} {left after : List ℕ} → Served (served (state_of l) c) a left (lent c) after
      → r ≡ number_of a → Outcome (enter l c) r left after
  unfolding stored handed
  entered_served z v e =
      rw (served_is l c m (sym k.right ∙ z), served_rewrites (state_of l) c m)
      (record { answered = rw (← v.answered) e; stored = v.stored; written = v.written })

-- The checks end in a refusal: the call answers it, and every octet stays.
pub entered_err : {l : List ℕ} {c : Call} {Known : Type 0} (e : Refusal) (r : Result Answer Refusal) → IsErrAnd r (λ d. d ≡ e)
    → Checked l c Known (refusal_number e) → makes c ≡ false → Outcome (enter l c) (number_of (answer_of r)) l (lent c)
entered_err e r told k m =
    let p : _ = err_from_is_err_and r told in
    let h : 1 ≤ refusal_number e = numbered e in
    rw (p.1, p.2) (entered_refused k m (λ z. omega arith) refl)

-- a call without an output that is done
pub done : (s : State) {left : List ℕ} → left ≡ image s → Served (leaves Done s) Done left [] []
unfolding leaves
done s e = record { answered = refl; stored = e; written = refl }

-- Two outcomes of one call are equal: the number, and every octet of image and output.
pub answers_agree : {x : Entered} {n n' : ℕ} {left left' out out' : List ℕ} → Outcome x n left out → Outcome x n' left' out'
    → (n ≡ n') × ((left ≡ left') × (out ≡ out'))
answers_agree p q = (p.answered ∙ sym q.answered, (p.stored ∙ sym q.stored, p.written ∙ sym q.written))

-- An entry whose number says reply has written a reply with one of the codes that are sent.
pub entries_codes : (l : List ℕ) (c : Call) {n : ℕ} {left out : List ℕ} → Outcome (enter l c) n left out → says_reply n ≡ true
    → Replies codes_sent (lent c) out
entries_codes l c o h = rw o.written (entered_codes l c (rw o.answered at h))
