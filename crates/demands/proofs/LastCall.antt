-- The last call of a run: what is seen of it is what the world after the calls before it answers. So it is of the C entries.
use mathlib.Core.Path.{◌≡◌, refl, sym, ap, ◌∙◌}
use mathlib.Core.Bool.{true}
use mathlib.Core.List.{List, [], ◌∷◌, ◌++◌}
use Prim.Native.Nat.{ℕ, ◌*◌, ◌≤◌, ◌^◌}
use lib.ListN.{length}
use Rattle.plan.specs.Plan.{Plan}
use Rattle.plan.specs.PlanText.{planned, plan_in}
use Rattle.state.specs.Image.{state_of, ok_image}
use Rattle.calls.specs.Calls.{Call, make}
use Rattle.demands.specs.World.{World, fresh}
use Rattle.demands.specs.Calls.{call}
use Rattle.demands.specs.Runs.{Seen, seen, done_seen, world_run, world_after, EntriesRun, AllTyped}
use Rattle.demands.specs.Shown.{world_of}
use Rattle.demands.proofs.DemandTwo.{demand_two, demand_two_made}

-- lists that are equal end alike
last : Seen → List Seen → Seen
last x [] = x
last x (y ∷ ys) = last y ys

last_snoc : (x : Seen) (xs : List Seen) (y : Seen) → last x (xs ++ (y ∷ [])) ≡ y
unfolding last
last_snoc x [] y = refl
last_snoc x (z ∷ xs) y = last_snoc z xs y

same_last : (xs ys : List Seen) (x y : Seen) → xs ++ (x ∷ []) ≡ ys ++ (y ∷ []) → x ≡ y
same_last xs ys x y e = sym (last_snoc x xs x) ∙ ap (last x) e ∙ last_snoc x ys y

module _ (keys : ℕ) where
  pub run_last : (w : World) (cs : List Call) (c : Call)
      → world_run keys w (cs ++ (c ∷ [])) ≡ world_run keys w cs ++ (seen c (call keys (world_after keys w cs) c) ∷ [])
  unfolding world_run world_after
  run_last w [] c = refl
  run_last w (d ∷ cs) c = rw (run_last (call keys w d).world cs c)

  pub after_last : (w : World) (cs : List Call) (c : Call)
      → world_after keys w (cs ++ (c ∷ [])) ≡ (call keys (world_after keys w cs) c).world
  unfolding world_after
  after_last w [] c = refl
  after_last w (d ∷ cs) c = after_last (call keys w d).world cs c

  module _ (big : 33 * 2 ^ 48 ≤ keys) {l : List ℕ} (cs : List Call) (c : Call) (xs : List Seen) (x : Seen)
      {ls : List (List ℕ)} where
    -- on a valid state's image
    pub entries_last : ok_image l ≡ true → AllTyped (cs ++ (c ∷ [])) → EntriesRun l (cs ++ (c ∷ [])) (xs ++ (x ∷ [])) ls
        → x ≡ seen c (call keys (world_after keys (world_of (state_of l)) cs) c)
    entries_last ok typed run =
        let w : World = world_of (state_of l) in
        same_last xs (world_run keys w cs) x (seen c (call keys (world_after keys w cs) c))
        (demand_two keys big ok typed run ∙ run_last w cs c)

    -- after `make`, on a plan's text
    pub made_last : {text : List ℕ} {clock : ℕ} {plan : Plan} → length l ≡ 4096 → plan_in text ≡ planned plan
        → AllTyped (make text clock ∷ (cs ++ (c ∷ [])))
        → EntriesRun l (make text clock ∷ (cs ++ (c ∷ []))) (xs ++ (x ∷ [])) ls
        → x ≡ seen c (call keys (world_after keys (fresh plan clock) cs) c)
    made_last {clock = clock} {plan = plan} long reads typed run =
        let w : World = fresh plan clock in
        same_last xs (done_seen ∷ world_run keys w cs) x (seen c (call keys (world_after keys w cs) c))
        (demand_two_made keys big long reads typed run ∙ ap (λ (ys : List Seen). done_seen ∷ ys) (run_last w cs c))
