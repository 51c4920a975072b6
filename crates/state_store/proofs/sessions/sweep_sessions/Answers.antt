use mathlib.Core.Path.{refl, ap, ◌∙◌}
use Prim.Native.Nat.{ℕ, ◌+◌, ◌*◌}
use native.Mathlib.Omega.{arith}
use borrow.Author.Rules.{rules}
use Rattle.machine.specs.Machine.{key_of}
use Rattle.octets.specs.Octets.{low_octets}
use Rattle.state.specs.Image.{session_row}
use Rattle.state_store.specs.StoredRows.{InTypes, sessions_mapped}
use Rattle.state_store.proofs.MapLaws.{mapped_from, mapped_stop, mapped_turn, mapped_done}
use Rattle.state_store.proofs.SweptLaws.{swept_all, swept_stop, swept_done, swept_turn}
use Rattle.state_store.proofs.Steps.{kept_in}
use Rattle.state_store.proofs.Ways.{rest_written}
use Rattle.state_store.proofs.sessions.sweep_sessions.Goals as goal

pub loop-i-init : goal.loop-i-init
unfolding mapped_from sessions_mapped
loop-i-init g c = (search rules, (λ i. (c.type_inv.b i).fits), (λ f keyed is. refl), λ after. swept_all _)

pub loop-i-preserved : goal.loop-i-preserved
unfolding session_row low_octets
loop-i-preserved g c =
    let l : _ = c.loop-i.invariant in
    let x : _ = c.read_session-x.ensures.0 in
    let at : ℕ = 1536 + c.loop-i.i * 32 in (
      c.write_rest.auto.b ∙ l.0,
      (λ i. (c.type_inv.b i).fits),
      (λ f keyed is.
          let y : _ = is _ _ c.step.ensures in
          let key : _ = ap key_of y ∙ keyed c.read_session-x.result in
          let put : _ = rest_written at c.step.result c.loop-i.b l.1 (omega arith) (kept_in _ _ _ key x) c.write_rest.ensures in
          mapped_turn _ _ _ c.loop-i-test.true l.0 (l.2 f keyed is) c.low8.ensures c.if-low8-eq0.false x y put),
      λ after r.
          let typed : InTypes c.step.result
          = record {
            flow_in = search rules;
            source_in = search rules;
            level_in = search rules;
            side_in = search rules;
            taglen_in = search rules;
            tag_in = search rules;
            left_in = search rules;
            notice_in = search rules;
          } in
          l.3 after
          (swept_turn _ _ _ {y = c.step.result} c.loop-i-test.true l.0 c.low8.ensures c.if-low8-eq0.false x typed c.step.ensures c.write_rest.ensures r),
    )

pub returns-clause-mapped : goal.returns-clause-mapped
returns-clause-mapped g c = λ f keyed is. mapped_done _ _ _ _ _ (c.loop-i.invariant.2 f keyed is) (omega arith)

pub returns-clause-swept : goal.returns-clause-swept
returns-clause-swept g c = c.loop-i.invariant.3 _ (swept_done _ _ _ _ (omega arith))

pub returns-then-low8-eq0-clause-mapped : goal.returns-then-low8-eq0-clause-mapped
returns-then-low8-eq0-clause-mapped g c =
    λ f keyed is. mapped_stop f _ _ _ _ (c.loop-i.invariant.2 f keyed is) _ c.low8.ensures c.if-low8-eq0.true

pub returns-then-low8-eq0-clause-swept : goal.returns-then-low8-eq0-clause-swept
returns-then-low8-eq0-clause-swept g c =
    c.loop-i.invariant.3 _ (swept_stop _ _ _ _ _ c.low8.ensures c.if-low8-eq0.true)
