use Rattle.std.proofs.Common.{◌≤◌, length, arith, sym, subst, inl}
use Rattle.std.proofs.lemmas.List.Elements.{All-more}
use Rattle.parallel_solve.specs.declared.running.Done.{Done}
use Rattle.parallel_solve.specs.Teaming.{IsInterrupted}
use Rattle.parallel_solve.proofs.Interrupting.{ended_of}
use Rattle.parallel_solve.proofs.Runs.{all_taken}
use Rattle.parallel_solve.proofs.running.is_interrupted.Goals as goal

pub loop-place-preserved : goal.loop-place-preserved
loop-place-preserved g c =
    let left = λ (d : Done g.row.L.Denot g.row.L-Told.Denot). IsInterrupted d.outcome → ⊥ in
    All-more left c.args.done.now c.loop-place.place c.index-done-place.result c.loop-place-test.true c.loop-place.invariant
    (c.was_interrupted.ensures.no c.if-was_interrupted.false)

pub returns-then-is_decided-clause-no : goal.returns-then-is_decided-clause-no
returns-then-is_decided-clause-no g c = λ e. inl (c.is_decided.ensures c.if-is_decided.true)

pub returns-then-was_interrupted-clause-yes : goal.returns-then-was_interrupted-clause-yes
returns-then-was_interrupted-clause-yes g c =
    λ e. (
      c.loop-place.place,
      c.index-done-place.result,
      c.loop-place-test.true,
      sym c.index-done-place.is,
      subst (λ (d : Done g.row.L.Denot g.row.L-Told.Denot). IsInterrupted d.outcome) (sym c.index-done-place.is) (c.was_interrupted.ensures.yes c.if-was_interrupted.true),
    )

pub returns-clause-no : goal.returns-clause-no
returns-clause-no g c =
    let whole : length c.args.done.now ≤ c.loop-place.place = omega (arith, c.loop-place-test.false) in
    λ e. ended_of (λ (d : Done g.row.L.Denot g.row.L-Told.Denot). d.outcome) c.args.done.now c.requires
    (all_taken (λ (d : Done g.row.L.Denot g.row.L-Told.Denot). IsInterrupted d.outcome → ⊥) c.args.done.now c.loop-place.place whole c.loop-place.invariant)
