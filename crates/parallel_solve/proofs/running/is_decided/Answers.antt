use Rattle.std.proofs.Common.{sym, subst}
use Rattle.parallel_solve.specs.declared.running.Done.{Done}
use Rattle.parallel_solve.specs.Teaming.{Decides}
use Rattle.parallel_solve.proofs.running.is_decided.Goals as goal

pub returns-then-decides : goal.returns-then-decides
returns-then-decides g c =
    λ e. (
      c.loop-place.place,
      c.index-done-place.result,
      c.loop-place-test.true,
      sym c.index-done-place.is,
      subst (λ (d : Done g.row.L.Denot g.row.L-Told.Denot). Decides d.outcome) (sym c.index-done-place.is) (c.decides.ensures.yes c.if-decides.true),
    )
