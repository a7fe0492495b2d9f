use borrow.Author.Count.{below_more}
use Rattle.std.proofs.Common.{ℕ, refl}
use Rattle.graph_theory.specs.PlainSteps.{RowIsKept}
use Rattle.graph_theory.proofs.trial.ListedProblem.rows_are_kept.Goals as goal

pub loop-p-preserved : goal.loop-p-preserved
loop-p-preserved c =
    below_more (λ (k : ℕ). RowIsKept c.args.self.now c.args.map.now k) c.loop-p.p c.loop-p.invariant (c.if-not-row_is_kept.ensures.0 refl)
