use Rattle.std.proofs.Common.{ℕ, ◌<◌, sym, subst, ◌∙◌}
use Rattle.graph_theory.specs.Graph.{size}
use Rattle.propagation.proofs.Past.{leaves_one, past_quiet}
use Rattle.propagation.proofs.Pruning.{one_by_size}
use Rattle.restart_search.proofs.worker.undecided_of.Goals as goal

pub loop-p-preserved : goal.loop-p-preserved
loop-p-preserved g c =
    let p_in : c.loop-p.p < size c.args.q.now.pattern = subst (λ (n : ℕ). c.loop-p.p < n) (c.vertices-p-end.ensures ∙ c.requires.is_of.vertices_is) c.loop-p-test.true in
    let one = one_by_size c.args.d.now c.loop-p.p (sym c.size.ensures.size ∙ c.if-size-ne1.false) in
    leaves_one _ c.args.d.now c.loop-p.undecided _ _ c.loop-p.p c.loop-p.invariant (past_quiet _ c.args.d.now c.loop-p.p one.0 c.requires.quiet p_in one.1) c.remove.ensures.after
