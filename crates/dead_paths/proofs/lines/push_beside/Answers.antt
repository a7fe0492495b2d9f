use Rattle.std.proofs.Common.{ℕ, ◌++◌, List, slice_index, refl, ap, ◌∙◌}
use Rattle.log_theory.specs.declared.step.Ref.{Ref}
use Rattle.log_theory.specs.declared.step.Ref.TheVariants.{Line}
use Rattle.journal_theory.proofs.Placing.{take_all}
use Rattle.dead_paths.specs.Lines.{edge_ref, beside_refs}
use Rattle.dead_paths.proofs.Marking.{among_at}
use Rattle.dead_paths.proofs.Pushing.{pushed_next}
use Rattle.dead_paths.proofs.lines.push_beside.Goals as goal

pub edge-requires-clause-r_in : goal.edge-requires-clause-r_in
edge-requires-clause-r_in c = c.requires.vertices (slice_index c.args.vertices.now c.loop-r.r-index) (among_at c.args.vertices.now c.loop-r.r-index (slice_index c.args.vertices.now c.loop-r.r-index) c.loop-r-test.true refl)

pub edge-requires-clause-exists : goal.edge-requires-clause-exists
edge-requires-clause-exists c = c.requires.pairs (slice_index c.args.vertices.now c.loop-r.r-index) (among_at c.args.vertices.now c.loop-r.r-index (slice_index c.args.vertices.now c.loop-r.r-index) c.loop-r-test.true refl)

pub loop-r-preserved : goal.loop-r-preserved
loop-r-preserved c =
    pushed_next (λ (r : ℕ). edge_ref c.args.lines.now c.args.p r c.args.t) c.args.refs.now.items c.loop-r.refs.items c.push.new.self.items c.args.vertices.now c.loop-r.r-index 0 (Line c.edge.result) c.loop-r-test.true c.loop-r.invariant c.in_ok-push.ensures.items
    (ap (λ (n : ℕ). let r : Ref = Line n in r) c.edge.ensures.line)

pub returns : goal.returns
returns c = c.loop-r.invariant ∙ ap (λ (xs : List ℕ). c.args.refs.now.items ++ beside_refs c.args.lines.now c.args.p c.args.t xs) (take_all c.args.vertices.now c.loop-r.r-index c.loop-r-test.false)
