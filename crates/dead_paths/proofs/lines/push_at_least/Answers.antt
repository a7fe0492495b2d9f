use Rattle.std.proofs.Common.{ℕ, ◌++◌, List, slice_index, refl, ap, ◌∙◌}
use Rattle.std.specs.Prelude.{map}
use Rattle.log_theory.specs.declared.step.Ref.{Ref}
use Rattle.log_theory.specs.declared.step.Ref.TheVariants.{Line}
use Rattle.journal_theory.proofs.Placing.{take_all}
use Rattle.dead_paths.specs.Lines.{at_least_ref}
use Rattle.dead_paths.proofs.Marking.{among_at}
use Rattle.dead_paths.proofs.Pushing.{pushed_next}
use Rattle.dead_paths.proofs.lines.push_at_least.Goals as goal

pub at_least-requires : goal.at_least-requires
at_least-requires c = c.requires (slice_index c.args.vertices.now c.loop-p.p-index) (among_at c.args.vertices.now c.loop-p.p-index (slice_index c.args.vertices.now c.loop-p.p-index) c.loop-p-test.true refl)

pub loop-p-preserved : goal.loop-p-preserved
loop-p-preserved c =
    pushed_next (at_least_ref c.args.lines.now) c.args.refs.now.items c.loop-p.refs.items c.push.new.self.items c.args.vertices.now c.loop-p.p-index 0 (Line c.at_least.result) c.loop-p-test.true c.loop-p.invariant c.in_ok-push.ensures.items
    (ap (λ (n : ℕ). let r : Ref = Line n in r) c.at_least.ensures.line)

pub returns : goal.returns
returns c = c.loop-p.invariant ∙ ap (λ (xs : List ℕ). c.args.refs.now.items ++ map (at_least_ref c.args.lines.now) xs) (take_all c.args.vertices.now c.loop-p.p-index c.loop-p-test.false)
