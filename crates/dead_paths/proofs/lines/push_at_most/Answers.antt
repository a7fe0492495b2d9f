use Rattle.std.proofs.Common.{ℕ, ◌++◌, List, slice_index, refl, ap, ◌∙◌}
use Rattle.std.specs.Prelude.{map}
use Rattle.log_theory.specs.declared.step.Ref.{Ref}
use Rattle.log_theory.specs.declared.step.Ref.TheVariants.{Line}
use Rattle.journal_theory.proofs.Placing.{take_all}
use Rattle.dead_paths.specs.Lines.{block_ref}
use Rattle.dead_paths.proofs.Marking.{among_at}
use Rattle.dead_paths.proofs.Pushing.{pushed_next}
use Rattle.dead_paths.proofs.lines.push_at_most.Goals as goal

pub at_most_in-requires-clause-t_in : goal.at_most_in-requires-clause-t_in
at_most_in-requires-clause-t_in c = c.requires.values (slice_index c.args.values.now c.loop-t.t-index) (among_at c.args.values.now c.loop-t.t-index (slice_index c.args.values.now c.loop-t.t-index) c.loop-t-test.true refl)

pub loop-t-preserved : goal.loop-t-preserved
loop-t-preserved c =
    pushed_next (block_ref c.args.lines.now c.args.centre) c.args.refs.now.items c.loop-t.refs.items c.push.new.self.items c.args.values.now c.loop-t.t-index 0 (Line c.at_most_in.result) c.loop-t-test.true c.loop-t.invariant c.in_ok-push.ensures.items
    (ap (λ (n : ℕ). let r : Ref = Line n in r) c.at_most_in.ensures.line)

pub returns : goal.returns
returns c = c.loop-t.invariant ∙ ap (λ (xs : List ℕ). c.args.refs.now.items ++ map (block_ref c.args.lines.now c.args.centre) xs) (take_all c.args.values.now c.loop-t.t-index c.loop-t-test.false)
