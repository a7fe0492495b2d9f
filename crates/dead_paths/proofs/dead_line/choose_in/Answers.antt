use Rattle.std.proofs.Common.{[], arith}
use Rattle.graph_theory.specs.Graph.{size}
use Rattle.recorder.specs.Recording.{changes_of, set_at}
use Rattle.dead_paths.specs.Choosing.{values_of, chosen_in}
use Rattle.dead_paths.specs.Explaining.{end_by}
use Rattle.dead_paths.proofs.Ends.{choice_is}
use Rattle.dead_paths.proofs.Resting.{rows_again}
use Rattle.dead_paths.proofs.dead_line.choose_in.Goals as goal

pub mark_end-requires-clause-held : goal.mark_end-requires-clause-held
mark_end-requires-clause-held c = rows_again (size c.args.walk.now.q.now.target) c.args.marked.now c.unmark_all.new.marked c.args.needed.now c.args.needed.now (omega (arith, c.unmark_all.auto.marked)) (omega arith) c.requires.held

pub choose-requires-clause-held : goal.choose-requires-clause-held
choose-requires-clause-held c =
    rows_again (size c.args.walk.now.q.now.target) c.args.marked.now c.mark_end.new.marked c.args.needed.now c.mark_end.new.needed (omega (arith, c.unmark_all.auto.marked, c.mark_end.auto.marked)) (omega (arith, c.mark_end.auto.needed)) c.requires.held

pub returns-clause-choice : goal.returns-clause-choice
returns-clause-choice c = λ path here.
    choice_is c.args.walk.now.q.now c.args.walk.now.rows.now path (changes_of c.args.walk.now.numbers.now c.args.entries.now) (chosen_in c.args.walk.now.numbers.now c.choose.new.chosen.items) (end_by c.args.end.0 (set_at c.args.walk.now.numbers.now c.args.end.1) [])
    (values_of (size c.args.walk.now.q.now.target) c.mark_end.new.marked c.mark_end.new.needed) c.choose.result (c.in_ok-mark_end.ensures.needs path here) (c.choose.ensures.choice path here)
