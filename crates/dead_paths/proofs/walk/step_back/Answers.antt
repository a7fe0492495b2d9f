use Rattle.std.proofs.Common.{true, false}
use Rattle.graph_theory.specs.Graph.{size}
use Rattle.dead_paths.specs.Choosing.{values_of}
use Rattle.dead_paths.proofs.Walking.{come_on, come_past}
use Rattle.dead_paths.proofs.walk.step_back.Goals as goal

pub returns-in-Passed-clause-come : goal.returns-in-Passed-clause-come
returns-in-Passed-clause-come c = λ path seen first here h.
    let step = c.in_ok-choice.ensures.step path here in
    come_past c.args.walk.now.q.now c.args.walk.now.rows.now path c.args.walk.now.numbers.now seen c.args.chosen.now.items first (values_of (size c.args.walk.now.q.now.target) c.args.marked.now c.args.needed.now) (values_of (size c.args.walk.now.q.now.target) c.go_back.new.marked c.go_back.new.needed) c.args.entry.now h (rw c.in-Passed.is at step)

pub returns-in-AsTold-clause-come : goal.returns-in-AsTold-clause-come
returns-in-AsTold-clause-come c = λ path seen first here h.
    let step = c.in_ok-choice.ensures.step path here in
    come_on c.args.walk.now.q.now c.args.walk.now.rows.now path c.args.walk.now.numbers.now seen c.args.chosen.now.items c.put_chosen.new.chosen.items first (values_of (size c.args.walk.now.q.now.target) c.args.marked.now c.args.needed.now) (values_of (size c.args.walk.now.q.now.target) c.go_back.new.marked c.go_back.new.needed) c.args.entry.now false h
    c.requires.in_problem (rw c.in-AsTold.is at step) c.put_chosen.result c.put_chosen.ensures

pub returns-in-ByEdges-clause-come : goal.returns-in-ByEdges-clause-come
returns-in-ByEdges-clause-come c = λ path seen first here h.
    let step = c.in_ok-choice.ensures.step path here in
    come_on c.args.walk.now.q.now c.args.walk.now.rows.now path c.args.walk.now.numbers.now seen c.args.chosen.now.items c.put_chosen-in-ByEdges.new.chosen.items first (values_of (size c.args.walk.now.q.now.target) c.args.marked.now c.args.needed.now) (values_of (size c.args.walk.now.q.now.target) c.go_back.new.marked c.go_back.new.needed) c.args.entry.now true h
    c.requires.in_problem (rw c.in-ByEdges.is at step) c.put_chosen-in-ByEdges.result c.put_chosen-in-ByEdges.ensures
