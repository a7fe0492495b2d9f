-- What is decided of the problem is decided of the call with each text of the target.

use Rattle.std.proofs.Common.{ap, ◌∙◌}
use Rattle.graph_theory.specs.Graph.{Graph}
use Rattle.subgraph_c.specs.Asking.{problem_of}
use Rattle.subgraph_c.proofs.HeldStatuses.{held_end_says}
use Rattle.subgraph_c.proofs.holding.decide_read_at.Goals as goal

pub returns-clause-says : goal.returns-clause-says
returns-clause-says g c =
    held_end_says c.decide_in_room_at-ended.result c.args.pattern c.args.pairs.items c.args.target c.args.asked.now.pattern.now c.args.asked.now.options.now
    c.args.asked.now.less.now c.args.room c.problem_of-q.result c.requires.premises c.requires.format
    (c.problem_of-q.ensures ∙ ap (λ (g : Graph). problem_of c.args.pattern g c.args.asked.now.options.now c.args.asked.now.less.now) c.into_parts-graph.ensures.graph)
    c.decide_in_room_at-ended.ensures.says c.decide_in_room_at-ended.ensures.asked
