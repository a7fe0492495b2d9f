use Rattle.std.proofs.Common.{◌∙◌, ap}
use Rattle.graph_theory.specs.Graph.{Graph, label}
use Rattle.initial_domains.proofs.Degrees.{first_right, first_complete}
use Rattle.initial_domains.proofs.fill_first.Goals as goal

pub returns-clause-right : goal.returns-clause-right
returns-clause-right c =
    first_right c.args.q.now c.args.kept.now c.args.p c.label.result c.fill_kept.new.row c.keep_equal.new.row c.keep_loops.new.row c.labels.result.now c.requires.problem
    c.fill_kept.ensures.right c.keep_equal.ensures c.keep_loops.ensures.right

pub returns-clause-complete : goal.returns-clause-complete
returns-clause-complete c =
    first_complete c.args.q.now c.args.kept.now c.args.p c.label.result c.fill_kept.new.row c.keep_equal.new.row c.keep_loops.new.row c.labels.result.now c.requires.problem
    (c.labels.ensures ∙ ap (λ (g : Graph). g.labels) c.target-target.ensures.target) (c.label.ensures ∙ ap (λ (g : Graph). label g c.args.p) c.pattern.ensures.pattern)
    c.fill_kept.ensures.complete c.keep_equal.ensures c.keep_loops.ensures.complete
