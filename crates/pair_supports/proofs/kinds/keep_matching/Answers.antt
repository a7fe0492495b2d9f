use Rattle.std.proofs.Common.{is_some, ap, ◌∙◌}
use Rattle.graph_theory.specs.Graph.{Graph, edge}
use Rattle.pair_supports.proofs.ByWords.{matching_right, matching_complete}
use Rattle.pair_supports.proofs.kinds.keep_matching.Goals as goal

pub returns-clause-right : goal.returns-clause-right
returns-clause-right c =
    matching_right c.args.q.now c.args.kind.now c.args.t c.args.row.now c.keep_agreeing.new.row c.keep_agreeing-2.new.row c.row.result.now c.in_row.result.now
    (λ u. c.row.ensures.neighbours u ∙ ap (λ (g : Graph). is_some (edge g c.args.t u)) c.target.ensures.target)
    (λ u. c.in_row.ensures.neighbours u ∙ ap (λ (g : Graph). is_some (edge g u c.args.t)) c.target-2.ensures.target)
    (rw (c.induced.ensures, c.is_some.ensures) at c.keep_agreeing.ensures)
    (rw (c.induced-2.ensures, c.is_some-2.ensures) at c.keep_agreeing-2.ensures)
    c.requires.told c.requires.t_in c.requires.within

pub returns-clause-complete : goal.returns-clause-complete
returns-clause-complete c =
    matching_complete c.args.q.now c.args.kind.now c.args.t c.args.row.now c.keep_agreeing.new.row c.keep_agreeing-2.new.row c.row.result.now c.in_row.result.now
    (λ u. c.row.ensures.neighbours u ∙ ap (λ (g : Graph). is_some (edge g c.args.t u)) c.target.ensures.target)
    (λ u. c.in_row.ensures.neighbours u ∙ ap (λ (g : Graph). is_some (edge g u c.args.t)) c.target-2.ensures.target)
    (rw (c.induced.ensures, c.is_some.ensures) at c.keep_agreeing.ensures)
    (rw (c.induced-2.ensures, c.is_some-2.ensures) at c.keep_agreeing-2.ensures)
