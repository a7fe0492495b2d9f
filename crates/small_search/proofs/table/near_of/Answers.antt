use Rattle.std.proofs.Common.{ap, ◌∙◌}
use Rattle.std.proofs.Common.{is_some}
use Rattle.graph_theory.specs.Graph.{Graph, edge}
use Rattle.small_search.proofs.Tables.{are_near}
use Rattle.small_search.proofs.table.near_of.Goals as goal

pub returns : goal.returns
returns c =
    are_near c.args.q.now c.args.p c.row.result.now c.in_row.result.now c.requires.small
    (λ b. c.row.ensures.neighbours b ∙ ap (λ (g : Graph). is_some (edge g c.args.p b)) c.pattern.ensures.pattern)
    (λ b. c.in_row.ensures.neighbours b ∙ ap (λ (g : Graph). is_some (edge g b c.args.p)) c.pattern-2.ensures.pattern)
