use Rattle.std.proofs.Common.{◌<◌, sym, ap, ◌∙◌, arith}
use Rattle.std.proofs.Common.{is_some}
use Rattle.graph_theory.specs.Graph.{Graph, edge}
use Rattle.small_search.proofs.Words.{in_both}
use Rattle.small_search.proofs.Placed.{stands}
use Rattle.small_search.proofs.placing.joined.Goals as goal

pub returns : goal.returns
returns c = λ t t_in goes.
    let q = c.args.q.now in
    let below : t < 64 = omega (arith, t_in, c.requires.target) in
    in_both c.word_where-from.result c.word_where-to.result t
    (c.word_where-from.ensures t below (λ yes. c.in_row.ensures.neighbours t ∙ ap (λ (g : Graph). is_some (edge g t c.args.u)) c.target.ensures.target
    ∙ stands q.induced (edge q.pattern c.args.p c.args.r) (edge q.target t c.args.u) goes.out
    (sym (ap (λ (g : Graph). is_some (edge g c.args.p c.args.r)) c.pattern.ensures.pattern) ∙ sym c.has_edge.ensures ∙ yes)))
    (c.word_where-to.ensures t below (λ yes. c.row.ensures.neighbours t ∙ ap (λ (g : Graph). is_some (edge g c.args.u t)) c.target-2.ensures.target
    ∙ stands q.induced (edge q.pattern c.args.r c.args.p) (edge q.target c.args.u t) goes.back
    (sym (ap (λ (g : Graph). is_some (edge g c.args.r c.args.p)) c.pattern-2.ensures.pattern) ∙ sym c.has_edge-2.ensures ∙ yes)))
