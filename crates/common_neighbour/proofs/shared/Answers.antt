use Rattle.std.proofs.Common.{◌∙◌, refl}
use Rattle.std.specs.Int.{from_bool}
use Rattle.graph_theory.specs.Reversed.{turned}
use Rattle.common_neighbour.proofs.ByRows.{shared_less}
use Rattle.common_neighbour.proofs.shared.Goals as goal

pub overflow_sub-result : goal.overflow_sub-result
overflow_sub-result c =
    (shared_less (turned c.args.direction c.args.graph.now) c.row_by-xs.result.now c.row_by-ys.result.now c.args.a c.args.b c.from.result c.count_both-both.result c.from-2.result c.from-3.result
    c.from-4.result (from_bool c.in_both-other.result) c.in_both-itself.result c.in_both-other.result c.requires.a_in c.requires.b_in c.requires.apart c.row_by-xs.ensures.neighbours
    c.row_by-ys.ensures.neighbours (c.from.ensures ∙ c.size.ensures.size) c.count_both-both.ensures.shared c.from-2.ensures c.in_both-itself.ensures c.from-4.ensures
    c.from-3.ensures c.in_both-other.ensures refl).0

pub overflow_sub-result-2 : goal.overflow_sub-result-2
overflow_sub-result-2 c =
    (shared_less (turned c.args.direction c.args.graph.now) c.row_by-xs.result.now c.row_by-ys.result.now c.args.a c.args.b c.from.result c.count_both-both.result c.from-2.result c.from-3.result
    c.from-4.result c.from-5.result c.in_both-itself.result c.in_both-other.result c.requires.a_in c.requires.b_in c.requires.apart c.row_by-xs.ensures.neighbours
    c.row_by-ys.ensures.neighbours (c.from.ensures ∙ c.size.ensures.size) c.count_both-both.ensures.shared c.from-2.ensures c.in_both-itself.ensures c.from-4.ensures
    c.from-3.ensures c.in_both-other.ensures c.from-5.ensures).1

pub returns : goal.returns
returns c =
    (shared_less (turned c.args.direction c.args.graph.now) c.row_by-xs.result.now c.row_by-ys.result.now c.args.a c.args.b c.from.result c.count_both-both.result c.from-2.result c.from-3.result
    c.from-4.result c.from-5.result c.in_both-itself.result c.in_both-other.result c.requires.a_in c.requires.b_in c.requires.apart c.row_by-xs.ensures.neighbours
    c.row_by-ys.ensures.neighbours (c.from.ensures ∙ c.size.ensures.size) c.count_both-both.ensures.shared c.from-2.ensures c.in_both-itself.ensures c.from-4.ensures
    c.from-3.ensures c.in_both-other.ensures c.from-5.ensures).2
