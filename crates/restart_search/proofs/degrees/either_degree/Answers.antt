use Rattle.std.proofs.Common.{◌∙◌, arith}
use Rattle.restart_search.proofs.EitherWay.{either-mutual, Sums, sums_made}
use Rattle.restart_search.proofs.degrees.either_degree.Goals as goal

pub returns-then-is_mutual : goal.returns-then-is_mutual
returns-then-is_mutual c = c.degree.ensures ∙ either-mutual c.args.graph.now c.args.a (c.is_mutual.ensures c.if-is_mutual.true) c.requires

pub overflow_add-result : goal.overflow_add-result
overflow_add-result c =
    let sums : Sums c.args.graph.now c.args.a c.degree-2.result c.in_degree.result c.from-itself.result c.count_both-both.result =
    sums_made c.args.graph.now c.args.a c.degree-2.result c.in_degree.result c.from-itself.result c.count_both-both.result c.from-size.result c.row.result.now c.in_row.result.now
    c.has_edge.result c.requires c.degree-2.ensures c.in_degree.ensures c.from-itself.ensures c.has_edge.ensures (c.from-size.ensures ∙ c.size.ensures.size) c.row.ensures.neighbours
    c.in_row.ensures.neighbours c.count_both-both.ensures.shared in
    omega (arith, sums.few, sums.in_few, sums.loop, sums.all, c.size.ensures.few, c.size.ensures.size)

pub overflow_add-result-2 : goal.overflow_add-result-2
overflow_add-result-2 c =
    let sums : Sums c.args.graph.now c.args.a c.degree-2.result c.in_degree.result c.from-itself.result c.count_both-both.result =
    sums_made c.args.graph.now c.args.a c.degree-2.result c.in_degree.result c.from-itself.result c.count_both-both.result c.from-size.result c.row.result.now c.in_row.result.now
    c.has_edge.result c.requires c.degree-2.ensures c.in_degree.ensures c.from-itself.ensures c.has_edge.ensures (c.from-size.ensures ∙ c.size.ensures.size) c.row.ensures.neighbours
    c.in_row.ensures.neighbours c.count_both-both.ensures.shared in
    omega (arith, sums.few, sums.in_few, sums.loop, sums.all, c.size.ensures.few, c.size.ensures.size)

pub overflow_sub-result : goal.overflow_sub-result
overflow_sub-result c =
    let sums : Sums c.args.graph.now c.args.a c.degree-2.result c.in_degree.result c.from-itself.result c.count_both-both.result =
    sums_made c.args.graph.now c.args.a c.degree-2.result c.in_degree.result c.from-itself.result c.count_both-both.result c.from-size.result c.row.result.now c.in_row.result.now
    c.has_edge.result c.requires c.degree-2.ensures c.in_degree.ensures c.from-itself.ensures c.has_edge.ensures (c.from-size.ensures ∙ c.size.ensures.size) c.row.ensures.neighbours
    c.in_row.ensures.neighbours c.count_both-both.ensures.shared in
    omega (arith, sums.few, sums.in_few, sums.loop, sums.all, c.size.ensures.few, c.size.ensures.size)

pub returns : goal.returns
returns c =
    let sums : Sums c.args.graph.now c.args.a c.degree-2.result c.in_degree.result c.from-itself.result c.count_both-both.result =
    sums_made c.args.graph.now c.args.a c.degree-2.result c.in_degree.result c.from-itself.result c.count_both-both.result c.from-size.result c.row.result.now c.in_row.result.now
    c.has_edge.result c.requires c.degree-2.ensures c.in_degree.ensures c.from-itself.ensures c.has_edge.ensures (c.from-size.ensures ∙ c.size.ensures.size) c.row.ensures.neighbours
    c.in_row.ensures.neighbours c.count_both-both.ensures.shared in
    omega (arith, sums.few, sums.in_few, sums.loop, sums.all, c.size.ensures.few, c.size.ensures.size)
