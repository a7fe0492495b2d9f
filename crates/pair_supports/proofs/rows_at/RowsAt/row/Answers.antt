use Rattle.std.proofs.Common.{ap, arith}
use Rattle.graph_theory.specs.Graph.{size}
use Rattle.pair_supports.specs.Rows.{At}
use Rattle.pair_supports.proofs.Blocks.{held_seen, row_given, consistent_joins, joins_consistent}
use Rattle.pair_supports.proofs.rows_at.RowsAt.row.Goals as goal

pub bounds-self-inside-from : goal.bounds-self-inside-from
bounds-self-inside-from c = omega (arith, c.self.invariant.own_long, ap (λ (x : At). size x.problem.pattern) c.self.view_is, c.requires.r_in, c.from.ensures)

pub slice_bounds-result-end : goal.slice_bounds-result-end
slice_bounds-result-end c =
    let f = c.self.inside in
    let k = c.kinds.inside in
    let at = c.args.self.now in
    let held = held_seen c.kinds.view_is c.self.view_is c.self.invariant in
    let given = row_given at.problem k.width k.kinds.items at.vertex at.value f.places.now f.block.now held c.args.r c.from.result c.from.ensures c.requires.r_in c.requires.apart in
    given.ends

pub returns : goal.returns
returns c =
    let f = c.self.inside in
    let k = c.kinds.inside in
    let at = c.args.self.now in
    let held = held_seen c.kinds.view_is c.self.view_is c.self.invariant in
    let given = row_given at.problem k.width k.kinds.items at.vertex at.value f.places.now f.block.now held c.args.r c.from.result c.from.ensures c.requires.r_in c.requires.apart in
    record {
      long = given.long;
      right = λ u h. consistent_joins at.problem at.vertex c.args.r at.value u (given.row.right u h).1;
      within = λ u h. (given.row.right u h).0;
      complete = λ u consistent u_in. given.row.complete u u_in (joins_consistent at.problem at.vertex c.args.r at.value u consistent);
    }
