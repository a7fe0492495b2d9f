use Rattle.std.proofs.Common.{ap, arith}
use Rattle.graph_theory.specs.Graph.{size}
use Rattle.pair_supports.specs.declared.kinds.PairKind.{PairKind}
use Rattle.pair_supports.specs.Rows.{At}
use Rattle.pair_supports.proofs.Blocks.{held_seen, kind_given}
use Rattle.pair_supports.proofs.rows_at.RowsAt.is_apart.Goals as goal

pub bounds-self-inside-from : goal.bounds-self-inside-from
bounds-self-inside-from c = omega (arith, c.self.invariant.own_long, ap (λ (x : At). size x.problem.pattern) c.self.view_is, c.requires.r_in, c.from.ensures)

pub index-requires : goal.index-requires
index-requires c =
    let f = c.self.inside in
    let k = c.kinds.inside in
    let at = c.args.self.now in
    let held = held_seen c.kinds.view_is c.self.view_is c.self.invariant in
    let given = kind_given at.problem k.width k.kinds.items at.vertex at.value f.places.now f.block.now held c.args.r c.from.result c.from.ensures c.requires.r_in c.requires.apart in
    omega (arith, given.within, k.kinds.ok)

pub returns : goal.returns
returns c =
    let f = c.self.inside in
    let k = c.kinds.inside in
    let at = c.args.self.now in
    let held = held_seen c.kinds.view_is c.self.view_is c.self.invariant in
    let given = kind_given at.problem k.width k.kinds.items at.vertex at.value f.places.now f.block.now held c.args.r c.from.result c.from.ensures c.requires.r_in c.requires.apart in
    ap (λ (x : PairKind). x.apart) (given.is c.index.result.now c.index.ensures)
