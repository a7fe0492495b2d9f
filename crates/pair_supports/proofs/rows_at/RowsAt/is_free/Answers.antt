use Rattle.std.proofs.Common.{◌≡◌, true, ap, arith, subst, ◌∙◌}
use Rattle.graph_theory.specs.Graph.{size}
use Rattle.graph_theory.specs.Embedding.{Problem}
use Rattle.pair_supports.specs.declared.kinds.PairKind.{PairKind}
use Rattle.pair_supports.specs.Kinds.{Joins}
use Rattle.pair_supports.specs.Rows.{At}
use Rattle.pair_supports.specs.Shape.{Shape}
use Rattle.pair_supports.proofs.Blocks.{held_seen, kind_given, consistent_joins}
use Rattle.pair_supports.proofs.rows_at.RowsAt.is_free.Goals as goal

pub bounds-self-inside-from : goal.bounds-self-inside-from
bounds-self-inside-from c = omega (arith, c.self.invariant.own_long, ap (λ (x : At). size x.problem.pattern) c.self.view_is, c.requires.r_in, c.from.ensures)

pub index-requires : goal.index-requires
index-requires c =
    let f = c.self.inside in
    let k = c.kinds.inside in
    let at = c.args.self.now in
    let held = held_seen c.kinds.view_is c.self.view_is c.self.invariant in
    let given = kind_given at.problem k.width k.kinds.items at.vertex at.value f.places.now f.block.now held c.args.r c.from.result c.from.ensures c.requires.r_in c.requires.apart in
    omega (arith, given.within, k.kinds.ok)

pub returns : goal.returns
returns c = λ told u apart.
    let f = c.self.inside in
    let k = c.kinds.inside in
    let at = c.args.self.now in
    let held = held_seen c.kinds.view_is c.self.view_is c.self.invariant in
    let given = kind_given at.problem k.width k.kinds.items at.vertex at.value f.places.now f.block.now held c.args.r c.from.result c.from.ensures c.requires.r_in c.requires.apart in
    let same : k.problem.now ≡ at.problem = ap (λ (x : Shape). x.problem) c.kinds.view_is ∙ ap (λ (x : At). x.problem) c.self.view_is in
    consistent_joins at.problem at.vertex c.args.r at.value u
    (subst (λ (x : PairKind). (x.apart ≡ true → at.value ≡ u → ⊥) → Joins at.problem x at.value u) (given.is c.index.result.now c.index.ensures)
    (subst (λ (x : Problem). (c.index.result.now.apart ≡ true → at.value ≡ u → ⊥) → Joins x c.index.result.now at.value u) same (c.asks_nothing.ensures told at.value u)) apart)
