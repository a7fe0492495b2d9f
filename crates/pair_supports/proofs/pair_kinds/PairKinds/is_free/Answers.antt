use Rattle.std.proofs.Common.{◌≡◌, true, ap, subst}
use Rattle.graph_theory.specs.Embedding.{Problem}
use Rattle.pair_supports.specs.declared.kinds.PairKind.{PairKind}
use Rattle.pair_supports.specs.Shape.{Shape}
use Rattle.pair_supports.specs.Kinds.{Joins}
use Rattle.pair_supports.proofs.Blocks.{kind_read, consistent_joins}
use Rattle.pair_supports.proofs.pair_kinds.PairKinds.is_free.Goals as goal

pub returns : goal.returns
returns c = λ told t u apart.
    let q = c.args.self.now.problem in
    let same : c.self.inside.problem.now ≡ q = ap (λ (x : Shape). x.problem) c.self.view_is in
    let kind = kind_read c.self.inside.problem.now c.self.inside.vertices c.self.inside.width c.self.inside.kinds.items c.self.inside.places.items c.self.inside.sharing c.self.inside.in_sharing c.self.inside.both_ways c.self.invariant.0 q same c.args.p c.args.r
    c.requires.p_in c.requires.r_in c.requires.apart c.from.result c.from-2.result c.index.result.now c.index-2.result.now
    c.from.ensures c.from-2.ensures c.index.ensures c.index-2.ensures in
    consistent_joins q c.args.p c.args.r t u
    (subst (λ (k : PairKind). (k.apart ≡ true → t ≡ u → ⊥) → Joins q k t u) kind
    (subst (λ (x : Problem). (c.index-2.result.now.apart ≡ true → t ≡ u → ⊥) → Joins x c.index-2.result.now t u) same (c.asks_nothing.ensures told t u)) apart)
