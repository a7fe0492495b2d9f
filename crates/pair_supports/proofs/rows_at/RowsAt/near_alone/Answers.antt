use Rattle.std.proofs.Common.{◌≡◌, ◌<◌, ◌↔◌, false, ap, arith, subst, ◌∙◌}
use Rattle.std.proofs.lemmas.Option.{IfSome_then}
use Rattle.graph_theory.specs.Graph.{size}
use Rattle.graph_theory.specs.Embedding.{Problem}
use Rattle.graph_theory.specs.Neighbours.{is_neighbour}
use Rattle.graph_rows.specs.Held.{stands_in}
use Rattle.pair_supports.specs.declared.kinds.PairKind.{PairKind}
use Rattle.pair_supports.specs.Kinds.{Joins}
use Rattle.pair_supports.specs.Rows.{At}
use Rattle.pair_supports.specs.Shape.{Shape}
use Rattle.pair_supports.proofs.Blocks.{held_seen, kind_given, listed_consistent}
use Rattle.pair_supports.proofs.rows_at.RowsAt.near_alone.Goals as goal

pub bounds-self-inside-from : goal.bounds-self-inside-from
bounds-self-inside-from c = omega (arith, c.self.invariant.own_long, ap (λ (x : At). size x.problem.pattern) c.self.view_is, c.requires.r_in, c.from.ensures)

pub index-requires : goal.index-requires
index-requires c =
    let f = c.self.inside in
    let k = c.kinds.inside in
    let at = c.args.self.now in
    let held = held_seen c.kinds.view_is c.self.view_is c.self.invariant in
    let given = kind_given at.problem k.width k.kinds.items at.vertex at.value f.places.now f.block.now held c.args.r c.from.result c.from.ensures c.requires.r_in c.requires.apart in
    omega (arith, given.within, k.kinds.ok)

pub returns-then-asks_no_edge-clause-asked : goal.returns-then-asks_no_edge-clause-asked
returns-then-asks_no_edge-clause-asked c =
    let f = c.self.inside in
    let k = c.kinds.inside in
    let at = c.args.self.now in
    let held = held_seen c.kinds.view_is c.self.view_is c.self.invariant in
    let given = kind_given at.problem k.width k.kinds.items at.vertex at.value f.places.now f.block.now held c.args.r c.from.result c.from.ensures c.requires.r_in c.requires.apart in
    let same : k.problem.now ≡ at.problem = ap (λ (x : Shape). x.problem) c.kinds.view_is ∙ ap (λ (x : At). x.problem) c.self.view_is in
    IfSome_then c.neighbours.result c.neighbours.ensures.listed (λ us listed u u_in.
    listed_consistent at.problem at.vertex c.args.r at.value u us.now
    (subst (λ (x : PairKind). Joins at.problem x at.value u ↔ ((at.value ≡ u → ⊥) × (is_neighbour at.problem.target at.value u ≡ false))) (given.is c.index.result.now c.index.ensures)
    (subst (λ (x : Problem). at.value < size x.target → u < size x.target → Joins x c.index.result.now at.value u ↔ ((at.value ≡ u → ⊥) × (is_neighbour x.target at.value u ≡ false))) same
    (c.asks_no_edge.ensures c.if-asks_no_edge.true at.value u) held.value_in u_in))
    (subst (λ (x : At). stands_in us.now u ≡ is_neighbour x.problem.target x.value u) c.self.view_is (listed u)))
