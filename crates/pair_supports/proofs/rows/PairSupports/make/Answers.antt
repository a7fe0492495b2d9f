use Rattle.std.proofs.Common.{◌≡◌, ◌<◌, arith, ◌∙◌, sym, subst, true}
use Rattle.graph_theory.specs.Graph.{size}
use Rattle.pair_supports.specs.Rows.{Rows, IsMade}
use Rattle.pair_supports.specs.Held.{owns}
use Rattle.pair_supports.proofs.Blocks.{owns_made}
use Rattle.pair_supports.proofs.rows.PairSupports.make.Goals as goal

pub returns-then-is_owner-clause-made : goal.returns-then-is_owner-clause-made
returns-then-is_owner-clause-made c =
    let t_in : c.args.t < size c.self.inside.kinds.now.problem.target = subst (λ (x : Rows). c.args.t < size x.problem.target) (sym c.self.view_is) c.requires.t_in in
    let owned : owns c.self.inside.block_of.items c.self.inside.owners.items c.args.t ≡ true =
    rw (← c.deref.ensures.value, ← c.deref-2.ensures.value) (sym c.is_owner.ensures ∙ c.if-is_owner.true) in
    subst (λ (x : Rows). IsMade x c.args.t) c.self.view_is
    (owns_made c.self.inside.block_of.items c.self.inside.owners.items c.args.t (omega (arith, t_in, c.self.invariant.block_of_are)) ∙ owned)
