use Rattle.std.proofs.Common.{sym, ◌∙◌, ◌==◌, nat_lt, ◌&&◌, not, ℕ}
use Rattle.graph_theory.specs.Neighbours.{common}
use Rattle.graph_theory.specs.Reversed.{turned}
use Rattle.common_neighbour.proofs.Filling.{filled_next, left_next}
use Rattle.common_neighbour.proofs.Counts.fill_at_least.Goals as goal
use Rattle.common_neighbour.proofs.Counts.fill_at_least.Goals.{then-is_near, else-is_near}

pub loop-u-preserved : goal.loop-u-preserved
loop-u-preserved c =
    elim c.if-is_near.branch [
      | then-is_near w ↦ filled_next c.if-is_near.row c.loop-u.row _ (λ (v : ℕ). not (v == c.args.t) && not (nat_lt (common (turned c.self.inside.direction c.self.inside.graph.now) c.args.t v) c.args.c))
          c.loop-u.u w.from.result c.loop-u.invariant w.row-is w.set_bit.ensures w.from.ensures (sym c.is_near.ensures ∙ w.if-is_near.true)
      | else-is_near w ↦ left_next c.if-is_near.row c.loop-u.row (λ (v : ℕ). not (v == c.args.t) && not (nat_lt (common (turned c.self.inside.direction c.self.inside.graph.now) c.args.t v) c.args.c))
          c.loop-u.u c.loop-u.invariant w.row-is (sym c.is_near.ensures ∙ w.if-is_near.false)
    ]
