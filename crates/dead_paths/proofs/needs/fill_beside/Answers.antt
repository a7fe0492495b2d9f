use Rattle.std.proofs.Common.{◌≡◌, ◌==◌, ◌&&◌, ◌∙◌, ℕ, not, is_some, subst}
use Rattle.graph_theory.specs.Graph.{Graph, edge}
use Rattle.graph_theory.specs.Reversed.{turned}
use Rattle.bit_rows.specs.BitRows.{has}
use Rattle.dead_paths.proofs.Resting.{beside_left}
use Rattle.dead_paths.proofs.needs.fill_beside.Goals as goal

pub returns : goal.returns
returns c = λ u u_in other leads off.
    beside_left c.fill_without.new.row c.row_by.result.now c.and_into.new.into c.unset_bit.new.row c.args.t u c.and_into.ensures.members (subst (λ (t : ℕ). (v : ℕ) → has c.unset_bit.new.row v ≡ (has c.and_into.new.into v && not (t == v))) c.from.ensures c.unset_bit.ensures)
    (c.fill_without.ensures.rest u u_in off)
    (subst (λ (g : Graph). (w : ℕ) → has c.row_by.result.now w ≡ is_some (edge (turned c.args.direction g) c.args.t w)) c.target.ensures.target c.row_by.ensures.neighbours u ∙ leads) other
