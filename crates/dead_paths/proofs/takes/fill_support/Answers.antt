use Rattle.std.proofs.Common.{◌≡◌, ℕ, ◌||◌, ◌==◌, is_some, List, sym, ap, subst, ◌∙◌}
use Rattle.graph_theory.specs.Graph.{Graph, edge}
use Rattle.graph_theory.specs.Reversed.{turned}
use Rattle.bit_rows.specs.BitRows.{has}
use Rattle.dead_paths.proofs.Supports.{fits_leads, fits_marked, fits_unmarked}
use Rattle.dead_paths.proofs.takes.fill_support.Goals as goal

pub returns-then-not-keeps_edge_labels : goal.returns-then-not-keeps_edge_labels
returns-then-not-keeps_edge_labels c = λ w w_in fits.
    let lost = c.args.lost in
    ap (λ (row : List ℕ). has row w) c.copy_from_slice.ensures.after ∙ (c.in_row_by-support.ensures.neighbours w ∙ (ap (λ (g : Graph). is_some (edge (turned lost.direction g) w lost.u)) c.target.ensures.target
    ∙ fits_leads c.args.q.now lost.direction lost.p lost.r lost.u w c.requires.joins c.requires.u_in w_in fits))

pub returns-then-has_bit : goal.returns-then-has_bit
returns-then-has_bit c = λ w w_in fits.
    let lost = c.args.lost in
    fits_marked c.args.q.now lost.p lost.r lost.u w c.in_row_by-support.result.now c.part_compatible.new.other c.part_compatible.new.left c.set_bit.new.row c.part_compatible.result c.part_compatible.ensures
    (λ v. subst (λ (n : ℕ). has c.set_bit.new.row v ≡ (has c.part_compatible.new.left v || (n == v))) c.from-then-has_bit.ensures (c.set_bit.ensures v)) w_in
    (c.in_row_by-support.ensures.neighbours w ∙ (ap (λ (g : Graph). is_some (edge (turned lost.direction g) w lost.u)) c.target.ensures.target
    ∙ fits_leads c.args.q.now lost.direction lost.p lost.r lost.u w c.requires.joins c.requires.u_in w_in fits)) fits

pub returns-else-has_bit : goal.returns-else-has_bit
returns-else-has_bit c = λ w w_in fits.
    let lost = c.args.lost in
    fits_unmarked c.args.q.now lost.p lost.r lost.u w c.in_row_by-support.result.now c.part_compatible.new.other c.part_compatible.new.left c.part_compatible.result c.part_compatible.ensures
    (ap (has c.in_row_by-support.result.now) (sym c.from.ensures) ∙ (sym c.has_bit.ensures ∙ c.if-has_bit.false)) w_in
    (c.in_row_by-support.ensures.neighbours w ∙ (ap (λ (g : Graph). is_some (edge (turned lost.direction g) w lost.u)) c.target.ensures.target
    ∙ fits_leads c.args.q.now lost.direction lost.p lost.r lost.u w c.requires.joins c.requires.u_in w_in fits)) fits
