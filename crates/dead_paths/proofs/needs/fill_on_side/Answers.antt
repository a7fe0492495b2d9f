use Rattle.std.proofs.Common.{◌≡◌, ◌+◌, ◌∙◌, ℕ, nat_lt, ap, sym, subst}
use Rattle.graph_theory.specs.Graph.{size}
use Rattle.bit_rows.specs.BitRows.{has}
use Rattle.recorder.specs.declared.change.Side.{Side}
use Rattle.recorder.specs.Telling.{is_beside}
use Rattle.dead_paths.proofs.Resting.{past_kept}
use Rattle.dead_paths.proofs.needs.fill_on_side.Goals as goal

pub returns-in-Lesser : goal.returns-in-Lesser
returns-in-Lesser c = λ w w_in on_side.
    past_kept c.fill_below.new.row c.fill_below-in-Lesser.new.row c.and_not_into.new.into c.args.u (size c.args.q.now.target) c.count_values.result w c.count_values.ensures.is c.fill_below.ensures
    (subst (λ (t : ℕ). (v : ℕ) → has c.fill_below-in-Lesser.new.row v ≡ nat_lt v (t + 1)) c.from.ensures c.fill_below-in-Lesser.ensures) c.and_not_into.ensures.members w_in
    (sym (ap (λ (s : Side). is_beside s c.args.u w) c.in-Lesser.is) ∙ on_side)

pub returns-in-Greater : goal.returns-in-Greater
returns-in-Greater c = λ w w_in on_side.
    subst (λ (t : ℕ). (v : ℕ) → has c.fill_below-in-Greater.new.row v ≡ nat_lt v t) c.from-in-Greater.ensures c.fill_below-in-Greater.ensures w ∙ (sym (ap (λ (s : Side). is_beside s c.args.u w) c.in-Greater.is) ∙ on_side)
