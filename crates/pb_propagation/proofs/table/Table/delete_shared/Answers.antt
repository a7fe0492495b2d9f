use Rattle.std.proofs.Common.{List, ℕ, Option, slice_get, ap, sym, subst, ◌∙◌}
use Rattle.proof_theory.specs.Forms.{Form}
use Rattle.log_theory.specs.Tables.{Table, shared_at, standing}
use Rattle.pb_propagation.specs.Rows.{StandsAt, WouldStand}
use Rattle.pb_propagation.proofs.SharedRows.{shared_where, shared_nowhere, unrowed_step, unrow_step}
use Rattle.pb_propagation.proofs.table.Table.delete_shared.Goals as goal

pub returns-in_default : goal.returns-in_default
returns-in_default c model =
    let w = subst (λ (rs : List ℕ). WouldStand rs c.args.row c.in_default.field-0) c.deref.ensures.value c.in_default.ensures in
    unrowed_step model c.args.self.now c.args.row (sym (ap (λ (t : Table). shared_at t.shared c.args.row) c.self.view_is) ∙ (shared_nowhere _ _ c.args.row c.in_default.field-0 w).0)

pub returns-in_default-item_at : goal.returns-in_default-item_at
returns-in_default-item_at c model =
    let s = subst (λ (rs : List ℕ). StandsAt rs c.args.row c.in-Ok.at) c.deref.ensures.value c.in-Ok.ensures in
    unrowed_step model c.args.self.now c.args.row
    (sym (ap (λ (t : Table). shared_at t.shared c.args.row) c.self.view_is) ∙ (shared_where _ _ c.args.row c.in-Ok.at c.self.invariant s).0
    ∙ ap (λ (os : List (Option Form)). standing (slice_get os c.in-Ok.at)) (sym c.deref-2.ensures.value) ∙ sym c.in_default-item_at.ensures)

pub returns : goal.returns
returns c model =
    let s = subst (λ (rs : List ℕ). StandsAt rs c.args.row c.in-Ok.at) c.deref.ensures.value c.in-Ok.ensures in
    unrow_step model _ _ _ _ c.args.self.now c.args.row c.in-Ok.at c.in-Some.field-0.now c.self.view_is c.self.invariant s
    (sym (ap (λ (t : Table). shared_at t.shared c.args.row) c.self.view_is) ∙ (shared_where _ _ c.args.row c.in-Ok.at c.self.invariant s).0
    ∙ ap (λ (os : List (Option Form)). standing (slice_get os c.in-Ok.at)) (sym c.deref-2.ensures.value) ∙ sym c.in-Some.ensures)
    c.clear_slot.ensures
