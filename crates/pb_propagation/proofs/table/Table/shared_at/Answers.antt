use Rattle.std.proofs.Common.{List, ℕ, Option, slice_get, ap, sym, subst, ◌∙◌}
use Rattle.proof_theory.specs.Forms.{Form}
use Rattle.log_theory.specs.Tables.{Table, shared_at, standing}
use Rattle.pb_propagation.specs.Rows.{StandsAt, WouldStand}
use Rattle.pb_propagation.proofs.SharedRows.{shared_where, shared_nowhere}
use Rattle.pb_propagation.proofs.table.Table.shared_at.Goals as goal

pub returns-in-Ok : goal.returns-in-Ok
returns-in-Ok c =
    let s = subst (λ (rs : List ℕ). StandsAt rs c.args.row c.in-Ok.at) c.deref.ensures.value c.in-Ok.ensures in
    c.item_at.ensures ∙ ap (λ (os : List (Option Form)). standing (slice_get os c.in-Ok.at)) c.deref-in-Ok.ensures.value ∙ sym (sym (ap (λ (t : Table). shared_at t.shared c.args.row) c.self.view_is) ∙ (shared_where _ _ c.args.row c.in-Ok.at c.self.invariant s).0)

pub returns-in-Err : goal.returns-in-Err
returns-in-Err c =
    let w = subst (λ (rs : List ℕ). WouldStand rs c.args.row c.in-Err.field-0) c.deref.ensures.value c.in-Err.ensures in
    sym (sym (ap (λ (t : Table). shared_at t.shared c.args.row) c.self.view_is) ∙ (shared_nowhere _ _ c.args.row c.in-Err.field-0 w).0)
