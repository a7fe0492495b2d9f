use Rattle.std.proofs.Common.{ap, sym, ◌∙◌}
use Rattle.log_theory.specs.Tables.{Table, standing}
use Rattle.pb_propagation.proofs.SharedRows.{kept_more, fresh_above, shared_step}
use Rattle.pb_propagation.proofs.table.Table.share.Goals as goal

pub invariant_of-self-2 : goal.invariant_of-self-2
invariant_of-self-2 c =
    rw (c.in_ok-push_row.ensures.ok.0, c.in_ok-push_row.ensures.ok.1)
    (kept_more _ _ c.args.row _ c.self.invariant (fresh_above _ _ c.args.row c.args.self.now (sym (ap (λ (t : Table). t.shared) c.self.view_is)) c.self.invariant.long c.in_ok-fresh_row.ensures))

pub returns : goal.returns
returns c model =
    shared_step model _ _ _ _ _ c.args.self.now c.args.row c.args.name _ c.in-Some-constraint.field-0.now c.self.view_is c.self.invariant.long c.in_ok-push_row.ensures.ok.0 c.in_ok-push_row.ensures.ok.1
    (c.in_ok-shared.ensures ∙ sym c.in-Some-constraint.ensures) (sym (ap standing c.in-Some.ensures) ∙ sym c.in-Some-constraint.ensures) c.in_ok-fresh_row.ensures
