use Rattle.std.proofs.Common.{map, ap, sym, ◌∙◌}
use Rattle.log_theory.specs.Tables.{Table}
use Rattle.pb_propagation.proofs.SharedRows.{rows_forms}
use Rattle.pb_propagation.proofs.table.Table.shared.Goals as goal

pub returns : goal.returns
returns c = c.deref.ensures.value ∙ sym (rows_forms _ _ c.self.invariant.long) ∙ ap (λ (t : Table). map (λ s. s.1) t.shared) c.self.view_is
