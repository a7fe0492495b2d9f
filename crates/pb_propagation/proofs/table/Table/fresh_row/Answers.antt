use Rattle.std.proofs.Common.{ℕ, List, subst, ap, sym, arith}
use Rattle.log_theory.specs.Tables.{Table}
use Rattle.pb_propagation.specs.Rows.{StandsAt, WouldStand}
use Rattle.pb_propagation.proofs.SharedRows.{row_used, row_below, row_above}
use Rattle.pb_propagation.proofs.table.Table.fresh_row.Goals as goal

pub returns-then-at-len : goal.returns-then-at-len
returns-then-at-len c =
    let w = subst (λ (rs : List ℕ). WouldStand rs c.args.row c.in-Err.at) c.deref.ensures.value c.in-Err.ensures in
    let h = c.if-at-len.true in
    let o = c.self.inside.rows.ok.0 in
    row_below _ _ c.args.row c.in-Err.at c.args.self.now (sym (ap (λ (t : Table). t.shared) c.self.view_is)) c.self.invariant w (omega arith)

pub returns-in-Ok : goal.returns-in-Ok
returns-in-Ok c =
    let s = subst (λ (rs : List ℕ). StandsAt rs c.args.row c.in-Ok.field-0) c.deref.ensures.value c.in-Ok.ensures in
    row_used _ _ c.args.row c.in-Ok.field-0 c.args.self.now (sym (ap (λ (t : Table). t.shared) c.self.view_is)) c.self.invariant s

pub returns-else-at-len : goal.returns-else-at-len
returns-else-at-len c =
    let w = subst (λ (rs : List ℕ). WouldStand rs c.args.row c.in-Err.at) c.deref.ensures.value c.in-Err.ensures in
    let h = c.if-at-len.false in
    let o = c.self.inside.rows.ok.0 in
    row_above _ _ c.args.row c.in-Err.at c.args.self.now (sym (ap (λ (t : Table). t.shared) c.self.view_is)) c.self.invariant w (omega arith)
