use Rattle.std.proofs.Common.{◌∙◌, List, ℕ, ap, sym, subst}
use Rattle.std.proofs.lemmas.Bool.{iff_false}
use Rattle.bit_rows.specs.BitRows.{has}
use Rattle.needed_values.proofs.Agreeing.{Tested, tested_out, tested_in}
use Rattle.needed_values.proofs.consistent.keep_tested.Goals as goal
use Rattle.needed_values.proofs.consistent.keep_tested.Goals.{then-not-compatible, else-not-compatible}

pub loop-u-preserved : goal.loop-u-preserved
loop-u-preserved c =
    record {
      tested = (elim c.if-not-compatible.branch [
        | then-not-compatible w ↦ tested_out c.args.q.now c.args.p c.args.t c.args.r c.loop-u.u c.next_member-u-in-loop-u.result c.args.row.now c.loop-u.row c.if-not-compatible.row c.loop-u.invariant.tested
            (iff_false c.compatible.ensures w.if-not-compatible.true) (λ v. ap (λ (row : List ℕ). has row v) w.row-is ∙ w.unset_bit.ensures v) (λ v low high. c.next_member-u-in-loop-u.ensures.none v low high)
        | else-not-compatible w ↦ subst (λ (row : List ℕ). Tested c.args.q.now c.args.p c.args.t c.args.r c.next_member-u-in-loop-u.result c.args.row.now row) (sym w.row-is)
            (tested_in c.args.q.now c.args.p c.args.t c.args.r c.loop-u.u c.next_member-u-in-loop-u.result c.args.row.now c.loop-u.row c.loop-u.invariant.tested (c.compatible.ensures.0 w.if-not-compatible.false)
            (λ v low high. ap (λ (row : List ℕ). has row v) (sym w.row-is) ∙ c.next_member-u-in-loop-u.ensures.none v low high))
      ]);
      long = c.if-not-compatible.auto.row ∙ c.loop-u.invariant.long;
      within = c.next_member-u-in-loop-u.ensures.high;
      member = c.next_member-u-in-loop-u.ensures.member;
    }
