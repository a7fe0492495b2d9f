use Rattle.std.proofs.Common.{ℕ, ◌<◌, max, get_or, sym, ap, ◌∙◌, arith}
use Rattle.std.proofs.Math.Facts.{Fits-lt-pow}
use Rattle.bit_rows.specs.BitRows.{has}
use Rattle.biased_choice.specs.Bias.{greatest}
use Rattle.biased_choice.proofs.Walk.{next, begins, is_member, goes_on, at_end, greatest_begun, greatest_step}
use Rattle.biased_choice.proofs.greatest_in_word.Goals as goal

pub loop-left-init : goal.loop-left-init
loop-left-init c = record {
  top = c.requires.top ∙ sym (greatest_begun c.args.row.now (λ v. get_or c.args.degrees.now v 0) c.args.place (Fits-lt-pow (c.type_inv.row c.args.place)));
  walks = begins c.args.row.now c.args.place;
}

pub bounds-degrees-v : goal.bounds-degrees-v
bounds-degrees-v c =
    let some : 0 < c.loop-left.left = omega arith in
    c.requires.degrees (next c.args.place c.loop-left.left)
    (is_member c.args.row.now c.args.place c.loop-left.left c.loop-left.invariant.walks some (Fits-lt-pow c.loop-left.auto.left-fits))

pub loop-left-preserved : goal.loop-left-preserved
loop-left-preserved c =
    let row = c.args.row.now in
    let left = c.loop-left.left in
    let degree = λ (v : ℕ). get_or c.args.degrees.now v 0 in
    let walks = c.loop-left.invariant.walks in
    let some : 0 < left = omega arith in
    let small = Fits-lt-pow c.loop-left.auto.left-fits in
    record {
      top = c.max-top.ensures ∙ ap (λ (n : ℕ). max n (degree (next c.args.place left))) c.loop-left.invariant.top
          ∙ sym (greatest_step row degree c.args.place left walks some small);
      walks = goes_on row c.args.place left walks some small;
    }

pub returns : goal.returns
returns c =
    c.loop-left.invariant.top
    ∙ ap (greatest (has c.args.row.now) (λ (v : ℕ). get_or c.args.degrees.now v 0)) (at_end c.args.place c.loop-left.left c.loop-left-test.false)
