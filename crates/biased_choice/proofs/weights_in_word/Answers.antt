use Rattle.std.proofs.Common.{◌≡◌, ℕ, ◌<◌, get_or, sym, ap, ◌∙◌, arith}
use Rattle.std.proofs.Math.Facts.{Fits-lt-pow}
use Rattle.bit_rows.specs.BitRows.{has}
use Rattle.biased_choice.specs.Bias.{below, weight, weight_of, top_degree}
use Rattle.biased_choice.proofs.Totals.{weight_small, total_small}
use Rattle.biased_choice.proofs.Walk.{next, begins, is_member, goes_on, inside, at_end, total_begun, total_step}
use Rattle.biased_choice.proofs.weights_in_word.Goals as goal

pub loop-left-init : goal.loop-left-init
loop-left-init c = record {
  sum = c.requires.sum ∙ sym (total_begun c.args.row.now (weight_of c.args.row.now c.args.degrees.now) c.args.place (Fits-lt-pow (c.type_inv.row c.args.place)));
  walks = begins c.args.row.now c.args.place;
}

pub bounds-degrees-v : goal.bounds-degrees-v
bounds-degrees-v c =
    let some : 0 < c.loop-left.left = omega arith in
    c.requires.degrees (next c.args.place c.loop-left.left)
    (is_member c.args.row.now c.args.place c.loop-left.left c.loop-left.invariant.walks some (Fits-lt-pow c.loop-left.auto.left-fits))

pub overflow_add-sum : goal.overflow_add-sum
overflow_add-sum c =
    let row = c.args.row.now in
    let degrees = c.args.degrees.now in
    let at = next c.args.place c.loop-left.left in
    let some : 0 < c.loop-left.left = omega arith in
    omega (
      arith,
      c.loop-left.invariant.sum,
      c.weight_of_degree-sum.ensures.small,
      c.requires.short,
      c.requires.place,
      inside c.args.place c.loop-left.left some (Fits-lt-pow c.loop-left.auto.left-fits),
      total_small (has row) (weight_of row degrees) at (λ v. weight_small (top_degree row degrees) (get_or degrees v 0)),
    )

pub loop-left-preserved : goal.loop-left-preserved
loop-left-preserved c =
    let row = c.args.row.now in
    let degrees = c.args.degrees.now in
    let left = c.loop-left.left in
    let walks = c.loop-left.invariant.walks in
    let some : 0 < left = omega arith in
    let small = Fits-lt-pow c.loop-left.auto.left-fits in
    let own : c.weight_of_degree-sum.result ≡ weight_of row degrees (next c.args.place left) =
    c.weight_of_degree-sum.ensures.exact ∙ ap (λ (n : ℕ). weight n (get_or degrees (next c.args.place left) 0)) c.requires.top in
    record {
      sum = omega (arith, c.loop-left.invariant.sum, own, total_step row (weight_of row degrees) c.args.place left walks some small);
      walks = goes_on row c.args.place left walks some small;
    }

pub returns : goal.returns
returns c = c.loop-left.invariant.sum ∙ ap (below c.args.row.now c.args.degrees.now) (at_end c.args.place c.loop-left.left c.loop-left-test.false)
