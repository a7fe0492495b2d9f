use Rattle.std.proofs.Common.{◌≡◌, ℕ, ◌+◌, ◌<◌, get_or, ap, ◌∙◌, arith}
use Rattle.std.proofs.Math.Facts.{Fits-lt-pow}
use Rattle.biased_choice.specs.Bias.{below, weight, weight_of}
use Rattle.biased_choice.proofs.Walk.{next, begins, is_member, goes_on, at_end, total_begun, total_step}
use Rattle.biased_choice.proofs.pick_in_word.Goals as goal

pub loop-left-init : goal.loop-left-init
loop-left-init c = record {
  rest = ap (λ (n : ℕ). c.args.rest + n) (total_begun c.args.row.now (weight_of c.args.row.now c.args.degrees.now) c.args.place (Fits-lt-pow (c.type_inv.row c.args.place)));
  walks = begins c.args.row.now c.args.place;
}

pub bounds-degrees-v : goal.bounds-degrees-v
bounds-degrees-v c =
    let some : 0 < c.loop-left.left = omega arith in
    c.requires.degrees (next c.args.place c.loop-left.left)
    (is_member c.args.row.now c.args.place c.loop-left.left c.loop-left.invariant.walks some (Fits-lt-pow c.loop-left.auto.left-fits))

pub returns-then-rest-own : goal.returns-then-rest-own
returns-then-rest-own c =
    let row = c.args.row.now in
    let degrees = c.args.degrees.now in
    let left = c.loop-left.left in
    let some : 0 < left = omega arith in
    let own : c.weight_of_degree-own.result ≡ weight_of row degrees (next c.args.place left) =
    c.weight_of_degree-own.ensures.exact ∙ ap (λ (n : ℕ). weight n (get_or degrees (next c.args.place left) 0)) c.requires.top in
    record {
      member = is_member row c.args.place left c.loop-left.invariant.walks some (Fits-lt-pow c.loop-left.auto.left-fits);
      from = omega (arith, c.loop-left.invariant.rest);
      upto = omega (arith, c.loop-left.invariant.rest, own, c.if-rest-own.true);
    }

pub loop-left-preserved : goal.loop-left-preserved
loop-left-preserved c =
    let row = c.args.row.now in
    let degrees = c.args.degrees.now in
    let left = c.loop-left.left in
    let walks = c.loop-left.invariant.walks in
    let some : 0 < left = omega arith in
    let small = Fits-lt-pow c.loop-left.auto.left-fits in
    let own : c.weight_of_degree-own.result ≡ weight_of row degrees (next c.args.place left) =
    c.weight_of_degree-own.ensures.exact ∙ ap (λ (n : ℕ). weight n (get_or degrees (next c.args.place left) 0)) c.requires.top in
    record {
      rest = omega (arith, c.loop-left.invariant.rest, own, c.if-rest-own.false, total_step row (weight_of row degrees) c.args.place left walks some small);
      walks = goes_on row c.args.place left walks some small;
    }

pub returns : goal.returns
returns c =
    omega (
      arith,
      c.loop-left.invariant.rest,
      ap (below c.args.row.now c.args.degrees.now) (at_end c.args.place c.loop-left.left c.loop-left-test.false),
    )
