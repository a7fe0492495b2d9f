use Rattle.std.proofs.Math.Facts.{Fits-lt-pow}
use Rattle.std.proofs.Common.{◌≡◌, ℕ, ◌<◌, ◌^◌, ◌*◌, ◌%◌, true, get_or, length, bit_or, refl, sym, ap, subst, ◌∙◌, arith, w64}
use Rattle.std.specs.Int.{trailing_zeros}
use Rattle.std.proofs.Math.ListN.{set}
use Rattle.std.proofs.lemmas.Bool.{false≢true}
use Rattle.std.proofs.lemmas.List.{length-set}
use Rattle.bit_rows.specs.BitRows.{is_set}
use Rattle.bit_rows.proofs.WordBits.{low_is_set, low_bit, is_set-zero}
use Rattle.bit_rows.proofs.Counting.{left_in_word, fewer}
use Rattle.small_search.specs.Placing.{NoneAgreesAt}
use Rattle.small_search.proofs.Words.{done_more, with_bit}
use Rattle.small_search.proofs.Tables.{table_of}
use Rattle.small_search.proofs.Placed.{is_placed, fits_agreeing, used_agreeing, fits_more, used_more, agrees_before, none_at, none_at_agreeing}
use Rattle.small_search.proofs.placing.+extend.Goals as goal

pub goes_with-requires-clause-apart : goal.goes_with-requires-clause-apart
goes_with-requires-clause-apart t c = λ differ r on same.
    let some : 0 < c.loop-rest.rest = omega (arith, c.loop-rest-test.true) in
    let small = Fits-lt-pow c.loop-rest.auto.rest-fits in
    let free = c.values_beside-values.ensures.right (trailing_zeros w64 c.loop-rest.rest) (c.loop-rest.invariant.part (trailing_zeros w64 c.loop-rest.rest) (low_is_set c.loop-rest.rest some small)) in
    false≢true (sym (free.free differ) ∙ subst (λ (u : ℕ). is_set c.args.used u ≡ true) same ((used_agreeing c.args.placed c.args.used c.args.images.now c.loop-rest.images c.requires.used c.loop-rest.invariant.same).each r on))

pub goes_with-requires-clause-fits : goal.goes_with-requires-clause-fits
goes_with-requires-clause-fits t c = fits_agreeing c.args.table.now c.args.placed c.args.images.now c.loop-rest.images c.requires.fits c.loop-rest.invariant.same

pub goes_with-requires-clause-t_in : goal.goes_with-requires-clause-t_in
goes_with-requires-clause-t_in t c =
    let some : 0 < c.loop-rest.rest = omega (arith, c.loop-rest-test.true) in
    let small = Fits-lt-pow c.loop-rest.auto.rest-fits in
    let free = c.values_beside-values.ensures.right (trailing_zeros w64 c.loop-rest.rest) (c.loop-rest.invariant.part (trailing_zeros w64 c.loop-rest.rest) (low_is_set c.loop-rest.rest some small)) in
    free.value

pub loop-rest-preserved-in-Refuted : goal.loop-rest-preserved-in-Refuted
loop-rest-preserved-in-Refuted t c =
    let some : 0 < c.loop-rest.rest = omega (arith, c.loop-rest-test.true) in
    let small = Fits-lt-pow c.loop-rest.auto.rest-fits in
    let long : length c.loop-rest.images ≡ 64 = c.loop-rest.auto.images ∙ c.requires.long in
    let p_in : c.in-Some.p < 64 = omega (arith, c.in-Some.ensures.vertex, (table_of _ _ _ _ _ _ _ c.table.view_is c.table.invariant).small.pattern) in
    let is = is_placed c.args.placed c.in-Some.p c.from.result (trailing_zeros w64 c.loop-rest.rest) c.loop-rest.images c.in-Some.ensures.open c.from.ensures p_in long in
    record {
      part = left_in_word c.values_beside-values.result c.loop-rest.rest c.loop-rest.invariant.part some small;
      same = agrees_before c.args.placed (bit_or c.args.placed (1 * 2 ^ c.in-Some.p % 2 ^ 64)) c.in-Some.p (trailing_zeros w64 c.loop-rest.rest) c.args.images.now c.loop-rest.images (set c.loop-rest.images c.from.result (trailing_zeros w64 c.loop-rest.rest)) c.extend.new.images is c.loop-rest.invariant.same c.extend.ensures.same;
      steps = omega (arith, c.extend.ensures.steps, c.loop-rest.invariant.steps);
      tried = done_more (λ u. NoneAgreesAt c.args.table.now c.args.placed c.args.images.now c.in-Some.p u) c.values_beside-values.result c.loop-rest.rest some small c.loop-rest.invariant.tried
          (none_at c.args.table.now c.args.placed (bit_or c.args.placed (1 * 2 ^ c.in-Some.p % 2 ^ 64)) c.in-Some.p (trailing_zeros w64 c.loop-rest.rest) c.args.images.now c.loop-rest.images (set c.loop-rest.images c.from.result (trailing_zeros w64 c.loop-rest.rest)) is c.loop-rest.invariant.same c.in-Refuted.ensures.ends);
    }

pub loop-rest-preserved : goal.loop-rest-preserved
loop-rest-preserved t c =
    let some : 0 < c.loop-rest.rest = omega (arith, c.loop-rest-test.true) in
    let small = Fits-lt-pow c.loop-rest.auto.rest-fits in
    record {
      part = left_in_word c.values_beside-values.result c.loop-rest.rest c.loop-rest.invariant.part some small;
      same = c.loop-rest.invariant.same;
      steps = omega (arith, c.loop-rest.invariant.steps);
      tried = done_more (λ u. NoneAgreesAt c.args.table.now c.args.placed c.args.images.now c.in-Some.p u) c.values_beside-values.result c.loop-rest.rest some small c.loop-rest.invariant.tried
          (none_at_agreeing c.args.table.now c.args.placed c.in-Some.p (trailing_zeros w64 c.loop-rest.rest) c.args.images.now c.loop-rest.images c.loop-rest.invariant.same (c.if-goes_with.ensures.no refl));
    }

pub loop-rest-smaller : goal.loop-rest-smaller
loop-rest-smaller t c =
    let some : 0 < c.loop-rest.rest = omega (arith, c.loop-rest-test.true) in
    let small = Fits-lt-pow c.loop-rest.auto.rest-fits in
    omega (arith, fewer 0 c.loop-rest.rest some small)

pub loop-rest-smaller-in-Refuted : goal.loop-rest-smaller-in-Refuted
loop-rest-smaller-in-Refuted t c =
    let some : 0 < c.loop-rest.rest = omega (arith, c.loop-rest-test.true) in
    let small = Fits-lt-pow c.loop-rest.auto.rest-fits in
    omega (arith, fewer 0 c.loop-rest.rest some small)

pub returns-in-Found-clause-same : goal.returns-in-Found-clause-same
returns-in-Found-clause-same t c =
    let long : length c.loop-rest.images ≡ 64 = c.loop-rest.auto.images ∙ c.requires.long in
    let p_in : c.in-Some.p < 64 = omega (arith, c.in-Some.ensures.vertex, (table_of _ _ _ _ _ _ _ c.table.view_is c.table.invariant).small.pattern) in
    let is = is_placed c.args.placed c.in-Some.p c.from.result (trailing_zeros w64 c.loop-rest.rest) c.loop-rest.images c.in-Some.ensures.open c.from.ensures p_in long in
    agrees_before c.args.placed (bit_or c.args.placed (1 * 2 ^ c.in-Some.p % 2 ^ 64)) c.in-Some.p (trailing_zeros w64 c.loop-rest.rest) c.args.images.now c.loop-rest.images (set c.loop-rest.images c.from.result (trailing_zeros w64 c.loop-rest.rest)) c.extend.new.images is c.loop-rest.invariant.same c.extend.ensures.same

pub returns-in-Spent-clause-same : goal.returns-in-Spent-clause-same
returns-in-Spent-clause-same t c =
    let long : length c.loop-rest.images ≡ 64 = c.loop-rest.auto.images ∙ c.requires.long in
    let p_in : c.in-Some.p < 64 = omega (arith, c.in-Some.ensures.vertex, (table_of _ _ _ _ _ _ _ c.table.view_is c.table.invariant).small.pattern) in
    let is = is_placed c.args.placed c.in-Some.p c.from.result (trailing_zeros w64 c.loop-rest.rest) c.loop-rest.images c.in-Some.ensures.open c.from.ensures p_in long in
    agrees_before c.args.placed (bit_or c.args.placed (1 * 2 ^ c.in-Some.p % 2 ^ 64)) c.in-Some.p (trailing_zeros w64 c.loop-rest.rest) c.args.images.now c.loop-rest.images (set c.loop-rest.images c.from.result (trailing_zeros w64 c.loop-rest.rest)) c.extend.new.images is c.loop-rest.invariant.same c.extend.ensures.same

pub returns-clause-ends : goal.returns-clause-ends
returns-clause-ends t c = λ m e agrees.
    c.loop-rest.invariant.tried (get_or m c.in-Some.p 0) (c.values_beside-values.ensures.complete m e agrees)
    (ap (λ (w : ℕ). is_set w (get_or m c.in-Some.p 0)) c.loop-rest-test.false ∙ is_set-zero (get_or m c.in-Some.p 0)) m e agrees refl

pub extend-requires : goal.extend-requires
extend-requires t c =
    let some : 0 < c.loop-rest.rest = omega (arith, c.loop-rest-test.true) in
    let small = Fits-lt-pow c.loop-rest.auto.rest-fits in
    let free = c.values_beside-values.ensures.right (trailing_zeros w64 c.loop-rest.rest) (c.loop-rest.invariant.part (trailing_zeros w64 c.loop-rest.rest) (low_is_set c.loop-rest.rest some small)) in
    let long : length c.loop-rest.images ≡ 64 = c.loop-rest.auto.images ∙ c.requires.long in
    let p_in : c.in-Some.p < 64 = omega (arith, c.in-Some.ensures.vertex, (table_of _ _ _ _ _ _ _ c.table.view_is c.table.invariant).small.pattern) in
    let is = is_placed c.args.placed c.in-Some.p c.from.result (trailing_zeros w64 c.loop-rest.rest) c.loop-rest.images c.in-Some.ensures.open c.from.ensures p_in long in
    let fits = fits_agreeing c.args.table.now c.args.placed c.args.images.now c.loop-rest.images c.requires.fits c.loop-rest.invariant.same in
    let used = used_agreeing c.args.placed c.args.used c.args.images.now c.loop-rest.images c.requires.used c.loop-rest.invariant.same in (
      omega (arith, c.decreases, c.loop-rest.invariant.steps, c.if-steps-eq0.false),
      (
        length-set c.loop-rest.images c.from.result (trailing_zeros w64 c.loop-rest.rest) ∙ long,
        (
          fits_more c.args.table.now c.args.placed (bit_or c.args.placed (1 * 2 ^ c.in-Some.p % 2 ^ 64)) c.in-Some.p (trailing_zeros w64 c.loop-rest.rest) c.loop-rest.images (set c.loop-rest.images c.from.result (trailing_zeros w64 c.loop-rest.rest)) is fits c.in-Some.ensures.vertex free.value (c.if-goes_with.ensures.alone refl) (c.if-goes_with.ensures.yes refl),
          used_more c.args.placed (bit_or c.args.placed (1 * 2 ^ c.in-Some.p % 2 ^ 64)) c.args.used (bit_or c.args.used (1 * 2 ^ (trailing_zeros w64 c.loop-rest.rest) % 2 ^ 64)) c.in-Some.p (trailing_zeros w64 c.loop-rest.rest) c.loop-rest.images (set c.loop-rest.images c.from.result (trailing_zeros w64 c.loop-rest.rest)) is used
              (λ b. with_bit c.args.used (trailing_zeros w64 c.loop-rest.rest) b (low_bit c.loop-rest.rest some small)),
        ),
      ),
    )
