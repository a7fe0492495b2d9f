use Rattle.std.proofs.Math.Facts.{Fits-lt-pow}
use Rattle.std.proofs.Common.{ℕ, ◌<◌, get_or, refl, sym, subst, arith, w64}
use Rattle.std.specs.Int.{trailing_zeros}
use Rattle.std.proofs.lemmas.Bool.{false≢true}
use Rattle.bit_rows.proofs.WordBits.{low_is_set}
use Rattle.bit_rows.proofs.Counting.{left_in_word, fewer}
use Rattle.graph_theory.specs.Embedding.{Problem, Compatible}
use Rattle.graph_theory.specs.Graph.{size}
use Rattle.small_search.proofs.Words.{done_more}
use Rattle.small_search.proofs.Placed.{goes_in}
use Rattle.small_search.proofs.placing.goes_with.Goals as goal

pub compatible-requires-clause-r_in : goal.compatible-requires-clause-r_in
compatible-requires-clause-r_in c =
    let some : 0 < c.loop-rest.rest = omega (arith, c.loop-rest-test.true) in
    let small = Fits-lt-pow c.loop-rest.auto.rest-fits in
    subst (λ (q : Problem). (trailing_zeros w64 c.loop-rest.rest) < size q.pattern) (sym c.table.view_is) (c.requires.fits.vertices (trailing_zeros w64 c.loop-rest.rest) (c.loop-rest.invariant.part (trailing_zeros w64 c.loop-rest.rest) (low_is_set c.loop-rest.rest some small)))

pub compatible-requires-clause-u_in : goal.compatible-requires-clause-u_in
compatible-requires-clause-u_in c =
    let some : 0 < c.loop-rest.rest = omega (arith, c.loop-rest-test.true) in
    let small = Fits-lt-pow c.loop-rest.auto.rest-fits in
    subst (λ (q : Problem). get_or c.args.images.now c.from.result 0 < size q.target) (sym c.table.view_is)
    (subst (λ (i : ℕ). get_or c.args.images.now i 0 < size c.args.table.now.target) (sym c.from.ensures) (c.requires.fits.values (trailing_zeros w64 c.loop-rest.rest) (c.loop-rest.invariant.part (trailing_zeros w64 c.loop-rest.rest) (low_is_set c.loop-rest.rest some small))))

pub returns-then-not-compatible-clause-no : goal.returns-then-not-compatible-clause-no
returns-then-not-compatible-clause-no c = λ _ m e agrees at.
    let some : 0 < c.loop-rest.rest = omega (arith, c.loop-rest-test.true) in
    let small = Fits-lt-pow c.loop-rest.auto.rest-fits in
    let goes = subst (λ (u : ℕ). Compatible c.args.table.now c.args.p u (trailing_zeros w64 c.loop-rest.rest) (get_or c.args.images.now (trailing_zeros w64 c.loop-rest.rest) 0)) at (goes_in c.args.table.now c.args.placed c.args.p (trailing_zeros w64 c.loop-rest.rest) c.args.images.now m e agrees c.requires.fits c.requires.p_in c.requires.open (c.loop-rest.invariant.part (trailing_zeros w64 c.loop-rest.rest) (low_is_set c.loop-rest.rest some small))) in
    false≢true (c.if-not-compatible.ensures.1 (subst (λ (q : Problem). Compatible q c.args.p c.args.t (trailing_zeros w64 c.loop-rest.rest) (get_or c.args.images.now c.from.result 0)) (sym c.table.view_is)
    (subst (λ (i : ℕ). Compatible c.args.table.now c.args.p c.args.t (trailing_zeros w64 c.loop-rest.rest) (get_or c.args.images.now i 0)) (sym c.from.ensures) goes)))

pub loop-rest-preserved : goal.loop-rest-preserved
loop-rest-preserved c =
    let some : 0 < c.loop-rest.rest = omega (arith, c.loop-rest-test.true) in
    let small = Fits-lt-pow c.loop-rest.auto.rest-fits in
    record {
      part = left_in_word c.args.placed c.loop-rest.rest c.loop-rest.invariant.part some small;
      done = done_more (λ r. Compatible c.args.table.now c.args.p c.args.t r (get_or c.args.images.now r 0)) c.args.placed c.loop-rest.rest some small c.loop-rest.invariant.done
          (subst (λ (i : ℕ). Compatible c.args.table.now c.args.p c.args.t (trailing_zeros w64 c.loop-rest.rest) (get_or c.args.images.now i 0)) c.from.ensures
          (subst (λ (q : Problem). Compatible q c.args.p c.args.t (trailing_zeros w64 c.loop-rest.rest) (get_or c.args.images.now c.from.result 0)) c.table.view_is (c.if-not-compatible.ensures.0 refl)));
    }

pub loop-rest-smaller : goal.loop-rest-smaller
loop-rest-smaller c =
    let some : 0 < c.loop-rest.rest = omega (arith, c.loop-rest-test.true) in
    let small = Fits-lt-pow c.loop-rest.auto.rest-fits in
    omega (arith, fewer 0 c.loop-rest.rest some small)
