use Rattle.std.proofs.Math.Facts.{Fits-lt-pow}
use Rattle.std.proofs.Common.{ℕ, ◌<◌, get_or, sym, subst, arith, w64}
use Rattle.std.specs.Int.{trailing_zeros}
use Rattle.bit_rows.proofs.WordBits.{low_is_set}
use Rattle.bit_rows.proofs.Counting.{left_in_word, fewer}
use Rattle.graph_theory.specs.Embedding.{Problem, Compatible}
use Rattle.graph_theory.specs.Graph.{size}
use Rattle.small_search.proofs.Words.{in_first, in_second, in_both}
use Rattle.small_search.proofs.Placed.{goes_in, image_is_free}
use Rattle.small_search.proofs.placing.values_beside.Goals as goal

pub joined-values-requires-clause-r_in : goal.joined-values-requires-clause-r_in
joined-values-requires-clause-r_in c =
    let some : 0 < c.loop-rest.rest = omega (arith, c.loop-rest-test.true) in
    let small = Fits-lt-pow c.loop-rest.auto.rest-fits in
    subst (λ (q : Problem). (trailing_zeros w64 c.loop-rest.rest) < size q.pattern) (sym c.table.view_is) (c.requires.fits.vertices (trailing_zeros w64 c.loop-rest.rest) (c.loop-rest.invariant.part (trailing_zeros w64 c.loop-rest.rest) (low_is_set c.loop-rest.rest some small)))

pub joined-values-requires-clause-u_in : goal.joined-values-requires-clause-u_in
joined-values-requires-clause-u_in c =
    let some : 0 < c.loop-rest.rest = omega (arith, c.loop-rest-test.true) in
    let small = Fits-lt-pow c.loop-rest.auto.rest-fits in
    subst (λ (q : Problem). get_or c.args.images.now c.from-in-loop-rest.result 0 < size q.target) (sym c.table.view_is)
    (subst (λ (i : ℕ). get_or c.args.images.now i 0 < size c.args.table.now.target) (sym c.from-in-loop-rest.ensures) (c.requires.fits.values (trailing_zeros w64 c.loop-rest.rest) (c.loop-rest.invariant.part (trailing_zeros w64 c.loop-rest.rest) (low_is_set c.loop-rest.rest some small))))

pub loop-rest-init : goal.loop-rest-init
loop-rest-init c = record {
  part = λ r h. in_second (get_or c.table.inside.near.now c.from.result 0) c.args.placed r h;
  right = c.free_values-values.ensures.right;
  complete = λ m e agrees. c.free_values-values.ensures.complete m e
      (λ differ. image_is_free c.args.table.now c.args.placed c.args.used c.args.p c.args.images.now m e agrees c.requires.fits c.requires.used c.requires.p_in c.requires.open differ);
}

pub loop-rest-preserved : goal.loop-rest-preserved
loop-rest-preserved c =
    let some : 0 < c.loop-rest.rest = omega (arith, c.loop-rest-test.true) in
    let small = Fits-lt-pow c.loop-rest.auto.rest-fits in
    record {
      part = left_in_word c.args.placed c.loop-rest.rest c.loop-rest.invariant.part some small;
      right = λ t h. c.loop-rest.invariant.right t (in_first c.loop-rest.values c.joined-values.result t h);
      complete = λ m e agrees. in_both c.loop-rest.values c.joined-values.result (get_or m c.args.p 0) (c.loop-rest.invariant.complete m e agrees)
          (c.joined-values.ensures (get_or m c.args.p 0) (subst (λ (q : Problem). get_or m c.args.p 0 < size q.target) (sym c.table.view_is) (e.values c.args.p c.requires.p_in))
          (subst (λ (q : Problem). Compatible q c.args.p (get_or m c.args.p 0) (trailing_zeros w64 c.loop-rest.rest) (get_or c.args.images.now c.from-in-loop-rest.result 0)) (sym c.table.view_is)
          (subst (λ (i : ℕ). Compatible c.args.table.now c.args.p (get_or m c.args.p 0) (trailing_zeros w64 c.loop-rest.rest) (get_or c.args.images.now i 0)) (sym c.from-in-loop-rest.ensures) (goes_in c.args.table.now c.args.placed c.args.p (trailing_zeros w64 c.loop-rest.rest) c.args.images.now m e agrees c.requires.fits c.requires.p_in c.requires.open (c.loop-rest.invariant.part (trailing_zeros w64 c.loop-rest.rest) (low_is_set c.loop-rest.rest some small))))));
    }

pub loop-rest-smaller : goal.loop-rest-smaller
loop-rest-smaller c =
    let some : 0 < c.loop-rest.rest = omega (arith, c.loop-rest-test.true) in
    let small = Fits-lt-pow c.loop-rest.auto.rest-fits in
    omega (arith, fewer 0 c.loop-rest.rest some small)
