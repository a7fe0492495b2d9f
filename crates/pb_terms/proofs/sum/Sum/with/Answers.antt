use Rattle.std.proofs.Common.{ap, arith, unsigned_abs}
use Rattle.std.proofs.lemmas.Int.{ints}
use Rattle.pb_terms.proofs.Joining.{exact_sum, summed}
use Rattle.pb_terms.proofs.sum.Sum.with.Goals as goal

pub returns : goal.returns
returns c =
    let n = c.self.invariant.narrow.bound_fits in
    let m = c.other.invariant.narrow.bound_fits in
    let w = c.self.invariant.weighed in
    let x = c.other.invariant.weighed in
    let light = c.if-weight-gt-LIMIT.false in
    let low = c.if-unsigned_abs-gt-LIMIT.false in
    let u = c.unsigned_abs.ensures.value in
    let s = exact_sum c.self.inside.bound c.other.inside.bound n m in
    let a = ap unsigned_abs s in
    summed c.self.inside.terms.items c.other.inside.terms.items c.in_ok-terms.terms.items c.self.inside.bound c.other.inside.bound _ c.args.self c.args.other (c.self.view_is) (c.other.view_is) c.in_ok-terms.ensures.sums (omega arith) s (omega (arith, ints))
