use Rattle.std.proofs.Common.{arith, ◌∙◌}
use Rattle.std.proofs.lemmas.Int.{ints}
use Rattle.pb_terms.proofs.Joining.{summed}
use Rattle.packed_terms.proofs.sum.ShortSum.with.Goals as goal

pub returns : goal.returns
returns c =
    let n = c.self.invariant.small in
    let m = c.other.invariant.small in
    let w = c.self.invariant.weighed in
    let x = c.other.invariant.weighed in
    let wl = c.self.invariant.light in
    let xl = c.other.invariant.light in
    let light = c.if-from-ge-LIMIT.false in
    let low = c.if-from-ge-LIMIT-2.false in
    let f5 = c.from-5.ensures in
    let f6 = c.from-else-from-ge-LIMIT.ensures in
    let u = c.unsigned_abs.ensures.value in
    let f3 = c.from-3.ensures in
    let f4 = c.from-4.ensures in
    let f1 = c.from.ensures in
    let f2 = c.from-2.ensures in
    let p = summed c.self.inside.terms.items c.other.inside.terms.items c.in_ok-terms.terms.items c.self.inside.bound c.other.inside.bound _ c.args.self c.args.other (c.self.view_is) (c.other.view_is) c.in_ok-terms.ensures.sums (omega arith) (omega (arith, ints)) (omega (arith, ints)) in
    (c.from_short.ensures ∙ p.0, p.1)
