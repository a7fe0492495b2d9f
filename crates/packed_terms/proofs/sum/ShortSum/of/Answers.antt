use Rattle.std.proofs.Common.{arith}
use Rattle.std.proofs.lemmas.Int.{ints}
use Rattle.packed_terms.proofs.Copying.{copied_form}
use Rattle.packed_terms.proofs.sum.ShortSum.of.Goals as goal

pub returns : goal.returns
returns c =
    let e = c.parts-bound.ensures in
    let b = e.parts.1 in
    let s = e.light.weighed.small in
    copied_form _ _ _ _ _ c.in_ok-terms.ensures.items e.parts.0 (omega (arith, ints)) e.light.rises
