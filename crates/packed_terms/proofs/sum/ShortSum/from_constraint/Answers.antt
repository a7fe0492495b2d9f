use Rattle.std.proofs.Common.{refl, arith}
use Rattle.std.proofs.lemmas.Int.{ints}
use Rattle.packed_terms.proofs.Copying.{copied_form}
use Rattle.packed_terms.proofs.sum.ShortSum.from_constraint.Goals as goal

pub returns : goal.returns
returns c =
    let e = c.into_parts-terms.ensures in
    let b = e.parts.1 in
    let s = e.light.weighed.small in
    copied_form _ _ _ _ _ refl e.parts.0 (omega (arith, ints)) e.light.rises
