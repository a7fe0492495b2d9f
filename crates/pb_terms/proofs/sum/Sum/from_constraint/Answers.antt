use Rattle.std.proofs.Common.{refl}
use Rattle.pb_terms.proofs.Joining.{copied}
use Rattle.pb_terms.proofs.sum.Sum.from_constraint.Goals as goal

pub returns : goal.returns
returns c =
    let e = c.into_parts-terms.ensures in
    copied _ _ _ _ _ refl e.parts.0 e.parts.1 e.rises e.narrow
