use Rattle.pb_terms.proofs.Joining.{copied}
use Rattle.pb_terms.proofs.sum.Sum.of.Goals as goal

pub returns : goal.returns
returns c =
    let e = c.parts-bound.ensures in
    copied _ _ _ _ _ (c.in_ok-terms.ensures.items) e.parts.0 e.parts.1 e.rises e.narrow
