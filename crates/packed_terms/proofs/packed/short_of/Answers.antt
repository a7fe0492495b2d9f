use Rattle.std.proofs.Common.{arith, ◌∙◌}
use Rattle.std.proofs.lemmas.Int.{ints}
use Rattle.packed_terms.proofs.Copying.{copied_form}
use Rattle.packed_terms.proofs.packed.short_of.Goals as goal

pub returns : goal.returns
returns c =
    let b = c.bound-bound.ensures in
    let l = c.if-unsigned_abs-ge-LIMIT.false in
    let u = c.unsigned_abs.ensures.value in
    c.in_ok-from_terms.ensures ∙ copied_form c.in_ok-terms.terms.items c.terms-2.result.now c.args.constraint.now.terms _ c.args.constraint.now.bound c.in_ok-terms.ensures c.terms-2.ensures.exact (omega (arith, ints)) c.terms-2.ensures.rises
