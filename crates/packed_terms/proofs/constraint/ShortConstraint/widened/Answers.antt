use Rattle.std.proofs.Common.{refl, arith, ◌∙◌}
use Rattle.std.proofs.lemmas.Int.{ints}
use Rattle.std.proofs.lemmas.Result.{IfOk-weaker}
use Rattle.packed_terms.proofs.Copying.{copied_form}
use Rattle.packed_terms.proofs.constraint.ShortConstraint.widened.Goals as goal

pub returns : goal.returns
returns c =
    let b = c.self.invariant.weighed.small in
    let e = c.from.ensures in
    IfOk-weaker c.constraint_of.result _ _ (λ v h. h ∙ copied_form c.deref-2.result.now c.self.inside.terms.items c.self.inside.terms.items _ c.self.inside.bound (c.deref-2.ensures.value ∙ c.in_ok-terms.ensures ∙ c.deref.ensures.value) refl (omega (arith, ints)) c.self.invariant.rises ∙ c.self.view_is) c.constraint_of.ensures
