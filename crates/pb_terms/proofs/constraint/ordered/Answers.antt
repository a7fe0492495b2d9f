use Rattle.std.proofs.Common.{rules, ℕ, ℤ, arith, ◌∙◌}
use Rattle.std.proofs.lemmas.List.Sorted.{IsNonDecreasingBy-from_sort_by_key}
use Rattle.pb_terms.proofs.Ruled.{in_order}
use Rattle.pb_terms.proofs.constraint.ordered.Goals as goal

pub combine-requires-clause-order : goal.combine-requires-clause-order
combine-requires-clause-order c =
    rw c.deref.ensures.value (IsNonDecreasingBy-from_sort_by_key (λ (t : ℕ × ℤ). t.0) _ c.in_ok-sort_by_key.ensures.sorted (λ a r q k. search rules))

pub combine-requires-clause-fits : goal.combine-requires-clause-fits
combine-requires-clause-fits c =
    let p = (in_order c.args.terms.items _ _ c.sort_by_key.ensures.permutation c.deref.ensures.value).0 in
    let k = c.requires in
    omega arith

pub returns : goal.returns
returns c = c.fitted.ensures ∙ c.in_ok-made.ensures ∙ (in_order c.args.terms.items _ _ c.sort_by_key.ensures.permutation c.deref.ensures.value).1
