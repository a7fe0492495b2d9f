use Rattle.std.proofs.Common.{rules, ℕ, ℤ, length, drop, take, ap, arith, ◌∙◌}
use Rattle.std.proofs.lemmas.List.{take_at}
use Rattle.std.proofs.lemmas.List.Sorted.{IsNonDecreasingBy-from_sort_by_key}
use Rattle.pb_terms.proofs.Ruled.{in_order}
use Rattle.packed_terms.proofs.ordered.ordered.Goals as goal

pub combine-kept-requires-clause-order : goal.combine-kept-requires-clause-order
combine-kept-requires-clause-order c =
    rw c.deref_mut.ensures.value (IsNonDecreasingBy-from_sort_by_key (λ (t : ℕ × ℤ). t.0) _ c.in_ok-sort_by_key.ensures.sorted (λ a r q k. search rules))

pub combine-kept-requires-clause-fits : goal.combine-kept-requires-clause-fits
combine-kept-requires-clause-fits c =
    let p = (in_order c.args.terms.items _ _ c.sort_by_key.ensures.permutation c.deref_mut.ensures.value).0 in
    let k = c.requires in
    omega arith

pub returns : goal.returns
returns c =
    let v = c.sort_by_key.new.self in
    let e = ap length c.deref_mut.ensures.value in
    let same = take_at c.combine-kept.new.terms (drop (length c.combine-kept.new.terms) v.items) v.len (omega (arith, v.ok, e, c.combine-kept.auto.terms)) in
    c.fitted.ensures ∙ c.truncate.ensures.items ∙ ap (take c.combine-kept.result) same ∙ c.combine-kept.ensures ∙ (in_order c.args.terms.items _ _ c.sort_by_key.ensures.permutation c.deref_mut.ensures.value).1
