use Rattle.std.proofs.Common.{◌≡◌, ℤ, ◌-ℤ◌, to_z, of_z, arith, ap, ◌∙◌}
use Rattle.std.specs.Int.{w64}
use Rattle.std.proofs.lemmas.Int.{ints}
use Rattle.pb_propagation.specs.Levels.{now}
use Rattle.pb_propagation.proofs.Led.{slack_as}
use Rattle.pb_propagation.proofs.short_following.excess_of.Goals as goal

pub greatest_of-requires : goal.greatest_of-requires
greatest_of-requires c = c.terms.ensures.light

pub overflow_sub-result : goal.overflow_sub-result
overflow_sub-result c =
    let g = c.greatest_of.ensures.small in
    let b = c.bound.ensures.small in
    omega (arith, ints)

pub returns : goal.returns
returns c =
    let g = c.greatest_of.ensures.small in
    let b = c.bound.ensures.small in
    let m : to_z w64 (of_z w64 (to_z w64 (of_z w64 c.greatest_of.result) -ℤ to_z w64 (of_z w64 c.bound.result))) ≡ c.greatest_of.result -ℤ c.bound.result = omega (arith, ints) in
    m ∙ ap (λ (z : ℤ). c.greatest_of.result -ℤ z) c.bound.ensures.exact
    ∙ slack_as (now c.args.set.now) c.args.next.now _ _ c.terms.ensures.exact c.greatest_of.ensures.exact
