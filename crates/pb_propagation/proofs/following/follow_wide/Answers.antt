use Rattle.std.proofs.Common.{rules, ◌≡◌, ℤ, ◌-ℤ◌, int_lt, true, to_z, of_z, FitsSigned, ap, sym, ◌∙◌}
use Rattle.std.specs.Int.{w128}
use Rattle.std.proofs.lemmas.Int.{to_z-of_z}
use Rattle.pb_propagation.specs.Levels.{now}
use Rattle.pb_propagation.proofs.Led.{led_conflict, slack_as, conflict_as}
use Rattle.pb_propagation.proofs.following.follow_wide.Goals as goal

pub force-requires-clause-exact : goal.force-requires-clause-exact
force-requires-clause-exact c =
    let fits : FitsSigned w128 c.greatest_of-greatest.result = search rules in
    ap (λ (z : ℤ). z -ℤ c.args.next.now.bound) (to_z-of_z w128 c.greatest_of-greatest.result fits)
    ∙ slack_as (now c.args.set.now) c.args.next.now _ _ c.terms.ensures.exact c.greatest_of-greatest.ensures.exact

pub returns-then-greatest-bound-clause-comes : goal.returns-then-greatest-bound-clause-comes
returns-then-greatest-bound-clause-comes c s fs i d =
    let e = slack_as (now c.args.set.now) c.args.next.now _ _ c.terms.ensures.exact c.greatest_of-greatest.ensures.exact in
    let fg : FitsSigned w128 c.greatest_of-greatest.result = search rules in
    let fb : FitsSigned w128 c.bound.result = search rules in
    let g : to_z w128 (of_z w128 c.greatest_of-greatest.result) ≡ c.greatest_of-greatest.result = to_z-of_z w128 c.greatest_of-greatest.result fg in
    let b : to_z w128 (of_z w128 c.bound.result) ≡ c.bound.result = to_z-of_z w128 c.bound.result fb in
    let h : int_lt c.greatest_of-greatest.result c.bound.result ≡ true =
    sym (ap (λ (z : ℤ). int_lt z (to_z w128 (of_z w128 c.bound.result))) g ∙ ap (λ (z : ℤ). int_lt c.greatest_of-greatest.result z) b) ∙ c.if-greatest-bound.true in
    led_conflict s fs (now c.args.set.now) c.args.next.now i (conflict_as (now c.args.set.now) c.args.next.now _ _ c.bound.ensures e h) d
