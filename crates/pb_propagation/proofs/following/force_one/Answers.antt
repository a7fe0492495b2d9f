use Rattle.std.proofs.Common.{inl, inr, refl, ℤ, Bool, arith, ap, subst, ◌∙◌}
use Rattle.std.specs.Int.{w128}
use Rattle.std.proofs.lemmas.Int.{ints, to_z-of_z}
use Rattle.proof_theory.specs.Slack.{wanted}
use Rattle.pb_propagation.specs.Levels.{SetTo, now}
use Rattle.pb_propagation.proofs.Led.{keeps_itself}
use Rattle.pb_propagation.proofs.Marks.{unset_of}
use Rattle.pb_propagation.proofs.following.force_one.Goals as goal

pub returns-clause-set : goal.returns-clause-set
returns-clause-set c =
    let h = c.if-greatest-unsigned_abs.false in
    let n = c.requires.narrow in
    let s = c.requires.small in
    let e = c.wanted.ensures ∙ ap (λ (z : ℤ). wanted z) (to_z-of_z w128 c.args.coefficient c.ranges.coefficient) in
    inr (subst (λ (b : Bool). SetTo (now c.args.set.now) c.args.variable b (now c.set.new.self)) e c.set.ensures.set, omega (arith, ints))

pub overflow_cast-unsigned_abs : goal.overflow_cast-unsigned_abs
overflow_cast-unsigned_abs c =
    let n = c.requires.narrow in
    omega (arith, ints)

pub overflow_sub-greatest : goal.overflow_sub-greatest
overflow_sub-greatest c =
    let n = c.requires.narrow in
    let s = c.requires.small in
    omega (arith, ints)

pub returns-then-greatest-unsigned_abs-clause-set : goal.returns-then-greatest-unsigned_abs-clause-set
returns-then-greatest-unsigned_abs-clause-set c = inl (λ w. refl)

pub returns-then-greatest-unsigned_abs-clause-kept : goal.returns-then-greatest-unsigned_abs-clause-kept
returns-then-greatest-unsigned_abs-clause-kept c = keeps_itself _

pub returns-then-is_some-clause-set : goal.returns-then-is_some-clause-set
returns-then-is_some-clause-set c = inl (λ w. refl)

pub returns-then-is_some-clause-kept : goal.returns-then-is_some-clause-kept
returns-then-is_some-clause-kept c = keeps_itself _

pub returns-then-not-is_within-clause-set : goal.returns-then-not-is_within-clause-set
returns-then-not-is_within-clause-set c = inl (λ w. refl)

pub returns-then-not-is_within-clause-kept : goal.returns-then-not-is_within-clause-kept
returns-then-not-is_within-clause-kept c = keeps_itself _

pub set-requires-clause-within : goal.set-requires-clause-within
set-requires-clause-within c = c.is_within.ensures c.if-not-is_within.false

pub set-requires-clause-unset : goal.set-requires-clause-unset
set-requires-clause-unset c = unset_of _ _ _ c.value.ensures c.is_some.ensures c.if-is_some.false

pub returns-clause-kept : goal.returns-clause-kept
returns-clause-kept c = c.set.ensures.kept
