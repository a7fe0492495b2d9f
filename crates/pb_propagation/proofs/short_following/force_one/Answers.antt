use Rattle.std.proofs.Common.{rules, ◌≡◌, inl, inr, refl, ℤ, pos, negsuc, to_z, of_z, int_le, Bool, arith, ap, subst, ◌∙◌}
use Rattle.std.specs.Int.{w32}
use Rattle.std.proofs.lemmas.Int.{ints, to_z-of_z}
use Rattle.proof_theory.specs.Slack.{wanted}
use Rattle.pb_propagation.specs.Levels.{SetTo, now}
use Rattle.pb_propagation.proofs.Led.{keeps_itself}
use Rattle.pb_propagation.proofs.Marks.{unset_of}
use Rattle.pb_propagation.proofs.short_following.force_one.Goals as goal

wanted_is : (z : ℤ) → int_le (pos 0) z ≡ wanted z
wanted_is (pos n) = search rules
wanted_is (negsuc n) = refl

pub returns-then-excess-from : goal.returns-then-excess-from
returns-then-excess-from c = record { set = inl (λ w. refl); kept = keeps_itself _ }

pub returns-then-is_some : goal.returns-then-is_some
returns-then-is_some c = record { set = inl (λ w. refl); kept = keeps_itself _ }

pub returns-then-not-is_within : goal.returns-then-not-is_within
returns-then-not-is_within c = record { set = inl (λ w. refl); kept = keeps_itself _ }

pub set-requires : goal.set-requires
set-requires c = record {
  within = c.is_within.ensures c.if-not-is_within.false;
  unset = unset_of _ _ _ c.value.ensures c.is_some.ensures c.if-is_some.false;
}

pub returns : goal.returns
returns c =
    let h = c.if-excess-from.false in
    let b = c.unsigned_abs.ensures.bound in
    let e = wanted_is (to_z w32 (of_z w32 c.args.coefficient)) ∙ ap (λ (z : ℤ). wanted z) (to_z-of_z w32 c.args.coefficient c.ranges.coefficient) in
    record {
      set = inr (subst (λ (b : Bool). SetTo (now c.args.set.now) c.args.variable b (now c.set.new.self)) e c.set.ensures.set, omega (arith, ints));
      kept = c.set.ensures.kept;
    }
