use Rattle.std.proofs.Common.{rules, get_or, arith, ◌∙◌, FitsSigned}
use Rattle.std.specs.Int.{w128}
use Rattle.std.proofs.lemmas.Int.{ints, to_z-of_z}
use Rattle.proof_theory.specs.Slack.{setting}
use Rattle.pb_terms.proofs.Combining.{none}
use Rattle.pb_terms.proofs.Sizes.{size_at}
use Rattle.pb_propagation.proofs.Propagation.{reaches_at, forced_onward}
use Rattle.pb_propagation.proofs.propagate.force.Goals as goal

pub force_one-requires-clause-within : goal.force_one-requires-clause-within
force_one-requires-clause-within c =
    let a = reaches_at _ c.args.terms.now c.loop-variable.variable-index c.requires.within c.loop-variable-test.true in
    let l = c.loop-variable.invariant.long in
    omega arith

pub force_one-requires-clause-narrow : goal.force_one-requires-clause-narrow
force_one-requires-clause-narrow c =
    let h = size_at c.args.terms.now c.loop-variable.variable-index c.loop-variable-test.true in
    let k = c.requires.narrow in
    omega (arith, ints)

pub loop-variable-preserved : goal.loop-variable-preserved
loop-variable-preserved c =
    let q : FitsSigned w128 (get_or c.args.terms.now c.loop-variable.variable-index none).1 = search rules in
    record {
      set = forced_onward (setting c.args.set.now) (setting c.loop-variable.set) (setting c.force_one.new.set) _ _ c.args.terms.now c.loop-variable.variable-index c.requires.rises c.loop-variable-test.true (to_z-of_z w128 _ q) c.force_one.ensures.set c.loop-variable.invariant.set;
      long = c.force_one.ensures.long ∙ c.loop-variable.invariant.long;
    }
