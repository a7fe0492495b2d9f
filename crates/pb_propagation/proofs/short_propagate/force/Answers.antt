use Rattle.std.proofs.Common.{rules, get_or, arith, ◌∙◌, FitsSigned}
use Rattle.std.specs.Int.{w32}
use Rattle.std.proofs.lemmas.Int.{to_z-of_z}
use Rattle.proof_theory.specs.Slack.{setting}
use Rattle.pb_terms.proofs.Combining.{none}
use Rattle.pb_propagation.proofs.Propagation.{reaches_at, forced_onward}
use Rattle.pb_propagation.proofs.short_propagate.force.Goals as goal

pub force_one-requires : goal.force_one-requires
force_one-requires c =
    let a = reaches_at _ c.args.terms.now c.loop-variable.variable-index c.requires.within c.loop-variable-test.true in
    let l = c.loop-variable.invariant.long in
    omega arith

pub loop-variable-preserved : goal.loop-variable-preserved
loop-variable-preserved c =
    let q : FitsSigned w32 (get_or c.args.terms.now c.loop-variable.variable-index none).1 = search rules in
    record {
      set = forced_onward (setting c.args.set.now) (setting c.loop-variable.set) (setting c.force_one.new.set) _ _ c.args.terms.now c.loop-variable.variable-index c.requires.rises c.loop-variable-test.true (to_z-of_z w32 _ q) c.force_one.ensures.set c.loop-variable.invariant.set;
      long = c.force_one.ensures.long ∙ c.loop-variable.invariant.long;
    }
