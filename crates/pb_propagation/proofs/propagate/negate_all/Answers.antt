use Rattle.std.proofs.Common.{◌-◌, List, false, get_or, drop, arith, ap, sym, ◌∙◌}
use Rattle.proof_theory.specs.declared.literal.Literal.{Literal}
use Rattle.proof_theory.specs.Slack.{setting, negations}
use Rattle.log_theory.specs.Lookups.{are_distinct, variables_of}
use Rattle.pb_propagation.proofs.Backwards.{from_place}
use Rattle.pb_propagation.proofs.Propagation.{literal_at, negated_more, negated_twice, twice_behind}
use Rattle.pb_propagation.proofs.propagate.negate_all.Goals as goal

abbrev no_literal : Literal
no_literal = record { variable = 0; negated = false }

pub negate-requires : goal.negate-requires
negate-requires c =
    let h = c.loop-i-test.true in
    let n = c.loop-i.invariant.inside in
    let a = literal_at _ c.args.literals.now (c.loop-i.i - 1) c.requires.within (omega arith) in
    let l = c.loop-i.invariant.long in
    omega arith

pub returns-then-not-negate-clause-distinct : goal.returns-then-not-negate-clause-distinct
returns-then-not-negate-clause-distinct c =
    let d = from_place c.args.literals.now c.loop-i.i no_literal c.loop-i-test.true c.loop-i.invariant.inside in
    let t = negated_twice (setting c.loop-i.set) (get_or c.args.literals.now (c.loop-i.i - 1) no_literal) (drop c.loop-i.i c.args.literals.now) c.loop-i.invariant.set c.if-not-negate.ensures.negates in
    sym (twice_behind (c.loop-i.i - 1) c.args.literals.now (ap (λ (ls : List Literal). are_distinct (variables_of ls)) d ∙ t))

pub loop-i-preserved : goal.loop-i-preserved
loop-i-preserved c =
    let n = c.loop-i.invariant.inside in
    let d = from_place c.args.literals.now c.loop-i.i no_literal c.loop-i-test.true c.loop-i.invariant.inside in
    let m = negated_more (setting c.loop-i.set) (setting c.negate.new.set) (get_or c.args.literals.now (c.loop-i.i - 1) no_literal) (drop c.loop-i.i c.args.literals.now) c.loop-i.invariant.set c.loop-i.invariant.distinct c.if-not-negate.ensures.negates in
    record {
      set = λ v. m.0 v ∙ sym (ap (λ (ls : List Literal). negations ls v) d);
      distinct = ap (λ (ls : List Literal). are_distinct (variables_of ls)) d ∙ m.1;
      long = c.negate.ensures.long ∙ c.loop-i.invariant.long;
      inside = omega arith;
    }
