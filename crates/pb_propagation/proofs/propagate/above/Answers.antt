use Rattle.std.proofs.Common.{List, false, arith, sym, subst}
use Rattle.proof_theory.specs.declared.literal.Literal.{Literal}
use Rattle.pb_propagation.specs.Reach.{LiteralsReach}
use Rattle.pb_propagation.proofs.Backwards.{from_place}
use Rattle.pb_propagation.proofs.Propagation.{literals_wider}
use Rattle.pb_propagation.proofs.propagate.above.Goals as goal

abbrev no_literal : Literal
no_literal = record { variable = 0; negated = false }

pub loop-i-preserved : goal.loop-i-preserved
loop-i-preserved c =
    let m = c.max-most.ensures in
    let n = c.loop-i.invariant.inside in
    let s = c.loop-i.invariant.small in
    record {
      reach = subst (λ (ls : List Literal). LiteralsReach c.max-most.result ls) (sym (from_place c.args.literals.now c.loop-i.i no_literal c.loop-i-test.true n)) (omega arith, literals_wider c.loop-i.most c.max-most.result _ (omega arith) c.loop-i.invariant.reach);
      small = omega arith;
      inside = omega arith;
    }
