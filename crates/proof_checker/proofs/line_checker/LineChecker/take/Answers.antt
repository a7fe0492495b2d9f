use Rattle.std.proofs.Common.{rules, List, subst}
use Rattle.proof_theory.specs.Forms.{Form}
use Rattle.pb_propagation.specs.Rooted.{IsRooted}
use Rattle.proof_checker.proofs.line_checker.LineChecker.take.Goals as goal

pub invariant_of-self-in-Goes-1 : goal.invariant_of-self-in-Goes-1
invariant_of-self-in-Goes-1 c =
    (search rules, subst (λ (fs : List Form). IsRooted fs c.prove.new.table c.prove.new.work.levels) c.deref.ensures.value c.in-Ok-Goes.ensures.rooted)
