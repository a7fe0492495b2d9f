use Rattle.std.proofs.Common.{◌+◌, arith}
use Rattle.pb_terms.proofs.Trails.{IsTrailOf-none}
use Rattle.pb_terms.proofs.literals.Literals.new.Goals as goal

pub invariant_of-result : goal.invariant_of-result
invariant_of-result c =
    rw c.in_ok-trail.ensures.items (IsTrailOf-none c.resize.new.self.items (c.args.variables + 1) _ (grind arith) (omega (arith, c.in_ok-trail.ensures.exact)))
