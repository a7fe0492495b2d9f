use Rattle.std.proofs.Common.{length}
use Rattle.std.specs.Vec.{vec_capacity, vec_len}
use Rattle.pb_terms.proofs.Trails.{ToClear}
use Rattle.pb_terms.proofs.literals.Literals.clear.Given as goal

abbrev pub invariant-loop-variable : goal.invariant-loop-variable
invariant-loop-variable l = ToClear l.self-inside.values.items l.self-inside.trail.items (length l.fn.self) (vec_capacity l.self-inside.trail)

abbrev pub decreases-loop-variable : goal.decreases-loop-variable
decreases-loop-variable l = vec_len l.self-inside.trail
