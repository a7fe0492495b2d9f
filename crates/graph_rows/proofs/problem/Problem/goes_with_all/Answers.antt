use Rattle.std.proofs.Common.{arith}
use Rattle.graph_rows.proofs.problem.Problem.goes_with_all.Goals as goal

pub overflow_cast-u : goal.overflow_cast-u
overflow_cast-u c = omega (arith, c.requires.before c.from.result (omega arith))
