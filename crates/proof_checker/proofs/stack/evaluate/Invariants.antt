use Rattle.std.proofs.Common.{◌≡◌, [], drop}
use Rattle.log_theory.specs.Lookups.{evaluate}
use Rattle.log_theory.specs.Tables.{find}
use Rattle.proof_checker.proofs.stack.evaluate.Given as goal

abbrev pub invariant-loop-op : goal.invariant-loop-op
invariant-loop-op l = evaluate (find l.model l.table) l.stack (drop l.op-index l.ops) ≡ evaluate (find l.model l.table) [] l.ops
