use Rattle.std.proofs.Common.{◌≡◌, ◌++◌, drop}
use Rattle.journal_theory.specs.Referring.{op_refs}
use Rattle.proof_trim.proofs.references.push_op_refs.Given as goal

abbrev pub invariant-loop-op : goal.invariant-loop-op
invariant-loop-op l = l.refs.items ++ op_refs (drop l.op-index l.ops) ≡ l.initial.refs.items ++ op_refs l.ops
