use Rattle.std.proofs.Common.{◌≡◌, map, take}
use Rattle.trim_theory.specs.Marking.{new_op}
use Rattle.proof_trim.specs.Ranks.{renamed}
use Rattle.proof_trim.proofs.renaming.Renaming.new_ops.Given as goal

abbrev pub invariant-loop-op : goal.invariant-loop-op
invariant-loop-op l = l.out.items ≡ map (new_op (renamed l.self.index.now l.self.marks.now)) (take l.op-index l.ops)
