use Rattle.std.proofs.Common.{◌≡◌, ◌++◌, take}
use Rattle.domain_lines.specs.Operands.{beside_refs}
use Rattle.domain_lines.proofs.operands.push_beside.Given as goal

abbrev pub invariant-loop-r : goal.invariant-loop-r
invariant-loop-r l = l.refs.items ≡ l.fn.refs.items ++ beside_refs l.lines l.p l.u (take l.r-index l.vertices)
