use Rattle.std.proofs.Common.{◌≡◌, ◌++◌, take}
use Rattle.domain_lines.specs.Operands.{value_refs}
use Rattle.domain_lines.proofs.operands.push_values.Given as goal

abbrev pub invariant-loop-w : goal.invariant-loop-w
invariant-loop-w l = l.refs.items ≡ l.fn.refs.items ++ value_refs l.lines l.block (take l.w-index l.values)
