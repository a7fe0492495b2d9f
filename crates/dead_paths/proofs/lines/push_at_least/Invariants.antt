use Rattle.std.proofs.Common.{◌≡◌, ◌++◌, take}
use Rattle.dead_paths.specs.Lines.{at_least_refs}
use Rattle.dead_paths.proofs.lines.push_at_least.Given as goal

abbrev pub invariant-loop-p : goal.invariant-loop-p
invariant-loop-p l = l.refs.items ≡ l.initial.refs.items ++ at_least_refs l.lines (take l.p-index l.vertices)
