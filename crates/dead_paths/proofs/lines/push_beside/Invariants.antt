use Rattle.std.proofs.Common.{◌≡◌, ◌++◌, take}
use Rattle.dead_paths.specs.Lines.{beside_refs}
use Rattle.dead_paths.proofs.lines.push_beside.Given as goal

abbrev pub invariant-loop-r : goal.invariant-loop-r
invariant-loop-r l = l.refs.items ≡ l.initial.refs.items ++ beside_refs l.lines l.p l.t (take l.r-index l.vertices)
