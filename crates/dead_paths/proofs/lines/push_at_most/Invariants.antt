use Rattle.std.proofs.Common.{◌≡◌, ◌++◌, take}
use Rattle.std.specs.Prelude.{map}
use Rattle.dead_paths.specs.Lines.{block_ref}
use Rattle.dead_paths.proofs.lines.push_at_most.Given as goal

abbrev pub invariant-loop-t : goal.invariant-loop-t
invariant-loop-t l = l.refs.items ≡ l.initial.refs.items ++ map (block_ref l.lines l.centre) (take l.t-index l.values)
