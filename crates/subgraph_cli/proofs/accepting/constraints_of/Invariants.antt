use Rattle.std.proofs.Common.{◌≡◌, take}
use Rattle.encoding_theory.specs.Encoding.{encoding}
use Rattle.subgraph_cli.proofs.accepting.constraints_of.Given as goal

-- The constraints so far.
abbrev pub invariant-loop-i : goal.invariant-loop-i
invariant-loop-i l = l.constraints.items ≡ take l.i (encoding l.encoding)
