use Rattle.std.proofs.Common.{◌≡◌}
use Rattle.graph_theory.specs.Graph.{size}
use Rattle.graph_theory.specs.Neighbours.{members}
use Rattle.encoding_theory.specs.Encoding.{is_refused}
use Rattle.pb_encoding.specs.Numbers.{by_number}
use Rattle.pb_encoding.proofs.numbers.refused_numbers.Given as goal

abbrev pub invariant-loop-number : goal.invariant-loop-number
invariant-loop-number l = l.out.items ≡ members (by_number (is_refused l.q) (size l.q.target)) l.number
