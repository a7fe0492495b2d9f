use Rattle.std.proofs.Common.{◌≡◌}
use Rattle.graph_theory.specs.Graph.{size}
use Rattle.graph_theory.specs.Neighbours.{members}
use Rattle.encoding_theory.specs.Pairs.{is_non_edge_pair}
use Rattle.pb_encoding.specs.Numbers.{by_number}
use Rattle.pb_encoding.proofs.numbers.non_edge_numbers.Given as goal

abbrev pub invariant-loop-number : goal.invariant-loop-number
invariant-loop-number l = l.out.items ≡ members (by_number (is_non_edge_pair l.q) (size l.q.pattern)) l.number
