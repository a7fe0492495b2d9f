use Rattle.std.proofs.Common.{◌≡◌, ◌≤◌, ◌*◌, ap, ◌∙◌, length, arith}
use Rattle.graph_theory.specs.Graph.{size}
use Rattle.pb_encoding.specs.Numbers.{non_edge_numbers}
use Rattle.pb_encoding.proofs.Counts.{starts}
use Rattle.pb_encoding.proofs.LineNumbers.{kept, kept_few}
use Rattle.pb_encoding.proofs.encoding.Encoding.less_start.Goals as goal

pub lines_of-requires-clause-pairs : goal.lines_of-requires-clause-pairs
lines_of-requires-clause-pairs c =
    let k = kept _ _ _ _ _ _ _ _ c.self.view_is c.self.invariant in
    let e : length c.deref.result.now ≡ length (non_edge_numbers c.args.self.now) = ap length (c.deref.ensures.value ∙ k.numbered.non_edges_are) in
    let b : length (non_edge_numbers c.args.self.now) ≤ 1048576 = (kept_few _ _ _ _ _ _ _ k).non_edges in
    omega arith

pub returns-clause-start : goal.returns-clause-start
returns-clause-start c =
    let k = kept _ _ _ _ _ _ _ _ c.self.view_is c.self.invariant in
    let e : length c.deref.result.now ≡ length (non_edge_numbers c.args.self.now) = ap length (c.deref.ensures.value ∙ k.numbered.non_edges_are) in
    let n : c.lines_of.result ≡ length (non_edge_numbers c.args.self.now) * size c.args.self.now.target = c.lines_of.ensures.lines ∙ rw (e, k.targets_are) in
    let s = starts c.args.self.now in
    omega arith
