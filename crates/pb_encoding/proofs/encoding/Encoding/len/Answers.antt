use Rattle.std.proofs.Common.{◌≡◌, ◌*◌, ◌∙◌, length, arith}
use Rattle.graph_theory.specs.Graph.{size}
use Rattle.pb_encoding.proofs.Counts.{all_forms, inside_of}
use Rattle.pb_encoding.proofs.LineNumbers.{kept, order_seen}
use Rattle.pb_encoding.proofs.encoding.Encoding.len.Goals as goal

pub returns : goal.returns
returns c =
    let k = kept _ _ _ _ _ _ _ _ c.self.view_is c.self.invariant in
    let order = order_seen _ _ _ c.self.view_is c.less-pairs.ensures.pairs c.less-pairs.ensures.order in
    let a = all_forms c.args.self.now (inside_of c.args.self.now order) in
    let n : length c.less-pairs.result.now ≡ length c.args.self.now.less = cc in
    let m : c.order_lines.result ≡ length c.args.self.now.less * (2 * size c.args.self.now.target) = c.order_lines.ensures.lines ∙ rw (n, k.targets_are) in
    omega arith
