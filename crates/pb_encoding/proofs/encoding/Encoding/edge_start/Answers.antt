use Rattle.std.proofs.Common.{◌≡◌, ap, ◌∙◌, length, arith}
use Rattle.pb_encoding.specs.Numbers.{refused_numbers}
use Rattle.pb_encoding.proofs.Counts.{starts}
use Rattle.pb_encoding.proofs.LineNumbers.{kept, kept_few}
use Rattle.pb_encoding.proofs.encoding.Encoding.edge_start.Goals as goal

pub returns-clause-start : goal.returns-clause-start
returns-clause-start c =
    let k = kept _ _ _ _ _ _ _ _ c.self.view_is c.self.invariant in
    let n : length c.as_slice-refused.result.now ≡ length (refused_numbers c.args.self.now) = ap length (c.as_slice-refused.ensures.value ∙ k.numbered.refused_are) in
    let s = starts c.args.self.now in
    omega arith

pub returns-clause-few : goal.returns-clause-few
returns-clause-few c =
    let k = kept _ _ _ _ _ _ _ _ c.self.view_is c.self.invariant in
    let n : length c.as_slice-refused.result.now ≡ length (refused_numbers c.args.self.now) = ap length (c.as_slice-refused.ensures.value ∙ k.numbered.refused_are) in
    let b = kept_few _ _ _ _ _ _ _ k in
    omega arith
