use Rattle.std.proofs.Common.{◌≡◌, ◌*◌, ap, sym, ◌∙◌, arith}
use Rattle.graph_theory.specs.Graph.{size}
use Rattle.graph_theory.specs.Embedding.{Problem}
use Rattle.pb_encoding.specs.Numbers.{centres, block_count}
use Rattle.pb_encoding.proofs.LineNumbers.{kept, kept_few}
use Rattle.pb_encoding.proofs.encoding.Encoding.block_lines.Goals as goal

pub block_count_of-requires : goal.block_count_of-requires
block_count_of-requires c =
    let k = kept _ _ _ _ _ _ _ _ c.self.view_is c.self.invariant in
    c.deref.ensures.value ∙ k.numbered.centres_are ∙ ap centres (sym c.self.view_is)

pub returns-clause-lines : goal.returns-clause-lines
returns-clause-lines c =
    let k = kept _ _ _ _ _ _ _ _ c.self.view_is c.self.invariant in
    rw (c.block_count_of.ensures, c.from.ensures, k.targets_are) (ap (λ (q : Problem). block_count q * size c.args.self.now.target) c.self.view_is)

pub returns-clause-few : goal.returns-clause-few
returns-clause-few c =
    let k = kept _ _ _ _ _ _ _ _ c.self.view_is c.self.invariant in
    let b = (kept_few _ _ _ _ _ _ _ k).block_forms in
    let n = returns-clause-lines c in
    omega arith

pub overflow_mul-result : goal.overflow_mul-result
overflow_mul-result c =
    let k = kept _ _ _ _ _ _ _ _ c.self.view_is c.self.invariant in
    let b = (kept_few _ _ _ _ _ _ _ k).block_forms in
    let n : c.block_count_of.result * c.from.result ≡ block_count c.args.self.now * size c.args.self.now.target =
    rw (c.block_count_of.ensures, c.from.ensures, k.targets_are) (ap (λ (q : Problem). block_count q * size c.args.self.now.target) c.self.view_is) in
    rw n (omega (arith, b))
