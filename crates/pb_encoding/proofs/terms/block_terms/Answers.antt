use Rattle.std.proofs.Common.{negsuc, arith}
use Rattle.encoding_theory.specs.Variables.{variable}
use Rattle.graph_theory.specs.Blocks.{in_block}
use Rattle.pb_encoding.proofs.TermLists.{few-terms}
use Rattle.pb_encoding.proofs.terms.block_terms.Goals as goal

pub returns-clause-few : goal.returns-clause-few
returns-clause-few c =
    few-terms (negsuc 0) (in_block c.args.q.now c.args.block) (λ p. variable c.args.q.now p c.args.t) c.loop-p.p c.loop-p.out.items c.loop-p.invariant (omega arith) (omega arith)
