use Rattle.std.proofs.Common.{◌≡◌, negsuc}
use Rattle.encoding_theory.specs.Variables.{variable}
use Rattle.graph_theory.specs.Blocks.{in_block}
use Rattle.encoding_theory.specs.Encoding.{terms_where}
use Rattle.pb_encoding.proofs.terms.block_terms.Given as goal

abbrev pub invariant-loop-p : goal.invariant-loop-p
invariant-loop-p l = l.out.items ≡ terms_where (negsuc 0) (in_block l.q l.block) (λ p. variable l.q p l.t) l.p
