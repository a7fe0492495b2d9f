use Rattle.std.proofs.Common.{arith}
use Rattle.std.proofs.lemmas.Int.{to_z-of_z}
use Rattle.encoding_theory.specs.Variables.{variable}
use Rattle.encoding_theory.specs.Encoding.{every}
use Rattle.pb_encoding.proofs.TermLists.{few-terms}
use Rattle.pb_encoding.proofs.terms.vertex_terms.Goals as goal

pub returns-clause-few : goal.returns-clause-few
returns-clause-few c =
    let v = simp (to_z-of_z, c.ranges.coefficient) at c.loop-t.invariant in
    few-terms c.args.coefficient every (variable c.args.q.now c.args.p) c.loop-t.t c.loop-t.out.items v c.requires.coefficient (omega arith)
