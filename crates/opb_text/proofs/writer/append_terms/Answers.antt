use Rattle.std.proofs.Common.{ℕ, ℤ, pos, get_or, FitsSigned, rules}
use Rattle.std.specs.Int.{w128}
use Rattle.std.proofs.lemmas.Int.{to_z-of_z}
use Rattle.opb_text.specs.Pieces.{term_text}
use Rattle.opb_text.proofs.Appending.{appended-item}
use Rattle.opb_text.proofs.writer.append_terms.Goals as goal

pub loop-variable-preserved : goal.loop-variable-preserved
loop-variable-preserved c =
    let t : ℕ × ℤ = get_or c.args.terms.now c.loop-variable.variable-index (0, pos 0) in
    let fits : FitsSigned w128 t.1 = search rules in
    let h = rw (to_z-of_z w128 t.1 fits) at c.in_ok-append_term.ensures in
    appended-item term_text _ _ _ c.args.terms.now c.loop-variable.variable-index (0, pos 0) c.loop-variable-test.true c.loop-variable.invariant h
