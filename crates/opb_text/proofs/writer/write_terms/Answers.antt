use Rattle.std.proofs.Common.{rules, ap, ℕ, ℤ, pos, get_or, FitsSigned}
use Rattle.std.specs.Int.{w128}
use Rattle.std.proofs.lemmas.Int.{to_z-of_z}
use Rattle.std.proofs.lemmas.Result.{err_from_is_err_and}
use Rattle.outer_io.specs.Sinks.{Spot}
use Rattle.opb_text.specs.Pieces.{term_text}
use Rattle.opb_text.proofs.Putting.{StopsIn-item, append_known-item}
use Rattle.opb_text.proofs.writer.write_terms.Goals as goal

pub returns-in_err-write_term-clause-text : goal.returns-in_err-write_term-clause-text
returns-in_err-write_term-clause-text g c =
    let t : ℕ × ℤ = get_or c.args.terms.now c.loop-variable.variable-index (0, pos 0) in
    let fits : FitsSigned w128 t.1 = search rules in
    let h = rw (to_z-of_z w128 t.1 fits) at c.in_err-write_term.ensures.text in
    let p = err_from_is_err_and c.from_residual.result c.from_residual.ensures.1 in
    rw p.1 (StopsIn-item term_text _ _ (ap (λ (s : Spot). s.steady) c.loop-variable.invariant.same) _ _ _ c.args.terms.now c.loop-variable.variable-index (0, pos 0) c.loop-variable-test.true c.loop-variable.invariant.text h)

pub loop-variable-preserved : goal.loop-variable-preserved
loop-variable-preserved g c =
    let t : ℕ × ℤ = get_or c.args.terms.now c.loop-variable.variable-index (0, pos 0) in
    let fits : FitsSigned w128 t.1 = search rules in
    let h = rw (to_z-of_z w128 t.1 fits) at c.in_ok-write_term.ensures.text in
    record {
      text = append_known-item term_text _ _ _ c.args.terms.now c.loop-variable.variable-index (0, pos 0) c.loop-variable-test.true c.loop-variable.invariant.text h;
      same = search rules;
      others = search rules;
      faults = search rules;
    }
