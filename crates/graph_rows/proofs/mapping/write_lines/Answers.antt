use Rattle.std.proofs.Common.{rules, ap}
use Rattle.std.proofs.lemmas.Result.{err_from_is_err_and}
use Rattle.outer_io.specs.Sinks.{Spot}
use Rattle.graph_rows.proofs.MappingPut.{StopsIn-line, StopsIn-yes, append_known-line}
use Rattle.graph_rows.proofs.mapping.write_lines.Goals as goal

pub returns-in_err-put-clause-text : goal.returns-in_err-put-clause-text
returns-in_err-put-clause-text g c =
    let p = err_from_is_err_and c.from_residual.result c.from_residual.ensures.1 in
    rw p.1 (StopsIn-yes _ _ _ c.args.map.now c.in_err-put.ensures.text)

pub returns-in_err-write_line-clause-text : goal.returns-in_err-write_line-clause-text
returns-in_err-write_line-clause-text g c =
    let p = err_from_is_err_and c.from_residual-in_err-write_line.result c.from_residual-in_err-write_line.ensures.1 in
    rw p.1 (StopsIn-line _ _ (ap (λ (s : Spot). s.steady) c.loop-p.invariant.same) _ _ _ c.args.map.now c.loop-p.p c.loop-p-test.true c.loop-p.invariant.text c.in_err-write_line.ensures.text)

pub loop-p-preserved : goal.loop-p-preserved
loop-p-preserved g c = record {
  text = append_known-line _ _ _ c.args.map.now c.loop-p.p c.loop-p-test.true c.loop-p.invariant.text c.in_ok-write_line.ensures.text;
  same = search rules;
  others = search rules;
  faults = search rules;
}
