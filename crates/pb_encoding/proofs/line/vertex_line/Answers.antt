use Rattle.pb_encoding.proofs.LineForms.{even_line, odd_line}
use Rattle.pb_encoding.proofs.line.vertex_line.Goals as goal

pub returns-then-place-eq0-clause-form : goal.returns-then-place-eq0-clause-form
returns-then-place-eq0-clause-form c = even_line c.args.q.now c.args.place c.requires.inside c.if-place-eq0.true

pub returns-else-place-eq0-clause-form : goal.returns-else-place-eq0-clause-form
returns-else-place-eq0-clause-form c = odd_line c.args.q.now c.args.place c.requires.inside c.if-place-eq0.false
