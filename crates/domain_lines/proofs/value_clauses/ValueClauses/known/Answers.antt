use Rattle.encoding_theory.specs.Encoding.{refusal}
use Rattle.encoding_theory.specs.Places.{refused_place}
use Rattle.domain_lines.proofs.Crowds.{line_fits, line_found}
use Rattle.domain_lines.proofs.value_clauses.ValueClauses.known.Goals as goal

pub returns-in-Some-clause-named : goal.returns-in-Some-clause-named
returns-in-Some-clause-named c = λ w owner forms frame units.
    line_found c.args.self.now owner w forms c.in-Some.line (refused_place c.args.self.now c.args.p c.args.u) (refusal c.args.self.now c.args.p c.args.u)
    (rw c.turned-turned.ensures.same at c.in-Some.ensures.line) frame (rw c.turned-turned.ensures.same at c.in-Some.ensures.form)

pub returns-in-Some-clause-fits : goal.returns-in-Some-clause-fits
returns-in-Some-clause-fits c = line_fits c.args.self.now c.in-Some.line (refusal c.args.self.now c.args.p c.args.u) c.turned-turned.ensures.few_pattern c.turned-turned.ensures.few_target c.turned-turned.ensures.order
    (rw c.turned-turned.ensures.same at c.in-Some.ensures.form)
