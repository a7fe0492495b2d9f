use Rattle.std.proofs.Common.{is_some}
use Rattle.domain_lines.proofs.Turning.{refused_seen, refused_line_seen, refusal_seen}
use Rattle.domain_lines.proofs.turned.Turned.refused.Goals as goal

pub returns-clause-exists : goal.returns-clause-exists
returns-clause-exists c =
    refused_seen c.self.inside.direction c.self.inside.problem.now c.self.inside.lines.now c.args.self.now c.self.invariant c.self.view_is c.args.p c.args.u (is_some c.refused.result)
    c.requires.p_in c.requires.u_in c.refused.ensures.exists

pub returns-clause-line : goal.returns-clause-line
returns-clause-line c =
    refused_line_seen c.self.inside.direction c.self.inside.problem.now c.self.inside.lines.now c.args.self.now c.self.invariant c.self.view_is c.args.p c.args.u c.refused.result
    c.requires.p_in c.requires.u_in c.refused.ensures.line

pub returns-clause-form : goal.returns-clause-form
returns-clause-form c = refusal_seen c.self.inside.direction c.self.inside.problem.now c.self.inside.lines.now c.args.self.now c.self.invariant c.self.view_is c.args.p c.args.u c.refused.result c.refused.ensures.form
