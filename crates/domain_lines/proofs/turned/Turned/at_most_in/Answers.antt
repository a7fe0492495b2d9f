use Rattle.domain_lines.proofs.Turning.{has_seen, block_seen}
use Rattle.domain_lines.proofs.turned.Turned.at_most_in.Goals as goal

pub at_most_in-requires-clause-exists : goal.at_most_in-requires-clause-exists
at_most_in-requires-clause-exists c = has_seen c.self.inside.direction c.self.inside.problem.now c.self.inside.lines.now c.args.self.now c.self.invariant c.self.view_is c.args.block c.requires.exists

pub returns : goal.returns
returns c =
    block_seen c.self.inside.direction c.self.inside.problem.now c.self.inside.lines.now c.args.self.now c.self.invariant c.self.view_is c.args.block c.args.w c.at_most_in.result
    c.requires.exists c.at_most_in.ensures.line
