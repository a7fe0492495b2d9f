use Rattle.domain_lines.proofs.Turning.{edge_pair_seen, edge_seen}
use Rattle.domain_lines.proofs.turned.Turned.edge.Goals as goal

pub edge-requires-clause-exists : goal.edge-requires-clause-exists
edge-requires-clause-exists c = edge_pair_seen c.self.inside.direction c.self.inside.problem.now c.self.inside.lines.now c.args.self.now c.self.invariant c.self.view_is c.args.p c.args.r c.requires.p_in c.requires.r_in c.requires.exists

pub returns : goal.returns
returns c =
    edge_seen c.self.inside.direction c.self.inside.problem.now c.self.inside.lines.now c.args.self.now c.self.invariant c.self.view_is c.args.p c.args.r c.args.u c.edge.result
    c.requires.p_in c.requires.r_in c.requires.u_in c.edge.ensures.line
