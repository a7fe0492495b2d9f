use Rattle.std.proofs.Common.{sym}
use Rattle.pair_lines.proofs.Turned.{edge_there, edge_is}
use Rattle.pair_lines.proofs.known.Known.edge.Goals as goal

pub edge-requires-clause-exists : goal.edge-requires-clause-exists
edge-requires-clause-exists c =
    edge_there c.self.inside.direction c.args.self.now c.self.inside.q.now (sym c.self.view_is) c.args.p c.args.r c.requires.p_in c.requires.r_in c.self.inside.lines.now c.self.invariant c.requires.exists

pub returns : goal.returns
returns c =
    edge_is c.self.inside.direction c.args.self.now c.self.inside.q.now (sym c.self.view_is) c.args.p c.args.r c.requires.p_in c.requires.r_in c.self.inside.lines.now c.self.invariant c.args.t c.edge.result c.requires.t_in c.edge.ensures.line
