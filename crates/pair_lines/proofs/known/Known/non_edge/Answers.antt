use Rattle.std.proofs.Common.{sym}
use Rattle.pair_lines.proofs.Turned.{non_edge_there, non_edge_is}
use Rattle.pair_lines.proofs.known.Known.non_edge.Goals as goal

pub non_edge-requires-clause-exists : goal.non_edge-requires-clause-exists
non_edge-requires-clause-exists c =
    non_edge_there c.self.inside.direction c.args.self.now c.self.inside.q.now (sym c.self.view_is) c.args.p c.args.r c.requires.p_in c.requires.r_in c.self.inside.lines.now c.self.invariant c.requires.exists

pub returns : goal.returns
returns c =
    non_edge_is c.self.inside.direction c.args.self.now c.self.inside.q.now (sym c.self.view_is) c.args.p c.args.r c.requires.p_in c.requires.r_in c.self.inside.lines.now c.self.invariant c.args.t c.non_edge.result c.requires.t_in c.non_edge.ensures.line
