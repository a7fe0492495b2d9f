use Rattle.std.proofs.Common.{◌∙◌, sym}
use Rattle.pair_lines.proofs.Turned.{non_edge_pair_known}
use Rattle.pair_lines.proofs.known.Known.is_non_edge_pair.Goals as goal

pub returns : goal.returns
returns c = c.is_non_edge_pair.ensures ∙ non_edge_pair_known c.self.inside.direction c.args.self.now c.self.inside.q.now (sym c.self.view_is) c.args.p c.args.r c.requires.p_in c.requires.r_in
