use Rattle.std.proofs.Common.{sym}
use Rattle.pair_lines.proofs.Turned.{block_there, block_is}
use Rattle.pair_lines.proofs.known.Known.block.Goals as goal

pub at_most_in-requires-clause-exists : goal.at_most_in-requires-clause-exists
at_most_in-requires-clause-exists c =
    block_there c.self.inside.direction c.args.self.now c.self.inside.q.now (sym c.self.view_is) c.self.inside.lines.now c.self.invariant c.args.block c.requires.exists

pub returns : goal.returns
returns c =
    block_is c.self.inside.direction c.args.self.now c.self.inside.q.now (sym c.self.view_is) c.self.inside.lines.now c.self.invariant c.args.block c.args.t c.at_most_in.result c.requires.exists c.at_most_in.ensures.line
