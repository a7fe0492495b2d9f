use Rattle.std.proofs.Common.{arith}
use Rattle.pb_encoding.proofs.Counts.{starts}
use Rattle.pb_encoding.proofs.encoding.Encoding.refused_start.Goals as goal

pub returns-clause-start : goal.returns-clause-start
returns-clause-start c = let s = starts c.args.self.now in omega arith
