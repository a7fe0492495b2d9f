use Rattle.std.proofs.Common.{arith}
use Rattle.graph_theory.proofs.MappingWords.{HasNoLineFeed-more}
use Rattle.graph_theory.proofs.mapping_lines.first_line.Goals as goal

pub loop-i-preserved : goal.loop-i-preserved
loop-i-preserved c = HasNoLineFeed-more c.loop-i.i c.args.bytes.now c.loop-i.invariant (omega arith) c.if-b-eq10.false
