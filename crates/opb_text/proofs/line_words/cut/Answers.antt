use Rattle.std.proofs.Common.{arith}
use Rattle.opb_text.proofs.LineEnds.{HasNo-more}
use Rattle.opb_text.proofs.line_words.cut.Goals as goal

pub loop-i-preserved : goal.loop-i-preserved
loop-i-preserved c = HasNo-more c.args.end c.loop-i.i c.args.bytes.now c.loop-i.invariant (omega arith) c.if-b-end.false
