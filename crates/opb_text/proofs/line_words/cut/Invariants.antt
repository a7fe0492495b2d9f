use Rattle.std.proofs.Common.{take}
use Rattle.opb_text.specs.Cutting.{HasNo}
use Rattle.opb_text.proofs.line_words.cut.Given as goal

abbrev pub invariant-loop-i : goal.invariant-loop-i
invariant-loop-i l = HasNo l.end (take l.i l.bytes)
