use Rattle.byte_words.proofs.WordEnds.{AreInWord}
use Rattle.byte_words.proofs.word_end.Given as goal

abbrev pub invariant-loop-i : goal.invariant-loop-i
invariant-loop-i g l = AreInWord g.B.Blanks.blank l.i l.text
