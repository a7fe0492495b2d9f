use Rattle.std.proofs.Common.{◌≡◌, drop}
use Rattle.byte_words.specs.Words.{words_between}
use Rattle.byte_words.proofs.without_blanks.Given as goal

abbrev pub invariant-loop-i : goal.invariant-loop-i
invariant-loop-i g l = words_between g.B.Blanks.blank (drop l.i l.text) ≡ words_between g.B.Blanks.blank l.text
