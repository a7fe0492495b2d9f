use Rattle.opb_text.proofs.WordEnds.{opb_words-first}
use Rattle.opb_text.proofs.line_words.first_word.Goals as goal

pub returns-clause-words : goal.returns-clause-words
returns-clause-words c = opb_words-first c.args.line.now c.first_word.result c.first_word.ensures.words
