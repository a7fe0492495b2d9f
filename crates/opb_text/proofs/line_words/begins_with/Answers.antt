use Rattle.std.proofs.Common.{◌∙◌}
use Rattle.opb_text.proofs.WordKinds.{starts-begins}
use Rattle.opb_text.proofs.line_words.begins_with.Goals as goal

pub returns : goal.returns
returns c = c.starts_with.ensures.value ∙ starts-begins c.args.word.now c.args.front.now
