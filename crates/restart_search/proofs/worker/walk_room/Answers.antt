use Rattle.std.proofs.Common.{length, ap, ◌∙◌, arith, rules}
use Rattle.std.proofs.lemmas.List.{length-replicate}
use Rattle.graph_theory.specs.Graph.{size}
use Rattle.bit_rows.specs.BitRows.{words_for}
use Rattle.restart_search.proofs.worker.walk_room.Goals as goal

pub returns-clause-long : goal.returns-clause-long
returns-clause-long g c =
    ap length (c.in_ok-waiting.ensures.items_if_clones_equal (search rules)) ∙ (length-replicate _ _ ∙ (c.from-vertices.ensures ∙ (c.size.ensures.size ∙ ap size c.pattern.ensures.pattern)))

pub returns-clause-words : goal.returns-clause-words
returns-clause-words g c =
    ap length (c.in_ok-untried.ensures.items_if_clones_equal (search rules)) ∙ (length-replicate _ _ ∙ (c.words_for-words.ensures ∙ ap words_for (c.from.ensures ∙ (c.size-2.ensures.size ∙ ap size c.target.ensures.target))))

pub returns-clause-room : goal.returns-clause-room
returns-clause-room g c = omega (arith, c.in_ok-marks.ensures.capacity, c.from-vertices.ensures, c.size.ensures.size, ap size c.pattern.ensures.pattern)
