use Rattle.std.proofs.Common.{◌∙◌}
use Rattle.std.proofs.lemmas.Bool.{lt-ltb}
use Rattle.bit_rows.proofs.WordBits.{is_set_ones}
use Rattle.small_search.proofs.placing.word_where.Goals as goal

pub returns-else-counts : goal.returns-else-counts
returns-else-counts c = λ t t_in h. is_set_ones 64 t ∙ lt-ltb t 64 t_in
