use Rattle.graph_theory.proofs.ByPairs.{embeds_by_pairs_holds}
use Rattle.graph_theory.proofs.embedding.embeds_by_pairs.Goals as goal

pub returns : goal.returns
returns c = embeds_by_pairs_holds
