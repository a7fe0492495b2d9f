use Rattle.graph_theory.proofs.BlockProofs.{block_laws_hold}
use Rattle.graph_theory.proofs.embedding.block_laws.Goals as goal

pub returns : goal.returns
returns c = block_laws_hold
