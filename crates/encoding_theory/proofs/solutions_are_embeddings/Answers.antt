use Rattle.encoding_theory.proofs.SolutionProofs.{solution_laws}
use Rattle.encoding_theory.proofs.solutions_are_embeddings.Goals as goal

pub returns : goal.returns
returns c = solution_laws
