use Rattle.graph_theory.proofs.DeadPaths.{path_laws_hold}
use Rattle.graph_theory.proofs.path.path_laws.Goals as goal

pub returns : goal.returns
returns c = path_laws_hold
