use Rattle.domain_line_theory.proofs.HighNeighbours as laws
use Rattle.domain_line_theory.proofs.degree_laws.Goals as goal

pub returns : goal.returns
returns c = λ q. laws.degree_laws q
