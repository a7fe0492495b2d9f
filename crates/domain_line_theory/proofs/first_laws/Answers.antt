use Rattle.domain_line_theory.proofs.FirstValues as laws
use Rattle.domain_line_theory.proofs.first_laws.Goals as goal

pub returns : goal.returns
returns c = λ q. laws.first_laws q
