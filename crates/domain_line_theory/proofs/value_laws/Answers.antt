use Rattle.domain_line_theory.proofs.Crowding as laws
use Rattle.domain_line_theory.proofs.value_laws.Goals as goal

pub returns : goal.returns
returns c = λ q. laws.value_laws q
