use Rattle.explanation_theory.proofs.Explaining as explaining
use Rattle.explanation_theory.proofs.end_laws.Goals as goal

pub returns : goal.returns
returns c = λ q. explaining.end_laws q
