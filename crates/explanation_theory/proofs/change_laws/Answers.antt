use Rattle.explanation_theory.proofs.Explaining as explaining
use Rattle.explanation_theory.proofs.change_laws.Goals as goal

pub returns : goal.returns
returns c = λ q. explaining.change_laws q
