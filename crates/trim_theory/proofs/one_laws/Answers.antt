use Rattle.trim_theory.proofs.Uniqueness.{one}
use Rattle.trim_theory.proofs.one_laws.Goals as goal

pub returns : goal.returns
returns c = one
