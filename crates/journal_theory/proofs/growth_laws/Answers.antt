use Rattle.journal_theory.proofs.Growing.{growth}
use Rattle.journal_theory.proofs.growth_laws.Goals as goal

pub returns : goal.returns
returns c = growth
