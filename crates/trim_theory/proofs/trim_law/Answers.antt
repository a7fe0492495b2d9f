use Rattle.trim_theory.proofs.Accepting.{trimmed}
use Rattle.trim_theory.proofs.trim_law.Goals as goal

pub returns : goal.returns
returns c = trimmed
