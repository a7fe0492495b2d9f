use Rattle.trim_theory.proofs.Renaming.{makes_renamed}
use Rattle.trim_theory.proofs.renaming_law.Goals as goal

pub returns : goal.returns
returns c = makes_renamed
