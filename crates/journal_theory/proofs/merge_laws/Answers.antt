use Rattle.journal_theory.proofs.Accepting.{merges}
use Rattle.journal_theory.proofs.merge_laws.Goals as goal

pub returns : goal.returns
returns c = merges
