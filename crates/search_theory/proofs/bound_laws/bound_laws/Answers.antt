use Rattle.search_theory.proofs.Enough.{bound_laws_hold}
use Rattle.search_theory.proofs.bound_laws.bound_laws.Goals as goal

pub returns : goal.returns
returns c = bound_laws_hold
