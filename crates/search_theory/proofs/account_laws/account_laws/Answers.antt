use Rattle.search_theory.proofs.Refuted.{account_laws_hold}
use Rattle.search_theory.proofs.account_laws.account_laws.Goals as goal

pub returns : goal.returns
returns c = account_laws_hold
