use Rattle.search_theory.proofs.Domains.{domain_laws_hold}
use Rattle.search_theory.proofs.domain_laws.domain_laws.Goals as goal

pub returns : goal.returns
returns c = domain_laws_hold
