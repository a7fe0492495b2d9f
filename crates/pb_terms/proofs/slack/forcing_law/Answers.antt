use Rattle.pb_terms.proofs.Forcing.{set_after, forced_before}
use Rattle.pb_terms.proofs.slack.forcing_law.Goals as goal

pub returns : goal.returns
returns c = λ s f place r h. (set_after s f place r h, forced_before s f place r h)
