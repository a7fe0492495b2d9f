use Rattle.search_theory.proofs.Enough.{spent_below, below_enough}
use Rattle.std.proofs.lemmas.Bool.{eqb-true}
use Rattle.fail_account.proofs.account.Account.spent.Goals as goal

pub returns-clause-not_enough : goal.returns-clause-not_enough
returns-clause-not_enough c = λ h. rw (← c.self.view_is) (below_enough c.self.inside.budget c.self.inside.pattern c.self.inside.target (spent_below _ c.self.invariant.bounded (eqb-true _ _ h)))
