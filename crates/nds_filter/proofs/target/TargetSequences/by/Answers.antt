use Rattle.std.proofs.Common.{ap, ◌∙◌}
use Rattle.nds_filter.specs.Target.{Kept}
use Rattle.nds_filter.proofs.target.TargetSequences.by.Goals as goal

pub returns-in-Out : goal.returns-in-Out
returns-in-Out c = λ g are. rw c.in-Out.is (ap (λ (k : Kept). k.out) c.self.view_is ∙ are.out_are)
