use Rattle.std.proofs.Common.{List, length, ap, arith}
use Rattle.log_theory.specs.declared.step.Step.{Step}
use Rattle.journals.specs.Keeping.{Keeping}
use Rattle.journals.proofs.Texts.{ends_count}
use Rattle.journals.proofs.journal.Journal.ends.Goals as goal

pub returns-clause-few : goal.returns-clause-few
returns-clause-few c =
    let steps = ap (λ (k : Keeping). k.steps) c.self.view_is in
    omega (arith, c.self.inside.ends.ok, ends_count c.self.inside.text.bytes c.self.inside.ends.items c.self.invariant.1, ap (λ (ss : List Step). length ss) steps)
