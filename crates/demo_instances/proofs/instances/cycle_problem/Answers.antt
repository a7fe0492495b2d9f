use Rattle.std.proofs.Common.{refl, sym, subst}
use Rattle.graph_theory.specs.Embedding.{Problem}
use Rattle.graph_theory.specs.Plain.{ArePlain}
use Rattle.demo_instances.specs.SeedProblems.{IsCycle}
use Rattle.demo_instances.proofs.instances.cycle_problem.Goals as goal

pub returns-clause-cycle : goal.returns-clause-cycle
returns-clause-cycle c =
    subst (IsCycle c.args.words.now) (sym c.new.ensures) record { target = c.in_ok-target.ensures.made; pattern = c.in_ok-pattern.ensures.made; kind = refl }

pub returns-clause-plain : goal.returns-clause-plain
returns-clause-plain c =
    subst (λ (q : Problem). ArePlain q) (sym c.new.ensures) record { pattern_plain = c.in_ok-pattern.ensures.plain; target_plain = c.in_ok-target.ensures.plain }
