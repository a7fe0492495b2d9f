use Rattle.std.proofs.Common.{◌∙◌, ℕ, List, length, get_or, refl, sym, ap, subst, arith}
use Rattle.std.proofs.lemmas.Result.{err_from_is_err_and}
use Rattle.graph_theory.specs.Embedding.{Problem}
use Rattle.graph_theory.specs.Plain.{ArePlain}
use Rattle.demo_instances.specs.Shapes.{IsMadeOf}
use Rattle.demo_instances.specs.SeedProblems.{part_pair, IsPlanted}
use Rattle.demo_instances.proofs.Exchanges.{chosen-many, chosen-values}
use Rattle.demo_instances.proofs.instances.planted_problem.Goals as goal

pub graph_by-requires-2-clause-good : goal.graph_by-requires-2-clause-good
graph_by-requires-2-clause-good c =
    let is = c.deref.ensures.value ∙ c.in_ok-chosen.ensures in (
      ap length is ∙ chosen-many c.args.words.now,
      λ p p_in. omega (arith, chosen-values c.args.words.now p p_in, ap (λ (m : List ℕ). get_or m p 0) is, c.in_ok-target.ensures.made.size_is),
    )

pub returns-in_err-pattern-clause-planted : goal.returns-in_err-pattern-clause-planted
returns-in_err-pattern-clause-planted c =
    let p = err_from_is_err_and c.from_residual-in_err-pattern.result c.from_residual-in_err-pattern.ensures.1 in
    rw p.1 tt

pub returns-clause-planted : goal.returns-clause-planted
returns-clause-planted c =
    let is = c.deref.ensures.value ∙ c.in_ok-chosen.ensures in
    subst (IsPlanted c.args.words.now) (sym c.new.ensures) record {
      target = c.in_ok-target.ensures.made;
      pattern = subst (λ (m : List ℕ). IsMadeOf 10 (part_pair c.in_ok-target.target m) c.in_ok-pattern.pattern) is c.in_ok-pattern.ensures.made;
      kind = refl;
      free = refl;
    }

pub returns-in_err-pattern-clause-plain : goal.returns-in_err-pattern-clause-plain
returns-in_err-pattern-clause-plain c =
    let p = err_from_is_err_and c.from_residual-in_err-pattern.result c.from_residual-in_err-pattern.ensures.1 in
    rw p.1 tt

pub returns-clause-plain : goal.returns-clause-plain
returns-clause-plain c =
    subst (λ (q : Problem). ArePlain q) (sym c.new.ensures) record { pattern_plain = c.in_ok-pattern.ensures.plain; target_plain = c.in_ok-target.ensures.plain }
