use Rattle.std.proofs.Common.{◌≡◌, ℕ, false, refl, sym, subst, rules}
use Rattle.graph_theory.specs.Graph.{size}
use Rattle.needed_values.specs.Needed.{AreRows}
use Rattle.dead_paths.proofs.Resting.{pass_one, step_guess}
use Rattle.recorder.specs.declared.change.Cause.TheVariants as cause
use Rattle.dead_paths.proofs.takes.by_guess.Goals as goal

pub is_any_needed-requires-clause-held : goal.is_any_needed-requires-clause-held
is_any_needed-requires-clause-held c = subst (λ (k : ℕ). AreRows k c.args.marked.now c.args.needed.now) (sym c.count_values-values.ensures.is) c.requires.held

pub returns-then-not-is_any_needed : goal.returns-then-not-is_any_needed
returns-then-not-is_any_needed c = λ rows path from.
    let no : c.is_any_needed.result ≡ false = search rules in
    pass_one c.args.q.now rows path (size c.args.q.now.target) c.count_values-values.result c.args.marked.now c.args.needed.now c.args.r (cause.Guess c.args.t) from refl c.count_values-values.ensures.is (c.is_any_needed.ensures no)

pub returns : goal.returns
returns c = λ rows path from.
    step_guess c.args.q.now rows path (size c.args.q.now.target) c.count_values-values.result c.args.marked.now c.unmark.new.marked c.args.needed.now c.args.r c.args.t from c.count_values-values.ensures.is c.unmark.ensures.others
