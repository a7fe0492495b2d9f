use Rattle.std.proofs.Common.{◌≡◌, ◌*◌, ℕ, List, ap, ◌∙◌, get_or, subst, sym, arith}
use Rattle.std.specs.Prelude.{map}
use Rattle.graph_theory.specs.Graph.{Graph, size}
use Rattle.journal_theory.proofs.Placing.{take_all}
use Rattle.log_theory.specs.LogText.{AreLiterals}
use Rattle.explanation_theory.specs.Reasons.{not_there}
use Rattle.dead_paths.proofs.Ends.{variable_fits, literals_fit, range_at}
use Rattle.dead_paths.proofs.dead_line.literals_of.Goals as goal

pub overflow_add-from : goal.overflow_add-from
overflow_add-from c =
    let x = get_or c.args.path.now c.loop-x.x-index (0, 0) in
    let r = range_at c.args.q.now c.args.path.now c.loop-x.x-index (0, 0) c.loop-x-test.true c.requires.path in
    let fits = variable_fits c.args.q.now x.0 x.1 c.requires.limited r.0 r.1 in
    let targets : c.from-targets.result ≡ size c.args.q.now.target = c.from-targets.ensures ∙ c.size.ensures.size ∙ ap (λ (g : Graph). size g) c.target.ensures.target in
    let is : c.from.result * c.from-targets.result ≡ x.0 * size c.args.q.now.target = ap (λ (n : ℕ). n * c.from-targets.result) c.from.ensures ∙ ap (λ (n : ℕ). x.0 * n) targets in
    omega (arith, fits, is, c.from-in-loop-x.ensures)

pub overflow_add-from-in-loop-x : goal.overflow_add-from-in-loop-x
overflow_add-from-in-loop-x c =
    let x = get_or c.args.path.now c.loop-x.x-index (0, 0) in
    let r = range_at c.args.q.now c.args.path.now c.loop-x.x-index (0, 0) c.loop-x-test.true c.requires.path in
    let fits = variable_fits c.args.q.now x.0 x.1 c.requires.limited r.0 r.1 in
    let targets : c.from-targets.result ≡ size c.args.q.now.target = c.from-targets.ensures ∙ c.size.ensures.size ∙ ap (λ (g : Graph). size g) c.target.ensures.target in
    let is : c.from.result * c.from-targets.result ≡ x.0 * size c.args.q.now.target = ap (λ (n : ℕ). n * c.from-targets.result) c.from.ensures ∙ ap (λ (n : ℕ). x.0 * n) targets in
    omega (arith, fits, is, c.from-in-loop-x.ensures)

pub returns-clause-fits : goal.returns-clause-fits
returns-clause-fits c =
    let is = c.new.ensures ∙ c.loop-x.invariant ∙ ap (λ (xs : List (ℕ × ℕ)). map (not_there c.args.q.now) xs) (take_all c.args.path.now c.loop-x.x-index c.loop-x-test.false) in
    subst AreLiterals (sym is) (literals_fit c.args.q.now c.args.path.now c.requires.limited c.requires.path)
