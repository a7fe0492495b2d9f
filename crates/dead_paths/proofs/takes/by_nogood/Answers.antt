use Rattle.std.proofs.Common.{◌≡◌, ℕ, true, false, refl, sym, subst, rules}
use Rattle.graph_theory.specs.Graph.{size}
use Rattle.needed_values.specs.Needed.{AreRows}
use Rattle.recorder.specs.declared.change.Cause.TheVariants as cause
use Rattle.dead_paths.specs.Choosing.{values_of}
use Rattle.dead_paths.proofs.Resting.{pass_one, pass_nogood, step_nogood}
use Rattle.dead_paths.proofs.takes.by_nogood.Goals as goal

pub is_any_needed-requires-clause-held : goal.is_any_needed-requires-clause-held
is_any_needed-requires-clause-held c = subst (λ (k : ℕ). AreRows k c.args.marked.now c.args.needed.now) (sym c.count_values-values.ensures.is) c.requires.held

pub returns-then-not-is_any_needed : goal.returns-then-not-is_any_needed
returns-then-not-is_any_needed c = λ path from here.
    let no : c.is_any_needed.result ≡ false = search rules in
    pass_one c.args.walk.now.q.now c.args.walk.now.rows.now path (size c.args.walk.now.q.now.target) c.count_values-values.result c.args.marked.now c.args.needed.now c.args.r (cause.Nogood c.args.name) from refl c.count_values-values.ensures.is (c.is_any_needed.ensures no)

pub returns-then-not-is_nogood_row : goal.returns-then-not-is_nogood_row
returns-then-not-is_nogood_row c = λ path from here.
    let no : c.is_nogood_row.result ≡ false = search rules in
    pass_nogood c.args.walk.now.q.now c.args.walk.now.rows.now path (values_of (size c.args.walk.now.q.now.target) c.args.marked.now c.args.needed.now) c.args.r c.args.name from (c.is_nogood_row.ensures.no no)

pub returns : goal.returns
returns c = λ path from here.
    let yes : c.is_nogood_row.result ≡ true = search rules in
    step_nogood c.args.walk.now.q.now c.args.walk.now.rows.now path (values_of (size c.args.walk.now.q.now.target) c.args.marked.now c.args.needed.now) (values_of (size c.args.walk.now.q.now.target) c.uphold_row.new.marked c.uphold_row.new.needed) c.args.r c.args.name from
    (c.is_nogood_row.ensures.yes yes) c.in_ok-uphold_row.ensures.more (c.in_ok-uphold_row.ensures.upheld path here)
