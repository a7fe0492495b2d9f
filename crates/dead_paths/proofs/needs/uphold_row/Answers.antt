use Rattle.std.proofs.Common.{◌≡◌, ◌++◌, List, ℕ, subst, ap, ◌∙◌, arith}
use Rattle.graph_theory.specs.Graph.{size}
use Rattle.nogood_book.specs.Rows.{path_at}
use Rattle.dead_theory.specs.Changes.{AreUpheld}
use Rattle.dead_paths.specs.Choosing.{values_of}
use Rattle.dead_paths.proofs.HeldPairs.{row_vertex_of, row_value_of}
use Rattle.dead_paths.proofs.needs.uphold_row.Goals as goal

pub uphold_all-requires-clause-vertices : goal.uphold_all-requires-clause-vertices
uphold_all-requires-clause-vertices c = λ k below.
    let is : c.deref.result.now ≡ path_at c.args.walk.now.rows.now c.args.name =
    c.deref.ensures ∙ c.in_ok-push_path.ensures ∙ ap (λ (xs : List (ℕ × ℕ)). xs ++ path_at c.args.walk.now.rows.now c.args.name) c.clear.ensures.items in
    let h = row_vertex_of c.args.walk.now.q.now c.args.walk.now.rows.now c.args.name c.deref.result.now k c.requires.sound is below in
    omega (arith, h, c.requires.size)

pub uphold_all-requires-clause-values : goal.uphold_all-requires-clause-values
uphold_all-requires-clause-values c = λ k below.
    let is : c.deref.result.now ≡ path_at c.args.walk.now.rows.now c.args.name =
    c.deref.ensures ∙ c.in_ok-push_path.ensures ∙ ap (λ (xs : List (ℕ × ℕ)). xs ++ path_at c.args.walk.now.rows.now c.args.name) c.clear.ensures.items in
    row_value_of c.args.walk.now.q.now c.args.walk.now.rows.now c.args.name c.deref.result.now k c.requires.sound is below

pub returns-clause-upheld : goal.returns-clause-upheld
returns-clause-upheld c = λ path here.
    let is : c.deref.result.now ≡ path_at c.args.walk.now.rows.now c.args.name =
    c.deref.ensures ∙ c.in_ok-push_path.ensures ∙ ap (λ (xs : List (ℕ × ℕ)). xs ++ path_at c.args.walk.now.rows.now c.args.name) c.clear.ensures.items in
    subst (λ (xs : List (ℕ × ℕ)). AreUpheld path c.args.but (values_of (size c.args.walk.now.q.now.target) c.uphold_all.new.marked c.uphold_all.new.needed) xs) is (c.uphold_all.ensures.upheld path here)
