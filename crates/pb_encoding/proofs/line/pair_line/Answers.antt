use Rattle.std.proofs.Common.{◌≡◌, inl, inr, ◌<◌, ◌/◌, get_or, arith}
use Rattle.graph_theory.specs.Graph.{size}
use Rattle.pb_encoding.specs.Numbers.{edge_numbers, non_edge_numbers}
use Rattle.pb_encoding.proofs.LineForms.{edge_pair_at, edge_form, non_edge_pair_at, non_edge_form, in_range}
use Rattle.pb_encoding.proofs.line.pair_line.Goals as goal

pub overflow_cast-result : goal.overflow_cast-result
overflow_cast-result c =
    let w : c.from-vertices.result ≡ size c.args.q.now.pattern = cc in
    let u : c.from-targets.result ≡ size c.args.q.now.target = cc in
    let row : get_or c.args.numbers.now (c.args.place / size c.args.q.now.target) 0 / size c.args.q.now.pattern < size c.args.q.now.pattern =
    elim c.requires.kind [
      | inl is ↦ (edge_pair_at c.args.q.now c.args.numbers.now c.args.place is c.requires.inside).row
      | inr is ↦ (non_edge_pair_at c.args.q.now c.args.numbers.now c.args.place is c.requires.inside).row
    ] in
    let few : size c.args.q.now.pattern < 1025 = rw (← w) (omega arith) in
    rw (w, u) (omega arith)

pub returns-clause-edges : goal.returns-clause-edges
returns-clause-edges c = λ (is : c.args.numbers.now ≡ edge_numbers c.args.q.now).
    let w : c.from-vertices.result ≡ size c.args.q.now.pattern = cc in
    let u : c.from-targets.result ≡ size c.args.q.now.target = cc in
    rw (w, u) (edge_form c.args.q.now c.args.place _ (edge_pair_at c.args.q.now c.args.numbers.now c.args.place is c.requires.inside))

pub returns-clause-non_edges : goal.returns-clause-non_edges
returns-clause-non_edges c = λ (is : c.args.numbers.now ≡ non_edge_numbers c.args.q.now).
    let w : c.from-vertices.result ≡ size c.args.q.now.pattern = cc in
    let u : c.from-targets.result ≡ size c.args.q.now.target = cc in
    rw (w, u) (non_edge_form c.args.q.now c.args.place _ (non_edge_pair_at c.args.q.now c.args.numbers.now c.args.place is c.requires.inside))

pub returns-clause-vertices : goal.returns-clause-vertices
returns-clause-vertices c =
    let w : c.from-vertices.result ≡ size c.args.q.now.pattern = cc in
    let u : c.from-targets.result ≡ size c.args.q.now.target = cc in
    rw (w, u) (elim c.requires.kind [
      | inl is ↦ in_range _ _ _ _ (edge_pair_at c.args.q.now c.args.numbers.now c.args.place is c.requires.inside)
      | inr is ↦ in_range _ _ _ _ (non_edge_pair_at c.args.q.now c.args.numbers.now c.args.place is c.requires.inside)
    ])
