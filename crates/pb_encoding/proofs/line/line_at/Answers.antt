use Rattle.std.proofs.Common.{◌≡◌, ℕ, ◌+◌, ◌-◌, ◌*◌, ◌≤◌, List, length, slice_get, ap, subst, ◌∙◌, arith}
use Rattle.graph_theory.specs.Graph.{Graph, size}
use Rattle.graph_rows.specs.Orders.{IsOrder}
use Rattle.encoding_theory.specs.Encoding.{encoding}
use Rattle.encoding_theory.specs.Places.{refused_start, edge_start, non_edge_start, less_start}
use Rattle.pb_encoding.specs.Numbers.{refused_numbers, edge_numbers, non_edge_numbers, block_count}
use Rattle.pb_encoding.proofs.Counts.{starts, all_forms, inside_of}
use Rattle.pb_encoding.proofs.Bounds.{few}
use Rattle.pb_encoding.proofs.line.line_at.Goals as goal

pub overflow_mul-block_forms : goal.overflow_mul-block_forms
overflow_mul-block_forms c =
    let u : c.from-targets.result ≡ size c.args.q.now.target = cc in
    let ps : size c.args.q.now.pattern ≤ 1024 = subst (λ (g : Graph). size g ≤ 1024) c.pattern.ensures.pattern c.pattern.ensures.few in
    let ts : size c.args.q.now.target ≤ 8192 = subst (λ (g : Graph). size g ≤ 8192) c.target.ensures.target c.target.ensures.few in
    let b = few c.args.q.now ps ts in
    rw (c.block_count_of.ensures, u) (omega arith)

pub returns-then-place-block_forms-clause-form : goal.returns-then-place-block_forms-clause-form
returns-then-place-block_forms-clause-form c =
    let w : c.from-vertex_forms.result ≡ size c.args.q.now.pattern = cc in
    let e : c.args.place ≡ 2 * size c.args.q.now.pattern + (c.args.place - 2 * c.from-vertex_forms.result) = omega arith in
    ap (slice_get (encoding c.args.q.now)) e ∙ c.block_line.ensures.form

pub returns-then-place-refusals-clause-form : goal.returns-then-place-refusals-clause-form
returns-then-place-refusals-clause-form c =
    let w : c.from-vertex_forms.result ≡ size c.args.q.now.pattern = cc in
    let u : c.from-targets.result ≡ size c.args.q.now.target = cc in
    let b : c.block_count_of.result * c.from-targets.result ≡ block_count c.args.q.now * size c.args.q.now.target = rw (c.block_count_of.ensures, u) in
    let s = starts c.args.q.now in
    let e : c.args.place ≡ refused_start c.args.q.now + (c.args.place - 2 * c.from-vertex_forms.result - c.block_count_of.result * c.from-targets.result) = omega arith in
    ap (slice_get (encoding c.args.q.now)) e ∙ c.refused_line.ensures.form

pub overflow_mul-edge_forms : goal.overflow_mul-edge_forms
overflow_mul-edge_forms c =
    let u : c.from-targets.result ≡ size c.args.q.now.target = cc in
    let ps : size c.args.q.now.pattern ≤ 1024 = subst (λ (g : Graph). size g ≤ 1024) c.pattern.ensures.pattern c.pattern.ensures.few in
    let ts : size c.args.q.now.target ≤ 8192 = subst (λ (g : Graph). size g ≤ 8192) c.target.ensures.target c.target.ensures.few in
    let b = few c.args.q.now ps ts in
    rw (u, c.requires.numbered.edges_are) (omega arith)

pub returns-then-place-edge_forms-clause-form : goal.returns-then-place-edge_forms-clause-form
returns-then-place-edge_forms-clause-form c =
    let w : c.from-vertex_forms.result ≡ size c.args.q.now.pattern = cc in
    let u : c.from-targets.result ≡ size c.args.q.now.target = cc in
    let b : c.block_count_of.result * c.from-targets.result ≡ block_count c.args.q.now * size c.args.q.now.target = rw (c.block_count_of.ensures, u) in
    let s = starts c.args.q.now in
    let r : length c.args.refused.now ≡ length (refused_numbers c.args.q.now) = ap length c.requires.numbered.refused_are in
    let e : c.args.place ≡ edge_start c.args.q.now + (c.args.place - 2 * c.from-vertex_forms.result - c.block_count_of.result * c.from-targets.result - length c.args.refused.now) = omega arith in
    ap (slice_get (encoding c.args.q.now)) e ∙ c.pair_line.ensures.edges c.requires.numbered.edges_are

pub overflow_mul-non_edge_forms : goal.overflow_mul-non_edge_forms
overflow_mul-non_edge_forms c =
    let u : c.from-targets.result ≡ size c.args.q.now.target = cc in
    let ps : size c.args.q.now.pattern ≤ 1024 = subst (λ (g : Graph). size g ≤ 1024) c.pattern.ensures.pattern c.pattern.ensures.few in
    let ts : size c.args.q.now.target ≤ 8192 = subst (λ (g : Graph). size g ≤ 8192) c.target.ensures.target c.target.ensures.few in
    let b = few c.args.q.now ps ts in
    rw (u, c.requires.numbered.non_edges_are) (omega arith)

pub returns-then-place-non_edge_forms-clause-form : goal.returns-then-place-non_edge_forms-clause-form
returns-then-place-non_edge_forms-clause-form c =
    let w : c.from-vertex_forms.result ≡ size c.args.q.now.pattern = cc in
    let u : c.from-targets.result ≡ size c.args.q.now.target = cc in
    let b : c.block_count_of.result * c.from-targets.result ≡ block_count c.args.q.now * size c.args.q.now.target = rw (c.block_count_of.ensures, u) in
    let s = starts c.args.q.now in
    let r : length c.args.refused.now ≡ length (refused_numbers c.args.q.now) = ap length c.requires.numbered.refused_are in
    let p : length c.args.edges.now * c.from-targets.result ≡ length (edge_numbers c.args.q.now) * size c.args.q.now.target = rw (u, c.requires.numbered.edges_are) in
    let e : c.args.place ≡ non_edge_start c.args.q.now + (c.args.place - 2 * c.from-vertex_forms.result - c.block_count_of.result * c.from-targets.result - length c.args.refused.now - length c.args.edges.now * c.from-targets.result) = omega arith in
    ap (slice_get (encoding c.args.q.now)) e ∙ c.pair_line-then-place-non_edge_forms.ensures.non_edges c.requires.numbered.non_edges_are

pub less_line-requires : goal.less_line-requires
less_line-requires c =
    let w : c.from-vertex_forms.result ≡ size c.args.q.now.pattern = cc in
    let u : c.from-targets.result ≡ size c.args.q.now.target = cc in
    let b : c.block_count_of.result * c.from-targets.result ≡ block_count c.args.q.now * size c.args.q.now.target = rw (c.block_count_of.ensures, u) in
    let s = starts c.args.q.now in
    let a = all_forms c.args.q.now (inside_of c.args.q.now
    (subst (λ (xs : List (ℕ × ℕ)). IsOrder (size c.args.q.now.pattern) xs) c.less-less.ensures.pairs c.less-less.ensures.order)) in
    let r : length c.args.refused.now ≡ length (refused_numbers c.args.q.now) = ap length c.requires.numbered.refused_are in
    let p : length c.args.edges.now * c.from-targets.result ≡ length (edge_numbers c.args.q.now) * size c.args.q.now.target = rw (u, c.requires.numbered.edges_are) in
    let n : length c.args.non_edges.now * c.from-targets.result ≡ length (non_edge_numbers c.args.q.now) * size c.args.q.now.target = rw (u, c.requires.numbered.non_edges_are) in
    omega arith

pub returns-clause-form : goal.returns-clause-form
returns-clause-form c =
    let w : c.from-vertex_forms.result ≡ size c.args.q.now.pattern = cc in
    let u : c.from-targets.result ≡ size c.args.q.now.target = cc in
    let b : c.block_count_of.result * c.from-targets.result ≡ block_count c.args.q.now * size c.args.q.now.target = rw (c.block_count_of.ensures, u) in
    let s = starts c.args.q.now in
    let r : length c.args.refused.now ≡ length (refused_numbers c.args.q.now) = ap length c.requires.numbered.refused_are in
    let p : length c.args.edges.now * c.from-targets.result ≡ length (edge_numbers c.args.q.now) * size c.args.q.now.target = rw (u, c.requires.numbered.edges_are) in
    let n : length c.args.non_edges.now * c.from-targets.result ≡ length (non_edge_numbers c.args.q.now) * size c.args.q.now.target = rw (u, c.requires.numbered.non_edges_are) in
    let e : c.args.place ≡ less_start c.args.q.now + (c.args.place - 2 * c.from-vertex_forms.result - c.block_count_of.result * c.from-targets.result - length c.args.refused.now - length c.args.edges.now * c.from-targets.result - length c.args.non_edges.now * c.from-targets.result) = omega arith in
    ap (slice_get (encoding c.args.q.now)) e ∙ c.less_line.ensures.form
