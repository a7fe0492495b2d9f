use Rattle.std.proofs.Common.{◌≡◌, ℕ, ◌+◌, ◌*◌, ◌<◌, ◌≤◌, length, ap, ◌∙◌, arith}
use Rattle.std.proofs.lemmas.Option.{slice_get_within}
use Rattle.graph_theory.specs.Graph.{size}
use Rattle.encoding_theory.specs.Pairs.{is_edge_pair}
use Rattle.encoding_theory.specs.Encoding.{pair_form}
use Rattle.encoding_theory.specs.Places.{edge_place}
use Rattle.encoding_theory.proofs.PlaceProofs.{place_laws}
use Rattle.pb_encoding.specs.Numbers.{by_number, edge_numbers}
use Rattle.pb_encoding.proofs.LineNumbers.{rises, pair_contained, edge_line, form_at, kept, kept_few}
use Rattle.pb_encoding.proofs.encoding.Encoding.edge.Goals as goal

pub place_in-before-requires-clause-rise : goal.place_in-before-requires-clause-rise
place_in-before-requires-clause-rise c =
    let k = kept _ _ _ _ _ _ _ _ c.self.view_is c.self.invariant in
    rises (by_number (is_edge_pair c.args.self.now) (size c.args.self.now.pattern)) (size c.args.self.now.pattern * size c.args.self.now.pattern)
    c.deref.result.now (c.deref.ensures.value ∙ k.numbered.edges_are)

pub place_in-before-requires-clause-there : goal.place_in-before-requires-clause-there
place_in-before-requires-clause-there c =
    let k = kept _ _ _ _ _ _ _ _ c.self.view_is c.self.invariant in
    pair_contained (is_edge_pair c.args.self.now) c.args.self.now c.deref.result.now c.self.inside.vertices c.args.p c.args.r _
    k.vertices_are (c.deref.ensures.value ∙ k.numbered.edges_are) c.requires.p_in c.requires.r_in c.requires.exists
    (rw (c.from.ensures, c.from-2.ensures))

pub line_number-requires-clause-pairs : goal.line_number-requires-clause-pairs
line_number-requires-clause-pairs c =
    let k = kept _ _ _ _ _ _ _ _ c.self.view_is c.self.invariant in
    let e : length c.deref.result.now ≡ length (edge_numbers c.args.self.now) = ap length (c.deref.ensures.value ∙ k.numbered.edges_are) in
    let b : length (edge_numbers c.args.self.now) ≤ 1048576 = (kept_few _ _ _ _ _ _ _ k).edges in
    let w : c.place_in-before.result < length c.deref.result.now = slice_get_within _ _ _ c.place_in-before.ensures in
    omega arith

pub returns-clause-line : goal.returns-clause-line
returns-clause-line c =
    let k = kept _ _ _ _ _ _ _ _ c.self.view_is c.self.invariant in
    c.line_number.ensures
    ∙ ap (λ (start : ℕ). start + (c.place_in-before.result * c.self.inside.targets + c.args.t) + 1) c.edge_start.ensures.start
    ∙ edge_line c.args.self.now c.deref.result.now c.self.inside.vertices c.self.inside.targets c.args.p c.args.r c.args.t c.place_in-before.result _
    k.vertices_are k.targets_are (c.deref.ensures.value ∙ k.numbered.edges_are) c.requires.r_in (rw (c.from.ensures, c.from-2.ensures)) c.place_in-before.ensures

pub returns-clause-form : goal.returns-clause-form
returns-clause-form c =
    let k = kept _ _ _ _ _ _ _ _ c.self.view_is c.self.invariant in
    let line : c.line_number.result ≡ edge_place c.args.self.now c.args.p c.args.r c.args.t + 1 =
    c.line_number.ensures
    ∙ ap (λ (start : ℕ). start + (c.place_in-before.result * c.self.inside.targets + c.args.t) + 1) c.edge_start.ensures.start
    ∙ edge_line c.args.self.now c.deref.result.now c.self.inside.vertices c.self.inside.targets c.args.p c.args.r c.args.t c.place_in-before.result _
    k.vertices_are k.targets_are (c.deref.ensures.value ∙ k.numbered.edges_are) c.requires.r_in (rw (c.from.ensures, c.from-2.ensures)) c.place_in-before.ensures in
    form_at c.args.self.now (edge_place c.args.self.now c.args.p c.args.r c.args.t) c.line_number.result (pair_form c.args.self.now c.args.p c.args.r c.args.t) line
    ((place_laws c.args.self.now).edge c.args.p c.args.r c.args.t c.requires.p_in c.requires.r_in c.requires.t_in c.requires.exists)
