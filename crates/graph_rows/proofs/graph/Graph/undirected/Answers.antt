use Rattle.std.proofs.Common.{◌≡◌, ℕ, ◌≤◌, List, length, sym, ap, subst, ◌∙◌}
use Rattle.std.proofs.lemmas.List.{with_items_is}
use Rattle.std.proofs.lemmas.Result.{IfOk-from_err}
use Rattle.lad_reader.specs.Parts.{AllBelow}
use Rattle.bit_rows.specs.BitRows.{has}
use Rattle.bit_rows.proofs.Writing.{has-zeros}
use Rattle.graph_rows.proofs.Places.{rows_fit}
use Rattle.graph_rows.proofs.Marking.{unmarked_made}
use Rattle.graph_rows.proofs.Parts.{graph-made, mutual_made, plain_made}
use Rattle.graph_rows.proofs.HeldGraph.{marks_kept, mutual_kept, loops_kept, back_own, no_label, none_beside}
use Rattle.graph_rows.proofs.graph.Graph.undirected.Goals as goal

pub overflow_mul-size : goal.overflow_mul-size
overflow_mul-size c =
    let sizes : length c.args.parts.now.labels ≡ c.len-size.result = sym (c.len-size.ensures ∙ c.in_ok-labels.labels.ok.0 ∙ ap length (c.in_ok-labels.ensures.items ∙ c.as_slice.ensures)) in
    rows_fit c.len-size.result c.words_for-width.result (subst (λ (n : ℕ). n ≤ 8192) sizes c.requires.few) c.words_for-width.ensures

pub gather_loops-requires-clause-long : goal.gather_loops-requires-clause-long
gather_loops-requires-clause-long c = ap length c.deref_mut-3.ensures.value ∙ sym c.in_ok-loops.loops.ok.0 ∙ c.in_ok-loops.ensures.len

pub mark_all-requires : goal.mark_all-requires
mark_all-requires c =
    let sizes : length c.args.parts.now.labels ≡ c.len-size.result = sym (c.len-size.ensures ∙ c.in_ok-labels.labels.ok.0 ∙ ap length (c.in_ok-labels.ensures.items ∙ c.as_slice.ensures)) in
    unmarked_made c.len-size.result _ _ _ c.in_ok-words.words.items c.in_ok-degrees.degrees.items c.args.parts.now.neighbours (subst (λ (n : ℕ). n ≤ 8192) sizes c.requires.few) c.words_for-width.ensures
    c.deref_mut.ensures.value (c.in_ok-words.ensures.items_if_clones_equal (λ y e. e))
    c.deref_mut-2.ensures.value (c.in_ok-degrees.ensures.items_if_clones_equal (λ y e. e))
    (sym c.requires.lengths ∙ sizes) (subst (λ (n : ℕ). AllBelow n c.args.parts.now.neighbours) sizes c.requires.below)

pub gather_loops-requires-clause-words_are : goal.gather_loops-requires-clause-words_are
gather_loops-requires-clause-words_are c =
    ap length (c.deref.ensures.value ∙ with_items_is c.in_ok-words.words c.mark_all.new.words (c.mark_all.auto.words ∙ ap length c.deref_mut.ensures.value ∙ sym c.in_ok-words.words.ok.0)) ∙ c.mark_all.auto.words ∙ ap length c.deref_mut.ensures.value
    ∙ sym c.in_ok-words.words.ok.0 ∙ c.in_ok-words.ensures.len

pub gather_loops-requires-clause-few : goal.gather_loops-requires-clause-few
gather_loops-requires-clause-few c =
    let sizes : length c.args.parts.now.labels ≡ c.len-size.result = sym (c.len-size.ensures ∙ c.in_ok-labels.labels.ok.0 ∙ ap length (c.in_ok-labels.ensures.items ∙ c.as_slice.ensures)) in
    subst (λ (n : ℕ). n ≤ 8192) sizes c.requires.few

pub gather_loops-requires-clause-empty : goal.gather_loops-requires-clause-empty
gather_loops-requires-clause-empty c = λ v.
    ap (λ (ws : List ℕ). has ws v) (c.deref_mut-3.ensures.value ∙ c.in_ok-loops.ensures.items_if_clones_equal (λ y e. e)) ∙ has-zeros _ v

pub gather_loops-requires-clause-width_is : goal.gather_loops-requires-clause-width_is
gather_loops-requires-clause-width_is c = c.words_for-width.ensures

pub returns-in_err-labels-clause-graph : goal.returns-in_err-labels-clause-graph
returns-in_err-labels-clause-graph c = IfOk-from_err _ _ c.from_residual.ensures.0

pub returns-in_err-labels-clause-plain : goal.returns-in_err-labels-clause-plain
returns-in_err-labels-clause-plain c = IfOk-from_err _ _ c.from_residual.ensures.0

pub returns-in_err-words-clause-graph : goal.returns-in_err-words-clause-graph
returns-in_err-words-clause-graph c = IfOk-from_err _ _ c.from_residual-in_err-words.ensures.0

pub returns-in_err-words-clause-plain : goal.returns-in_err-words-clause-plain
returns-in_err-words-clause-plain c = IfOk-from_err _ _ c.from_residual-in_err-words.ensures.0

pub returns-in_err-degrees-clause-graph : goal.returns-in_err-degrees-clause-graph
returns-in_err-degrees-clause-graph c = IfOk-from_err _ _ c.from_residual-in_err-degrees.ensures.0

pub returns-in_err-degrees-clause-plain : goal.returns-in_err-degrees-clause-plain
returns-in_err-degrees-clause-plain c = IfOk-from_err _ _ c.from_residual-in_err-degrees.ensures.0

pub returns-in_err-loops-clause-graph : goal.returns-in_err-loops-clause-graph
returns-in_err-loops-clause-graph c = IfOk-from_err _ _ c.from_residual-in_err-loops.ensures.0

pub returns-in_err-loops-clause-plain : goal.returns-in_err-loops-clause-plain
returns-in_err-loops-clause-plain c = IfOk-from_err _ _ c.from_residual-in_err-loops.ensures.0

pub returns-clause-graph : goal.returns-clause-graph
returns-clause-graph c =
    let sizes : length c.args.parts.now.labels ≡ c.len-size.result = sym (c.len-size.ensures ∙ c.in_ok-labels.labels.ok.0 ∙ ap length (c.in_ok-labels.ensures.items ∙ c.as_slice.ensures)) in
    graph-made c.in_ok-labels.labels.items c.args.parts.now.labels c.mark_all.new.words _ c.mark_all.new.degrees _ (length c.deref_mut-2.result.now) (c.words_for-width.result)
    c.args.parts.now.neighbours (c.in_ok-labels.ensures.items ∙ c.as_slice.ensures) (with_items_is c.in_ok-words.words c.mark_all.new.words (c.mark_all.auto.words ∙ ap length c.deref_mut.ensures.value ∙ sym c.in_ok-words.words.ok.0)) c.requires.lengths
    (ap length c.deref_mut-2.ensures.value ∙ sym c.in_ok-degrees.degrees.ok.0 ∙ c.in_ok-degrees.ensures.len ∙ sym sizes) c.mark_all.ensures.marks c.mark_all.ensures.said
    (λ x y. no_label c.none.result.starts.items c.none.result.labels.items _ c.words_for-width.result x y (ap length c.none.ensures.labels))

pub returns-clause-plain : goal.returns-clause-plain
returns-clause-plain c = plain_made c.args.parts.now.labels c.args.parts.now.neighbours _ c.requires.lengths (returns-clause-graph c)

pub invariant_of-result : goal.invariant_of-result
invariant_of-result c =
    let size_is : length c.in_ok-labels.labels.items ≡ c.len-size.result = sym (c.len-size.ensures ∙ c.in_ok-labels.labels.ok.0) in
    let words_are = with_items_is c.in_ok-words.words c.mark_all.new.words (c.mark_all.auto.words ∙ ap length c.deref_mut.ensures.value ∙ sym c.in_ok-words.words.ok.0) in
    let degrees_are = with_items_is c.in_ok-degrees.degrees c.mark_all.new.degrees (c.mark_all.auto.degrees ∙ ap length c.deref_mut-2.ensures.value ∙ sym c.in_ok-degrees.degrees.ok.0) in
    let long : length c.in_ok-labels.labels.items ≡ length c.deref_mut-2.result.now = size_is ∙ sym (ap length c.deref_mut-2.ensures.value ∙ sym c.in_ok-degrees.degrees.ok.0 ∙ c.in_ok-degrees.ensures.len) in (
      marks_kept _ _ _ _ _ _ _ c.mark_all.ensures.marks long words_are degrees_are,
      back_own _ _ _ _ _ c.new.ensures.items (mutual_kept _ _ _ _ _ (mutual_made _ _ _ _ _ c.mark_all.ensures.marks c.mark_all.ensures.said) long words_are),
      loops_kept _ _ _ _ _ _ _ c.gather_loops.ensures size_is (sym c.deref.ensures.value) (with_items_is c.in_ok-loops.loops c.gather_loops.new.loops (c.gather_loops.auto.loops ∙ ap length c.deref_mut-3.ensures.value ∙ sym c.in_ok-loops.loops.ok.0)),
      none_beside _ _ _ _ _ c.none.ensures.starts c.none.ensures.labels,
    )
