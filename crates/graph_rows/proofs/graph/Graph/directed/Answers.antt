use Rattle.std.proofs.Common.{◌≡◌, ℕ, ◌*◌, ◌≤◌, List, length, refl, sym, ap, subst, ◌∙◌}
use Rattle.std.proofs.lemmas.List.{with_items_is}
use Rattle.std.proofs.lemmas.Result.{IfOk-from_err}
use Rattle.lad_reader.specs.Parts.{AllBelow}
use Rattle.bit_rows.specs.BitRows.{has, words_for}
use Rattle.bit_rows.proofs.Writing.{has-zeros}
use Rattle.graph_rows.specs.Held.{marked}
use Rattle.graph_rows.proofs.Places.{rows_fit}
use Rattle.graph_rows.proofs.Marking.{unmarked_made}
use Rattle.graph_rows.proofs.Parts.{made-directed, turned_made}
use Rattle.graph_rows.proofs.HeldGraph.{marks_kept, turned_kept, loops_kept, own_kept, beside_kept, listed_kept, no_label}
use Rattle.graph_rows.proofs.graph.Graph.directed.Goals as goal

pub mark_all_out-requires : goal.mark_all_out-requires
mark_all_out-requires c =
    let sizes : length c.args.parts.now.labels ≡ c.len-size.result = sym (c.len-size.ensures ∙ c.in_ok-labels.labels.ok.0 ∙ ap length (c.in_ok-labels.ensures.items ∙ c.as_slice.ensures)) in
    unmarked_made c.len-size.result _ _ _ c.in_ok-words.words.items c.in_ok-degrees.degrees.items c.args.parts.now.neighbours (subst (λ (n : ℕ). n ≤ 8192) sizes c.requires.few) c.words_for-width.ensures
    c.deref_mut.ensures.value (c.in_ok-words.ensures.items_if_clones_equal (λ y e. e))
    c.deref_mut-2.ensures.value (c.in_ok-degrees.ensures.items_if_clones_equal (λ y e. e))
    (sym c.requires.lengths ∙ sizes) (subst (λ (n : ℕ). AllBelow n c.args.parts.now.neighbours) sizes c.requires.below)

pub mark_all_in-requires : goal.mark_all_in-requires
mark_all_in-requires c =
    let sizes : length c.args.parts.now.labels ≡ c.len-size.result = sym (c.len-size.ensures ∙ c.in_ok-labels.labels.ok.0 ∙ ap length (c.in_ok-labels.ensures.items ∙ c.as_slice.ensures)) in
    unmarked_made c.len-size.result _ _ _ c.in_ok-back.back.items c.in_ok-in_degrees.in_degrees.items c.args.parts.now.neighbours (subst (λ (n : ℕ). n ≤ 8192) sizes c.requires.few) c.words_for-width.ensures
    c.deref_mut-3.ensures.value (c.in_ok-back.ensures.items_if_clones_equal (λ y e. e))
    c.deref_mut-4.ensures.value (c.in_ok-in_degrees.ensures.items_if_clones_equal (λ y e. e))
    (sym c.requires.lengths ∙ sizes) (subst (λ (n : ℕ). AllBelow n c.args.parts.now.neighbours) sizes c.requires.below)

pub gather_loops-requires-clause-width_is : goal.gather_loops-requires-clause-width_is
gather_loops-requires-clause-width_is c = c.words_for-width.ensures

pub gather_loops-requires-clause-few : goal.gather_loops-requires-clause-few
gather_loops-requires-clause-few c =
    let sizes : length c.args.parts.now.labels ≡ c.len-size.result = sym (c.len-size.ensures ∙ c.in_ok-labels.labels.ok.0 ∙ ap length (c.in_ok-labels.ensures.items ∙ c.as_slice.ensures)) in
    subst (λ (n : ℕ). n ≤ 8192) sizes c.requires.few

pub gather_loops-requires-clause-words_are : goal.gather_loops-requires-clause-words_are
gather_loops-requires-clause-words_are c =
    ap length (c.deref.ensures.value ∙ with_items_is c.in_ok-words.words c.mark_all_out.new.words (c.mark_all_out.auto.words ∙ ap length c.deref_mut.ensures.value ∙ sym c.in_ok-words.words.ok.0)) ∙ c.mark_all_out.auto.words ∙ ap length c.deref_mut.ensures.value
    ∙ sym c.in_ok-words.words.ok.0 ∙ c.in_ok-words.ensures.len

pub gather_loops-requires-clause-long : goal.gather_loops-requires-clause-long
gather_loops-requires-clause-long c = ap length c.deref_mut-5.ensures.value ∙ sym c.in_ok-loops.loops.ok.0 ∙ c.in_ok-loops.ensures.len

pub gather_loops-requires-clause-empty : goal.gather_loops-requires-clause-empty
gather_loops-requires-clause-empty c = λ v.
    ap (λ (ws : List ℕ). has ws v) (c.deref_mut-5.ensures.value ∙ c.in_ok-loops.ensures.items_if_clones_equal (λ y e. e)) ∙ has-zeros _ v

pub overflow_mul-size : goal.overflow_mul-size
overflow_mul-size c =
    let sizes : length c.args.parts.now.labels ≡ c.len-size.result = sym (c.len-size.ensures ∙ c.in_ok-labels.labels.ok.0 ∙ ap length (c.in_ok-labels.ensures.items ∙ c.as_slice.ensures)) in
    rows_fit c.len-size.result c.words_for-width.result (subst (λ (n : ℕ). n ≤ 8192) sizes c.requires.few) c.words_for-width.ensures

pub overflow_mul-size-2 : goal.overflow_mul-size-2
overflow_mul-size-2 c =
    let sizes : length c.args.parts.now.labels ≡ c.len-size.result = sym (c.len-size.ensures ∙ c.in_ok-labels.labels.ok.0 ∙ ap length (c.in_ok-labels.ensures.items ∙ c.as_slice.ensures)) in
    rows_fit c.len-size.result c.words_for-width.result (subst (λ (n : ℕ). n ≤ 8192) sizes c.requires.few) c.words_for-width.ensures

pub labels_beside-requires-clause-few : goal.labels_beside-requires-clause-few
labels_beside-requires-clause-few c = subst (λ (n : ℕ). n ≤ 8192) c.requires.lengths c.requires.few

pub labels_beside-requires-clause-to : goal.labels_beside-requires-clause-to
labels_beside-requires-clause-to c = subst (λ (n : ℕ). AllBelow n c.args.parts.now.neighbours) c.requires.lengths c.requires.below

pub labels_beside-requires-clause-width_is : goal.labels_beside-requires-clause-width_is
labels_beside-requires-clause-width_is c =
    let sizes : length c.args.parts.now.labels ≡ c.len-size.result = sym (c.len-size.ensures ∙ c.in_ok-labels.labels.ok.0 ∙ ap length (c.in_ok-labels.ensures.items ∙ c.as_slice.ensures)) in
    c.words_for-width.ensures ∙ ap words_for (sym sizes ∙ c.requires.lengths)

pub labels_beside-requires-clause-words_are : goal.labels_beside-requires-clause-words_are
labels_beside-requires-clause-words_are c =
    let sizes : length c.args.parts.now.labels ≡ c.len-size.result = sym (c.len-size.ensures ∙ c.in_ok-labels.labels.ok.0 ∙ ap length (c.in_ok-labels.ensures.items ∙ c.as_slice.ensures)) in
    ap length (c.deref-2.ensures.value ∙ with_items_is c.in_ok-words.words c.mark_all_out.new.words (c.mark_all_out.auto.words ∙ ap length c.deref_mut.ensures.value ∙ sym c.in_ok-words.words.ok.0)) ∙ c.mark_all_out.auto.words ∙ ap length c.deref_mut.ensures.value
    ∙ sym c.in_ok-words.words.ok.0 ∙ c.in_ok-words.ensures.len ∙ ap (λ (n : ℕ). n * c.words_for-width.result) (sym sizes ∙ c.requires.lengths)

pub labels_beside-requires-clause-said : goal.labels_beside-requires-clause-said
labels_beside-requires-clause-said c = λ x y x_in y_in.
    ap (λ (ws : List ℕ). marked ws c.words_for-width.result x y) (c.deref-2.ensures.value ∙ with_items_is c.in_ok-words.words c.mark_all_out.new.words (c.mark_all_out.auto.words ∙ ap length c.deref_mut.ensures.value ∙ sym c.in_ok-words.words.ok.0))
    ∙ c.mark_all_out.ensures.said x y x_in y_in

pub unless_mutual-back-requires : goal.unless_mutual-back-requires
unless_mutual-back-requires c =
    let words_are = with_items_is c.in_ok-words.words c.mark_all_out.new.words (c.mark_all_out.auto.words ∙ ap length c.deref_mut.ensures.value ∙ sym c.in_ok-words.words.ok.0) in
    let back_are = with_items_is c.in_ok-back.back c.mark_all_in.new.words (c.mark_all_in.auto.words ∙ ap length c.deref_mut-3.ensures.value ∙ sym c.in_ok-back.back.ok.0) in
    let in_degrees_are = with_items_is c.in_ok-in_degrees.in_degrees c.mark_all_in.new.degrees (c.mark_all_in.auto.degrees ∙ ap length c.deref_mut-4.ensures.value ∙ sym c.in_ok-in_degrees.in_degrees.ok.0) in
    turned_kept _ _ _ _ _ _ _ _ _ (turned_made _ _ _ _ _ _ c.mark_all_in.ensures.marks c.mark_all_out.ensures.said c.mark_all_in.ensures.said) (ap length in_degrees_are ∙ c.mark_all_in.auto.degrees)
    (c.deref-3.ensures.value ∙ words_are) back_are in_degrees_are

pub returns-in_err-labels : goal.returns-in_err-labels
returns-in_err-labels c = record { graph = λ apart. IfOk-from_err _ _ c.from_residual.ensures.0 }

pub returns-in_err-words : goal.returns-in_err-words
returns-in_err-words c = record { graph = λ apart. IfOk-from_err _ _ c.from_residual-in_err-words.ensures.0 }

pub returns-in_err-degrees : goal.returns-in_err-degrees
returns-in_err-degrees c = record { graph = λ apart. IfOk-from_err _ _ c.from_residual-in_err-degrees.ensures.0 }

pub returns-in_err-back : goal.returns-in_err-back
returns-in_err-back c = record { graph = λ apart. IfOk-from_err _ _ c.from_residual-in_err-back.ensures.0 }

pub returns-in_err-in_degrees : goal.returns-in_err-in_degrees
returns-in_err-in_degrees c = record { graph = λ apart. IfOk-from_err _ _ c.from_residual-in_err-in_degrees.ensures.0 }

pub returns-in_err-loops : goal.returns-in_err-loops
returns-in_err-loops c = record { graph = λ apart. IfOk-from_err _ _ c.from_residual-in_err-loops.ensures.0 }

pub returns-in_err-edge_labels : goal.returns-in_err-edge_labels
returns-in_err-edge_labels c = record { graph = λ apart. IfOk-from_err _ _ c.from_residual-in_err-edge_labels.ensures.0 }

pub returns : goal.returns
returns c =
    let sizes : length c.args.parts.now.labels ≡ c.len-size.result = sym (c.len-size.ensures ∙ c.in_ok-labels.labels.ok.0 ∙ ap length (c.in_ok-labels.ensures.items ∙ c.as_slice.ensures)) in
    record {
      graph = λ apart.
          made-directed c.args.parts.now.kind c.in_ok-labels.labels.items c.args.parts.now.labels c.mark_all_out.new.words _ c.mark_all_out.new.degrees _ (length c.deref_mut-2.result.now)
          (c.words_for-width.result) c.args.parts.now.neighbours c.args.parts.now.edge_labels apart (c.in_ok-labels.ensures.items ∙ c.as_slice.ensures)
          (with_items_is c.in_ok-words.words c.mark_all_out.new.words (c.mark_all_out.auto.words ∙ ap length c.deref_mut.ensures.value ∙ sym c.in_ok-words.words.ok.0)) c.requires.lengths
          (ap length c.deref_mut-2.ensures.value ∙ sym c.in_ok-degrees.degrees.ok.0 ∙ c.in_ok-degrees.ensures.len ∙ sym sizes) c.mark_all_out.ensures.marks c.mark_all_out.ensures.said
          (λ plain x y. no_label c.in_ok-edge_labels.edge_labels.starts.items c.in_ok-edge_labels.edge_labels.labels.items _ c.words_for-width.result x y (ap length (c.in_ok-edge_labels.ensures.no_labels plain)))
          (λ labelled. (listed_kept _ _ _ _ _ _ _ _ _ (c.in_ok-edge_labels.ensures.listed labelled) refl (sym c.deref-2.ensures.value)).each);
    }

pub invariant_of-result : goal.invariant_of-result
invariant_of-result c =
    let size_is : length c.in_ok-labels.labels.items ≡ c.len-size.result = sym (c.len-size.ensures ∙ c.in_ok-labels.labels.ok.0) in
    let words_are = with_items_is c.in_ok-words.words c.mark_all_out.new.words (c.mark_all_out.auto.words ∙ ap length c.deref_mut.ensures.value ∙ sym c.in_ok-words.words.ok.0) in
    let degrees_are = with_items_is c.in_ok-degrees.degrees c.mark_all_out.new.degrees (c.mark_all_out.auto.degrees ∙ ap length c.deref_mut-2.ensures.value ∙ sym c.in_ok-degrees.degrees.ok.0) in
    let in_degrees_are = with_items_is c.in_ok-in_degrees.in_degrees c.mark_all_in.new.degrees (c.mark_all_in.auto.degrees ∙ ap length c.deref_mut-4.ensures.value ∙ sym c.in_ok-in_degrees.in_degrees.ok.0) in
    let out_size_is : length c.in_ok-labels.labels.items ≡ length c.deref_mut-2.result.now = size_is ∙ sym (ap length c.deref_mut-2.ensures.value ∙ sym c.in_ok-degrees.degrees.ok.0 ∙ c.in_ok-degrees.ensures.len) in
    let in_size_is : length c.in_ok-labels.labels.items ≡ length c.deref_mut-4.result.now =
    size_is ∙ sym (ap length c.deref_mut-4.ensures.value ∙ sym c.in_ok-in_degrees.in_degrees.ok.0 ∙ c.in_ok-in_degrees.ensures.len) in
    let same : length c.in_ok-labels.labels.items ≡ length c.args.parts.now.neighbours = ap length (c.in_ok-labels.ensures.items ∙ c.as_slice.ensures) ∙ c.requires.lengths in (
      marks_kept _ _ _ _ _ _ _ c.mark_all_out.ensures.marks out_size_is words_are degrees_are,
      own_kept _ _ _ _ _ _ _ c.unless_mutual-back.ensures (in_size_is ∙ sym (ap length in_degrees_are ∙ c.mark_all_in.auto.degrees)) (sym c.deref-3.ensures.value),
      loops_kept _ _ _ _ _ _ _ c.gather_loops.ensures size_is (sym c.deref.ensures.value) (with_items_is c.in_ok-loops.loops c.gather_loops.new.loops (c.gather_loops.auto.loops ∙ ap length c.deref_mut-5.ensures.value ∙ sym c.in_ok-loops.loops.ok.0)),
      beside_kept _ _ _ _ _ _ _ c.in_ok-edge_labels.ensures.beside same (sym c.deref-2.ensures.value),
    )
