use Rattle.std.proofs.Common.{◌≡◌, ℕ, ◌+◌, ◌*◌, ◌-◌, ◌<◌, ◌≤◌, suc, List, [], length, ap, sym, ◌∙◌, arith, rules, subst, refl}
use native.Mathlib.Nat.{mul-le-mul_right, suc-mul}
use mir.Syntax.{w32, w64}
use mir.Val.{Fits}
use Rattle.std.proofs.lemmas.List.{with_items_is}
use Rattle.std.proofs.lemmas.Result.{IfOk-from_err}
use Rattle.std.proofs.lemmas.Option.{get_or_from_slice_get}
use Rattle.bit_rows.specs.BitRows.{words_for}
use Rattle.lad_reader.specs.Parts.{AreBelow}
use Rattle.graph_rows.proofs.Places.{row_narrow}
use Rattle.graph_rows.proofs.Parts.{all_below_at}
use Rattle.graph_rows.proofs.LabelsBeside.{AreGathered, gathered_none, gathered_beside, gathered_next, row_long, row_marks, mark_listed, members_within}
use Rattle.graph_rows.specs.Held.{AreFirst}
use Rattle.graph_rows.proofs.edge_labels.gather.Goals as goal

-- where the row of a vertex ends
row_end : (n width a : ℕ) → a < n → a * width + width ≤ n * width
row_end n width a a_in =
    let m = mul-le-mul_right {m = suc a} {n = n} width a_in in
    omega (arith, m, suc-mul a width)

-- the words before its end are few
end_few : (n width a : ℕ) → n ≤ 8192 → width ≡ words_for n → a < n → a * width + width ≤ 1048576
end_few n width a few is a_in =
    let m = mul-le-mul_right {m = n} {n = 8192} width few in
    omega (arith, m, row_end n width a a_in, row_narrow n width few is)

start_fits : (n width a : ℕ) → n ≤ 8192 → width ≡ words_for n → a < n → Fits w64 (a * width)
start_fits n width a few is a_in = omega (arith, end_few n width a few is a_in)

end_fits : (n width a : ℕ) → n ≤ 8192 → width ≡ words_for n → a < n → Fits w64 (a * width + width)
end_fits n width a few is a_in = omega (arith, end_few n width a few is a_in)

place_fits : (n width a : ℕ) → n ≤ 8192 → width ≡ words_for n → a < n → Fits w64 (a * width * 8)
place_fits n width a few is a_in = omega (arith, end_few n width a few is a_in)

-- and the labels that were gathered
labels_fit : (n width a long : ℕ) → n ≤ 8192 → width ≡ words_for n → a < n → long ≤ a * (64 * width) → Fits w32 long
labels_fit n width a long few is a_in within =
    let m = mul-le-mul_right {m = a} {n = 8192} (64 * width) (omega arith) in
    omega (arith, m, row_narrow n width few is)

-- a row is as long as the width says
row_short : (n width row : ℕ) → n ≤ 8192 → width ≡ words_for n → row ≡ width → row ≤ 128
row_short n width row few is long = omega (arith, row_narrow n width few is)

start_before : (x y : ℕ) → x ≤ x + y
start_before x y = omega arith

from_start : (x y : ℕ) → x + y - x ≡ y
from_start x y = omega arith

-- the loop has gone to the last vertex
at_end : (a size n : ℕ) → a ≤ size → size ≤ a → size ≡ n → a ≡ n
at_end a size n below past is = omega arith

pub put_listed-requires : goal.put_listed-requires
put_listed-requires c =
    let long : length c.deref_mut.result.now ≡ length c.args.parts.now.neighbours = ap length c.deref_mut.ensures.value ∙ c.loop-a.invariant.long in
    record {
      to = subst (λ (n : ℕ). AreBelow n c.of.result.now) (sym long) (all_below_at _ c.args.parts.now.neighbours c.loop-a.a _ c.requires.to c.of.ensures);
    }

pub add_members-requires-clause-within : goal.add_members-requires-clause-within
add_members-requires-clause-within c =
    let found_is = with_items_is c.loop-a.found c.put_listed.new.found (omega (arith, c.put_listed.ensures.long, ap length c.deref_mut.ensures.value, c.loop-a.found.ok)) in
    let long : length c.deref.result.now ≡ length c.args.parts.now.neighbours =
    ap length c.deref.ensures.value ∙ ap length found_is ∙ c.put_listed.ensures.long ∙ ap length c.deref_mut.ensures.value ∙ c.loop-a.invariant.long in
    λ v there. subst (λ (n : ℕ). v < n) (sym long)
    (members_within (length c.args.parts.now.neighbours) c.args.width c.loop-a.a (c.loop-a.a * c.args.width) (c.loop-a.a * c.args.width + c.args.width - c.loop-a.a * c.args.width) c.args.words.now
    c.of.result.now c.args.parts.now.neighbours c.requires.width_is (omega (arith, c.loop-a-test.true, c.len-size.ensures))
    (get_or_from_slice_get c.args.parts.now.neighbours c.loop-a.a c.of.result.now [] c.of.ensures) (all_below_at _ c.args.parts.now.neighbours c.loop-a.a _ c.requires.to c.of.ensures)
    c.requires.said refl (omega arith) v there)

pub loop-a-preserved : goal.loop-a-preserved
loop-a-preserved c =
    let found_is = with_items_is c.loop-a.found c.put_listed.new.found (omega (arith, c.put_listed.ensures.long, ap length c.deref_mut.ensures.value, c.loop-a.found.ok)) in
    let a_in : c.loop-a.a < length c.args.parts.now.neighbours = omega (arith, c.loop-a-test.true, c.len-size.ensures) in
    let listed_is = get_or_from_slice_get c.args.parts.now.neighbours c.loop-a.a c.of.result.now [] c.of.ensures in
    record {
      long = ap length found_is ∙ c.put_listed.ensures.long ∙ ap length c.deref_mut.ensures.value ∙ c.loop-a.invariant.long;
      gathered = gathered_next c.loop-a.a c.args.width c.args.words.now c.loop-a.starts.items c.loop-a.labels.items _ c.deref.result.now c.of.result.now c.of-in-loop-a.result.now
          c.push.new.self.items c.add_members.new.labels.items c.args.parts.now.neighbours c.args.parts.now.edge_labels c.len.result c.loop-a.invariant.gathered
          (row_long (length c.args.parts.now.neighbours) c.args.width c.loop-a.a (c.loop-a.a * c.args.width) (c.loop-a.a * c.args.width + c.args.width - c.loop-a.a * c.args.width) c.args.words.now c.requires.words_are a_in refl (omega arith))
          (row_marks c.args.words.now c.args.width c.loop-a.a (c.loop-a.a * c.args.width) (c.loop-a.a * c.args.width + c.args.width - c.loop-a.a * c.args.width) refl (omega arith))
          (mark_listed (length c.args.parts.now.neighbours) c.args.width c.loop-a.a c.args.words.now c.of.result.now c.args.parts.now.neighbours c.requires.width_is a_in listed_is c.requires.said)
          listed_is c.of-in-loop-a.ensures
          (subst (λ (fs : List ℕ). AreFirst c.of.result.now c.of-in-loop-a.result.now fs) (sym (c.deref.ensures.value ∙ found_is)) c.put_listed.ensures.first)
          (search rules) c.in_ok-push.ensures.items c.in_ok-add_members.ensures;
    }

pub returns-in_err-found-clause-beside : goal.returns-in_err-found-clause-beside
returns-in_err-found-clause-beside c = IfOk-from_err _ _ c.from_residual.ensures.0

pub returns-in_err-found-clause-listed : goal.returns-in_err-found-clause-listed
returns-in_err-found-clause-listed c = IfOk-from_err _ _ c.from_residual.ensures.0

pub returns-in_err-starts-clause-beside : goal.returns-in_err-starts-clause-beside
returns-in_err-starts-clause-beside c = IfOk-from_err _ _ c.from_residual-in_err-starts.ensures.0

pub returns-in_err-starts-clause-listed : goal.returns-in_err-starts-clause-listed
returns-in_err-starts-clause-listed c = IfOk-from_err _ _ c.from_residual-in_err-starts.ensures.0

pub returns-in_err-labels-clause-beside : goal.returns-in_err-labels-clause-beside
returns-in_err-labels-clause-beside c = IfOk-from_err _ _ c.from_residual-in_err-labels.ensures.0

pub returns-in_err-labels-clause-listed : goal.returns-in_err-labels-clause-listed
returns-in_err-labels-clause-listed c = IfOk-from_err _ _ c.from_residual-in_err-labels.ensures.0

pub returns-in_err-push-clause-beside : goal.returns-in_err-push-clause-beside
returns-in_err-push-clause-beside c = IfOk-from_err _ _ c.from_residual-in_err-push.ensures.0

pub returns-in_err-push-clause-listed : goal.returns-in_err-push-clause-listed
returns-in_err-push-clause-listed c = IfOk-from_err _ _ c.from_residual-in_err-push.ensures.0

pub returns-in_err-add_members-clause-beside : goal.returns-in_err-add_members-clause-beside
returns-in_err-add_members-clause-beside c = IfOk-from_err _ _ c.from_residual-in_err-add_members.ensures.0

pub returns-in_err-add_members-clause-listed : goal.returns-in_err-add_members-clause-listed
returns-in_err-add_members-clause-listed c = IfOk-from_err _ _ c.from_residual-in_err-add_members.ensures.0

pub returns-clause-beside : goal.returns-clause-beside
returns-clause-beside c = gathered_beside _ _ _ _ _ _ _ (subst (λ (a : ℕ). AreGathered a c.args.width c.args.words.now c.loop-a.starts.items c.loop-a.labels.items c.args.parts.now.neighbours c.args.parts.now.edge_labels) (at_end _ c.len-size.result _ c.loop-a.auto.a-end c.loop-a-test.false c.len-size.ensures) c.loop-a.invariant.gathered)

pub returns-clause-listed : goal.returns-clause-listed
returns-clause-listed c = (subst (λ (a : ℕ). AreGathered a c.args.width c.args.words.now c.loop-a.starts.items c.loop-a.labels.items c.args.parts.now.neighbours c.args.parts.now.edge_labels) (at_end _ c.len-size.result _ c.loop-a.auto.a-end c.loop-a-test.false c.len-size.ensures) c.loop-a.invariant.gathered).listed

pub loop-a-init : goal.loop-a-init
loop-a-init c = record {
  long = sym c.in_ok-found.found.ok.0 ∙ c.in_ok-found.ensures.len ∙ c.len-size.ensures;
  gathered = gathered_none _ _ _ _ _ _ c.in_ok-starts.ensures.items c.in_ok-labels.ensures.items;
}

pub overflow_mul-from : goal.overflow_mul-from
overflow_mul-from c = start_fits _ _ _ c.requires.few c.requires.width_is (subst (λ (size : ℕ). c.loop-a.a < size) c.len-size.ensures c.loop-a-test.true)

pub overflow_add-from : goal.overflow_add-from
overflow_add-from c = end_fits _ _ _ c.requires.few c.requires.width_is (subst (λ (size : ℕ). c.loop-a.a < size) c.len-size.ensures c.loop-a-test.true)

pub offset_bounds-words-from : goal.offset_bounds-words-from
offset_bounds-words-from c = place_fits _ _ _ c.requires.few c.requires.width_is (subst (λ (size : ℕ). c.loop-a.a < size) c.len-size.ensures c.loop-a-test.true)

pub overflow_cast-len : goal.overflow_cast-len
overflow_cast-len c = labels_fit _ _ _ _ c.requires.few c.requires.width_is (subst (λ (size : ℕ). c.loop-a.a < size) c.len-size.ensures c.loop-a-test.true) (subst (λ (long : ℕ). long ≤ c.loop-a.a * (64 * c.args.width)) (sym (c.len.ensures ∙ c.loop-a.labels.ok.0)) c.loop-a.invariant.gathered.few)

pub slice_bounds-add_members-start : goal.slice_bounds-add_members-start
slice_bounds-add_members-start c = start_before _ _

pub slice_bounds-add_members-end : goal.slice_bounds-add_members-end
slice_bounds-add_members-end c = subst (λ (all : ℕ). c.loop-a.a * c.args.width + c.args.width ≤ all) (sym c.requires.words_are) (row_end _ _ _ (subst (λ (size : ℕ). c.loop-a.a < size) c.len-size.ensures c.loop-a-test.true))

pub add_members-requires-clause-short : goal.add_members-requires-clause-short
add_members-requires-clause-short c = row_short _ _ _ c.requires.few c.requires.width_is (row_long (length c.args.parts.now.neighbours) c.args.width c.loop-a.a (c.loop-a.a * c.args.width) (c.loop-a.a * c.args.width + c.args.width - c.loop-a.a * c.args.width) c.args.words.now c.requires.words_are (subst (λ (size : ℕ). c.loop-a.a < size) c.len-size.ensures c.loop-a-test.true) refl (from_start _ _))
