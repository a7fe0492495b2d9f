use Rattle.std.proofs.Common.{◌≡◌, ◌<◌, ◌≤◌, ℕ, ◌+◌, ◌-◌, List, [], pos, length, take, drop, slice_get, get_or, Some, ap, sym, refl, subst, rules, arith}
use Rattle.std.proofs.lemmas.Option.{slice_get-get_or}
use Rattle.std.proofs.lemmas.List.{take_all}
use Rattle.std.proofs.lemmas.Result.{err_from_is_err_and}
use Rattle.proof_theory.specs.Forms.{Form}
use Rattle.outer_io.specs.Sinks.{Spot}
use Rattle.log_theory.specs.Words.{line_text}
use Rattle.log_theory.specs.OpbText.{form_words}
use Rattle.opb_text.proofs.Putting.{texts-more, texts-parts}
use Rattle.encoding_theory.specs.Encoding.{encoding}
use Rattle.pb_encoding.specs.Writing.{forms_text}
use Rattle.pb_encoding.proofs.Gathered.{gathered-none, gathered-more, gathered-then, gathered-front, gathered-stops, gathered-ends}
use Rattle.pb_encoding.proofs.encoding.Encoding.write_constraints.Goals as goal

-- The form of a number that counts from 1.
at_number : (fs : List Form) (i : ℕ) (d : Form) → i < length fs → slice_get fs (i + 1 - 1) ≡ Some (get_or fs i d)
at_number fs i d h = subst (λ (k : ℕ). slice_get fs k ≡ Some (get_or fs i d)) (let e : i ≡ i + 1 - 1 = omega arith in e) (slice_get-get_or fs i d h)

none : Form
none = record { terms = []; bound = pos 0 }

-- The line of a form.
abbrev line : Form → List ℕ
line f = line_text (form_words f)

pub loop-i-init : goal.loop-i-init
loop-i-init g c = record { text = rw c.new-buffer.ensures.items (gathered-none _ []); same = refl; others = λ file. refl; faults = refl }

pub returns-in_err-append_constraint-clause-text : goal.returns-in_err-append_constraint-clause-text
returns-in_err-append_constraint-clause-text g c =
    let fs = encoding c.args.self.now in
    let i = c.loop-i.i in
    let p = err_from_is_err_and c.from_residual.result c.from_residual.ensures.1 in
    rw p.1 (rw (texts-parts line fs i) (gathered-front _ _ _ _ (forms_text (take i fs)) (forms_text (drop i fs)) c.loop-i.invariant.text))

pub returns-in_err-put_piece-clause-text : goal.returns-in_err-put_piece-clause-text
returns-in_err-put_piece-clause-text g c =
    let fs = encoding c.args.self.now in
    let i = c.loop-i.i in
    let i_in : i < length fs = omega (arith, c.loop-i-test.true, c.len-i-end.ensures) in
    let p = err_from_is_err_and c.from_residual-in_err-put_piece.result c.from_residual-in_err-put_piece.ensures.1 in
    let line_is = c.in_ok-append_constraint.ensures (get_or fs i none) (at_number fs i none i_in) in
    let now = gathered-more _ _ _ _ _ _ (forms_text (take (i + 1) fs)) c.loop-i.invariant.text line_is (sym (texts-more line fs i none i_in)) in
    rw p.1 (rw (texts-parts line fs (i + 1))
    (gathered-stops _ _ (ap (λ (s : Spot). s.steady) c.loop-i.invariant.same) _ _ _ _ (forms_text (take (i + 1) fs)) (forms_text (drop (i + 1) fs)) now c.in_err-put_piece.ensures.text))

pub loop-i-preserved : goal.loop-i-preserved
loop-i-preserved g c =
    let fs = encoding c.args.self.now in
    let i = c.loop-i.i in
    let i_in : i < length fs = omega (arith, c.loop-i-test.true, c.len-i-end.ensures) in
    let line_is = c.in_ok-append_constraint.ensures (get_or fs i none) (at_number fs i none i_in) in
    let now = gathered-more _ _ _ _ _ _ (forms_text (take (i + 1) fs)) c.loop-i.invariant.text line_is (sym (texts-more line fs i none i_in)) in
    record {
      text = gathered-then _ _ _ _ _ _ now c.in_ok-put_piece.ensures.text;
      same = search rules;
      others = search rules;
      faults = search rules;
    }

pub returns-in_err-put-clause-text : goal.returns-in_err-put-clause-text
returns-in_err-put-clause-text g c =
    let fs = encoding c.args.self.now in
    let i = c.loop-i.i in
    let p = err_from_is_err_and c.from_residual-in_err-put.result c.from_residual-in_err-put.ensures.1 in
    let put = rw c.as_slice.ensures.value at c.in_err-put.ensures.text in
    rw p.1 (rw (texts-parts line fs i)
    (gathered-stops _ _ (ap (λ (s : Spot). s.steady) c.loop-i.invariant.same) _ _ _ _ (forms_text (take i fs)) (forms_text (drop i fs)) c.loop-i.invariant.text put))

pub returns-clause-text : goal.returns-clause-text
returns-clause-text g c =
    let fs = encoding c.args.self.now in
    let i = c.loop-i.i in
    let all : length fs ≤ i = omega (arith, c.loop-i-test.false, c.len-i-end.ensures) in
    let put = rw c.as_slice.ensures.value at c.in_ok-put.ensures.text in
    rw (← take_all i fs all) (gathered-ends _ _ _ _ (forms_text (take i fs)) c.loop-i.invariant.text put)
