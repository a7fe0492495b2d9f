use Rattle.std.proofs.Common.{◌≡◌, ℕ, ◌+◌, ◌-◌, length, replicate, sym, ◌∙◌, subst, arith}
use Rattle.std.proofs.lemmas.List.{length-replicate}
use Rattle.journal_theory.specs.Referring.{step_refs}
use Rattle.proof_trim.specs.Places.{place_in}
use Rattle.proof_trim.specs.Marks.{MarksRefs, IsMarked}
use Rattle.proof_trim.proofs.LinesRead.{at_long}
use Rattle.proof_trim.proofs.Marking.{marked_start}
use Rattle.proof_trim.proofs.marks.marks_of.Goals as goal

pub loop-at-init : goal.loop-at-init
loop-at-init c = record {
  marked = λ made at.
      let e : c.len.result ≡ length made = c.len.ensures ∙ at_long c.args.lines.now.text.now c.args.lines.now.places.items made at in
      subst (λ (n : ℕ). IsMarked (place_in c.args.index.now) made c.args.last.now n c.in_ok-marks.marks.items) (sym (c.len-at.ensures ∙ at_long c.args.lines.now.text.now c.args.lines.now.places.items made at))
      (marked_start (place_in c.args.index.now) made c.args.last.now c.in_ok-marks.marks.items
      (subst (λ (n : ℕ). MarksRefs (place_in c.args.index.now) (step_refs c.args.last.now) n (n + 1) (replicate n 0) c.in_ok-marks.marks.items) e c.in_ok-marks.ensures));
  long = c.in_ok-marks.ensures.long ∙ length-replicate c.len.result 0 ∙ c.len.ensures;
  within = (let e = c.len-at.ensures in omega (arith, e));
}

pub loop-at-preserved : goal.loop-at-preserved
loop-at-preserved c =
    let some = c.loop-at-test.true in
    let within = c.loop-at.invariant.within in
    let e : c.loop-at.at ≡ c.loop-at.at - 1 + 1 = omega (arith, some) in
    record {
      marked = λ made at. c.in_ok-mark_line.ensures.marked made c.args.last.now at (subst (λ (n : ℕ). IsMarked (place_in c.args.index.now) made c.args.last.now n c.loop-at.marks.items) e (c.loop-at.invariant.marked made at));
      long = c.in_ok-mark_line.ensures.long ∙ c.loop-at.invariant.long;
      within = omega (arith, within);
    }

pub returns : goal.returns
returns c = λ made at.
    let none = c.loop-at-test.false in
    let e : c.loop-at.at ≡ 0 = omega (arith, none) in
    subst (λ (n : ℕ). IsMarked (place_in c.args.index.now) made c.args.last.now n c.loop-at.marks.items) e (c.loop-at.invariant.marked made at)
