use Rattle.std.proofs.Common.{◌≡◌, ◌++◌, ℕ, List, length, take, [], ◌∙◌, ap, subst, sym, Result, Ok, Err, OnOk}
use Rattle.std.proofs.Math.Seq.{take-append_seam}
use Rattle.graph_theory.specs.Graph.{size}
use Rattle.recorder.specs.declared.change.Failure.{Failure}
use Rattle.recorder.specs.Recording.{set_at}
use Rattle.dead_theory.specs.Ends.{End, end_of, EndNeeds}
use Rattle.recorder.specs.declared.change.DeadEnd.{DeadEnd}
use Rattle.dead_paths.specs.Choosing.{values_of}
use Rattle.dead_paths.specs.Explaining.{end_by}
use Rattle.dead_paths.proofs.Resting.{all_of}
use Rattle.dead_paths.proofs.dead_line.mark_end.Goals as goal

-- words that were written in place of a vector's are as many as they were
kept_long : (n k : ℕ) (xs ys : List ℕ) → length xs ≡ n → n ≡ k → length (take n (xs ++ ys)) ≡ k
kept_long n k xs ys long is = ap length (subst (λ (j : ℕ). take j (xs ++ ys) ≡ xs) long (take-append_seam xs ys)) ∙ (long ∙ is)

on_ok : {A E : Type 0} (r : Result A E) (P : Type 0) → P → OnOk r P
on_ok (Ok a) P p = p
on_ok (Err e) P p = tt

pub returns-in-Empty-clause-needs : goal.returns-in-Empty-clause-needs
returns-in-Empty-clause-needs c = λ path here.
    let is = (ap (λ (y : DeadEnd). end_by y (set_at c.args.walk.now.numbers.now c.args.short) []) c.in-Failed.is ∙ ap (λ (f : Failure). end_of f (set_at c.args.walk.now.numbers.now c.args.short)) c.in-Empty.is) in
    subst (λ (e : End). EndNeeds c.args.walk.now.rows.now path e (values_of (size c.args.walk.now.q.now.target) c.need_all.new.marked c.need_all.new.rows)) (sym is)
    (all_of (size c.args.walk.now.q.now.target) c.count_values-values.result c.need_all.new.marked c.need_all.new.rows c.in-Empty.p c.count_values-values.ensures.is c.need_all.ensures.needed)

pub returns-in-Whole-clause-needs : goal.returns-in-Whole-clause-needs
returns-in-Whole-clause-needs c = λ path here.
    let is = (ap (λ (y : DeadEnd). end_by y (set_at c.args.walk.now.numbers.now c.args.short) []) c.in-Failed.is ∙ ap (λ (f : Failure). end_of f (set_at c.args.walk.now.numbers.now c.args.short)) c.in-Whole.is) in
    subst (λ (e : End). OnOk c.uphold_row.result (EndNeeds c.args.walk.now.rows.now path e (values_of (size c.args.walk.now.q.now.target) c.uphold_row.new.marked c.uphold_row.new.needed))) (sym is) (c.uphold_row.ensures.upheld path here)

pub returns-in-Exhausted-clause-needs : goal.returns-in-Exhausted-clause-needs
returns-in-Exhausted-clause-needs c = λ path here.
    let is = (ap (λ (y : DeadEnd). end_by y (set_at c.args.walk.now.numbers.now c.args.short) []) c.in-Exhausted.is) in
    subst (λ (e : End). EndNeeds c.args.walk.now.rows.now path e (values_of (size c.args.walk.now.q.now.target) c.need_all-in-Exhausted.new.marked c.need_all-in-Exhausted.new.rows)) (sym is)
    (all_of (size c.args.walk.now.q.now.target) c.count_values-values.result c.need_all-in-Exhausted.new.marked c.need_all-in-Exhausted.new.rows c.in-Exhausted.p c.count_values-values.ensures.is c.need_all-in-Exhausted.ensures.needed)

pub returns-in-Empty-clause-fit : goal.returns-in-Empty-clause-fit
returns-in-Empty-clause-fit c = record {
  spare = kept_long c.args.room.now.spare.len _ _ _ (c.need_all.auto.spare ∙ c.deref_mut.ensures.len) (c.args.room.now.spare.ok.0 ∙ c.requires.fit.spare);
  other = c.requires.fit.other;
  set = c.requires.fit.set;
  counts = c.requires.fit.counts;
}

pub returns-in-Whole-clause-fit : goal.returns-in-Whole-clause-fit
returns-in-Whole-clause-fit c = on_ok c.uphold_row.result _ (record {
  spare = kept_long c.args.room.now.spare.len _ _ _ (c.uphold_row.auto.spare ∙ c.deref_mut-in-Whole.ensures.len) (c.args.room.now.spare.ok.0 ∙ c.requires.fit.spare);
  other = c.requires.fit.other;
  set = c.requires.fit.set;
  counts = c.requires.fit.counts;
})

pub returns-in-Exhausted-clause-fit : goal.returns-in-Exhausted-clause-fit
returns-in-Exhausted-clause-fit c = record {
  spare = kept_long c.args.room.now.spare.len _ _ _ (c.need_all-in-Exhausted.auto.spare ∙ c.deref_mut-in-Exhausted.ensures.len) (c.args.room.now.spare.ok.0 ∙ c.requires.fit.spare);
  other = c.requires.fit.other;
  set = c.requires.fit.set;
  counts = c.requires.fit.counts;
}
