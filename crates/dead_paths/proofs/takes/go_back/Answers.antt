use Rattle.std.proofs.Common.{◌≡◌, ◌++◌, ℕ, List, length, take, Result, Ok, Err, OnOk, refl, sym, ap, ◌∙◌, subst}
use Rattle.std.proofs.Math.Seq.{take-append_seam}
use Rattle.graph_theory.specs.Graph.{size}
use Rattle.recorder.specs.declared.change.Cause.TheVariants as cause
use Rattle.recorder.specs.declared.change.What.{What}
use Rattle.recorder.specs.Recording.{change_by, change_of}
use Rattle.dead_paths.specs.Choosing.{values_of, IsStep}
use Rattle.dead_paths.proofs.Resting.{step_first, step_one, made_one_ok, told_made}
use Rattle.dead_paths.proofs.takes.go_back.Goals as goal

-- words that were written in place of a vector's are as many as they were
kept_long : (n k : ℕ) (xs ys : List ℕ) → length xs ≡ n → n ≡ k → length (take n (xs ++ ys)) ≡ k
kept_long n k xs ys long is = ap length (subst (λ (j : ℕ). take j (xs ++ ys) ≡ xs) long (take-append_seam xs ys)) ∙ (long ∙ is)

on_ok : {A E : Type 0} (r : Result A E) (P : Type 0) → P → OnOk r P
on_ok (Ok a) P p = p
on_ok (Err e) P p = tt

pub returns-in-First-clause-step : goal.returns-in-First-clause-step
returns-in-First-clause-step c = λ path here.
    told_made c.args.walk.now.q.now c.args.walk.now.rows.now path (change_of c.args.walk.now.numbers.now c.args.entry.now) (values_of (size c.args.walk.now.q.now.target) c.args.marked.now c.args.needed.now) (values_of (size c.args.walk.now.q.now.target) c.args.marked.now c.args.needed.now) c.is_any_needed.result c.told_if.result c.told_if.ensures.yes c.told_if.ensures.no
    (step_first c.args.walk.now.q.now c.args.walk.now.rows.now path (size c.args.walk.now.q.now.target) c.count_values-values.result c.args.marked.now c.args.needed.now c.is_any_needed.result c.args.walk.now.numbers.now c.args.entry.now.what c.in-One.r c.in-One.cause c.args.entry.now.from refl
    c.count_values-values.ensures.is c.in-One.is c.in-First.is c.is_any_needed.ensures)

pub returns-in-Guess-clause-step : goal.returns-in-Guess-clause-step
returns-in-Guess-clause-step c = λ path here.
    told_made c.args.walk.now.q.now c.args.walk.now.rows.now path (change_of c.args.walk.now.numbers.now c.args.entry.now) (values_of (size c.args.walk.now.q.now.target) c.args.marked.now c.args.needed.now) (values_of (size c.args.walk.now.q.now.target) c.by_guess.new.marked c.args.needed.now) c.by_guess.result c.told_if-in-Guess.result c.told_if-in-Guess.ensures.yes c.told_if-in-Guess.ensures.no
    (step_one c.args.walk.now.q.now c.args.walk.now.rows.now path c.args.walk.now.numbers.now c.args.entry.now.what c.args.entry.now.from (values_of (size c.args.walk.now.q.now.target) c.args.marked.now c.args.needed.now) (values_of (size c.args.walk.now.q.now.target) c.by_guess.new.marked c.args.needed.now)
    c.by_guess.result c.in-One.r c.in-One.cause (cause.Guess c.in-Guess.t) c.in-One.is c.in-Guess.is (c.by_guess.ensures c.args.walk.now.rows.now path c.args.entry.now.from))

pub returns-in-Vertex-clause-step : goal.returns-in-Vertex-clause-step
returns-in-Vertex-clause-step c = λ path here.
    made_one_ok c.args.walk.now.q.now c.args.walk.now.rows.now path c.args.walk.now.numbers.now c.args.entry.now.what c.args.entry.now.from (values_of (size c.args.walk.now.q.now.target) c.args.marked.now c.args.needed.now) (values_of (size c.args.walk.now.q.now.target) c.by_vertex.new.marked c.by_vertex.new.needed)
    c.by_vertex.result c.in-One.r c.in-One.cause (cause.Vertex c.in-Vertex.p c.in-Vertex.t) c.in-One.is c.in-Vertex.is (c.by_vertex.ensures path c.args.entry.now.from here)

pub returns-in_ok-chosen-in-Nogood-clause-step : goal.returns-in_ok-chosen-in-Nogood-clause-step
returns-in_ok-chosen-in-Nogood-clause-step c = λ path here.
    told_made c.args.walk.now.q.now c.args.walk.now.rows.now path (change_of c.args.walk.now.numbers.now c.args.entry.now) (values_of (size c.args.walk.now.q.now.target) c.args.marked.now c.args.needed.now) (values_of (size c.args.walk.now.q.now.target) c.by_nogood.new.marked c.by_nogood.new.needed) c.in_ok-chosen-in-Nogood.chosen c.told_if-in-Nogood.result c.told_if-in-Nogood.ensures.yes c.told_if-in-Nogood.ensures.no
    (step_one c.args.walk.now.q.now c.args.walk.now.rows.now path c.args.walk.now.numbers.now c.args.entry.now.what c.args.entry.now.from (values_of (size c.args.walk.now.q.now.target) c.args.marked.now c.args.needed.now) (values_of (size c.args.walk.now.q.now.target) c.by_nogood.new.marked c.by_nogood.new.needed)
    c.in_ok-chosen-in-Nogood.chosen c.in-One.r c.in-One.cause (cause.Nogood c.in-Nogood.name) c.in-One.is c.in-Nogood.is (c.in_ok-chosen-in-Nogood.ensures path c.args.entry.now.from here))

pub returns-in-Edge-clause-step : goal.returns-in-Edge-clause-step
returns-in-Edge-clause-step c = λ path here.
    told_made c.args.walk.now.q.now c.args.walk.now.rows.now path (change_of c.args.walk.now.numbers.now c.args.entry.now) (values_of (size c.args.walk.now.q.now.target) c.args.marked.now c.args.needed.now) (values_of (size c.args.walk.now.q.now.target) c.by_edge.new.marked c.by_edge.new.needed) c.by_edge.result c.told_if-in-Edge.result c.told_if-in-Edge.ensures.yes c.told_if-in-Edge.ensures.no
    (step_one c.args.walk.now.q.now c.args.walk.now.rows.now path c.args.walk.now.numbers.now c.args.entry.now.what c.args.entry.now.from (values_of (size c.args.walk.now.q.now.target) c.args.marked.now c.args.needed.now) (values_of (size c.args.walk.now.q.now.target) c.by_edge.new.marked c.by_edge.new.needed)
    c.by_edge.result c.in-One.r c.in-One.cause (cause.Edge c.in-Edge.p c.in-Edge.u c.in-Edge.direction) c.in-One.is c.in-Edge.is (c.by_edge.ensures c.args.walk.now.rows.now path c.args.entry.now.from))

pub returns-in-Over-clause-step : goal.returns-in-Over-clause-step
returns-in-Over-clause-step c = λ path here.
    told_made c.args.walk.now.q.now c.args.walk.now.rows.now path (change_of c.args.walk.now.numbers.now c.args.entry.now) (values_of (size c.args.walk.now.q.now.target) c.args.marked.now c.args.needed.now) (values_of (size c.args.walk.now.q.now.target) c.by_crowd.new.marked c.by_crowd.new.needed) c.by_crowd.result c.told_if-in-Over.result c.told_if-in-Over.ensures.yes c.told_if-in-Over.ensures.no
    (subst (λ (x : What). IsStep c.by_crowd.result c.args.walk.now.q.now c.args.walk.now.rows.now path (change_by c.args.walk.now.numbers.now x c.args.entry.now.from) (values_of (size c.args.walk.now.q.now.target) c.args.marked.now c.args.needed.now) (values_of (size c.args.walk.now.q.now.target) c.by_crowd.new.marked c.by_crowd.new.needed))
    (sym c.in-Over.is) (rw (c.part-in-Over.ensures, c.part-in-Over-2.ensures) at c.by_crowd.ensures c.args.walk.now.rows.now path c.args.entry.now.from))

pub returns-in-Others-clause-step : goal.returns-in-Others-clause-step
returns-in-Others-clause-step c = λ path here.
    told_made c.args.walk.now.q.now c.args.walk.now.rows.now path (change_of c.args.walk.now.numbers.now c.args.entry.now) (values_of (size c.args.walk.now.q.now.target) c.args.marked.now c.args.needed.now) (values_of (size c.args.walk.now.q.now.target) c.by_set.new.marked c.by_set.new.needed) c.by_set.result c.told_if-in-Others.result c.told_if-in-Others.ensures.yes c.told_if-in-Others.ensures.no
    (subst (λ (x : What). IsStep c.by_set.result c.args.walk.now.q.now c.args.walk.now.rows.now path (change_by c.args.walk.now.numbers.now x c.args.entry.now.from) (values_of (size c.args.walk.now.q.now.target) c.args.marked.now c.args.needed.now) (values_of (size c.args.walk.now.q.now.target) c.by_set.new.marked c.by_set.new.needed))
    (sym c.in-Others.is) (rw (c.part.ensures, c.part-in-Others.ensures) at c.by_set.ensures c.args.walk.now.rows.now path c.args.entry.now.from))

pub returns-in-First-clause-fit : goal.returns-in-First-clause-fit
returns-in-First-clause-fit c = c.requires.fit

pub returns-in-Guess-clause-fit : goal.returns-in-Guess-clause-fit
returns-in-Guess-clause-fit c = c.requires.fit

pub returns-in-Vertex-clause-fit : goal.returns-in-Vertex-clause-fit
returns-in-Vertex-clause-fit c = on_ok c.by_vertex.result _ (record {
  spare = kept_long c.args.room.now.spare.len _ _ _ (c.by_vertex.auto.spare ∙ c.deref_mut.ensures.len) (c.args.room.now.spare.ok.0 ∙ c.requires.fit.spare);
  other = kept_long c.args.room.now.other.len _ _ _ (c.by_vertex.auto.other ∙ c.deref_mut-in-Vertex.ensures.len) (c.args.room.now.other.ok.0 ∙ c.requires.fit.other);
  set = c.requires.fit.set;
  counts = kept_long c.args.room.now.counts.len _ _ _ (c.by_vertex.auto.counts ∙ c.deref_mut-in-Vertex-2.ensures.len) (c.args.room.now.counts.ok.0 ∙ c.requires.fit.counts);
})

pub returns-in_ok-chosen-in-Nogood-clause-fit : goal.returns-in_ok-chosen-in-Nogood-clause-fit
returns-in_ok-chosen-in-Nogood-clause-fit c = record {
  spare = kept_long c.args.room.now.spare.len _ _ _ (c.by_nogood.auto.spare ∙ c.deref_mut-in-Nogood.ensures.len) (c.args.room.now.spare.ok.0 ∙ c.requires.fit.spare);
  other = c.requires.fit.other;
  set = c.requires.fit.set;
  counts = c.requires.fit.counts;
}

pub returns-in-Edge-clause-fit : goal.returns-in-Edge-clause-fit
returns-in-Edge-clause-fit c = record {
  spare = kept_long c.args.room.now.spare.len _ _ _ (c.by_edge.auto.spare ∙ c.deref_mut-in-Edge-2.ensures.len) (c.args.room.now.spare.ok.0 ∙ c.requires.fit.spare);
  other = kept_long c.args.room.now.other.len _ _ _ (c.by_edge.auto.other ∙ c.deref_mut-in-Edge-3.ensures.len) (c.args.room.now.other.ok.0 ∙ c.requires.fit.other);
  set = kept_long c.args.room.now.set.len _ _ _ (c.by_edge.auto.set ∙ c.deref_mut-in-Edge.ensures.len) (c.args.room.now.set.ok.0 ∙ c.requires.fit.set);
  counts = c.requires.fit.counts;
}

pub returns-in-Others-clause-fit : goal.returns-in-Others-clause-fit
returns-in-Others-clause-fit c = record {
  spare = kept_long c.args.room.now.spare.len _ _ _ (c.by_set.auto.spare ∙ c.deref_mut-in-Others-2.ensures.len) (c.args.room.now.spare.ok.0 ∙ c.requires.fit.spare);
  other = kept_long c.args.room.now.other.len _ _ _ (c.by_set.auto.other ∙ c.deref_mut-in-Others-3.ensures.len) (c.args.room.now.other.ok.0 ∙ c.requires.fit.other);
  set = kept_long c.args.room.now.set.len _ _ _ (c.by_set.auto.set ∙ c.deref_mut-in-Others.ensures.len) (c.args.room.now.set.ok.0 ∙ c.requires.fit.set);
  counts = c.requires.fit.counts;
}

pub returns-in-Over-clause-fit : goal.returns-in-Over-clause-fit
returns-in-Over-clause-fit c = record {
  spare = kept_long c.args.room.now.spare.len _ _ _ (c.by_crowd.auto.spare ∙ c.deref_mut-in-Over-2.ensures.len) (c.args.room.now.spare.ok.0 ∙ c.requires.fit.spare);
  other = kept_long c.args.room.now.other.len _ _ _ (c.by_crowd.auto.other ∙ c.deref_mut-in-Over-3.ensures.len) (c.args.room.now.other.ok.0 ∙ c.requires.fit.other);
  set = kept_long c.args.room.now.set.len _ _ _ (c.by_crowd.auto.set ∙ c.deref_mut-in-Over.ensures.len) (c.args.room.now.set.ok.0 ∙ c.requires.fit.set);
  counts = c.requires.fit.counts;
}

pub returns-in-Order-clause-step : goal.returns-in-Order-clause-step
returns-in-Order-clause-step c = λ path here.
    told_made c.args.walk.now.q.now c.args.walk.now.rows.now path (change_of c.args.walk.now.numbers.now c.args.entry.now) (values_of (size c.args.walk.now.q.now.target) c.args.marked.now c.args.needed.now) (values_of (size c.args.walk.now.q.now.target) c.by_order.new.marked c.by_order.new.needed) c.by_order.result c.told_if-in-Order.result c.told_if-in-Order.ensures.yes c.told_if-in-Order.ensures.no
    (step_one c.args.walk.now.q.now c.args.walk.now.rows.now path c.args.walk.now.numbers.now c.args.entry.now.what c.args.entry.now.from (values_of (size c.args.walk.now.q.now.target) c.args.marked.now c.args.needed.now) (values_of (size c.args.walk.now.q.now.target) c.by_order.new.marked c.by_order.new.needed)
    c.by_order.result c.in-One.r c.in-One.cause (cause.Order c.in-Order.k c.in-Order.u c.in-Order.side) c.in-One.is c.in-Order.is (c.by_order.ensures c.args.walk.now.rows.now path c.args.entry.now.from))

pub returns-in-Order-clause-fit : goal.returns-in-Order-clause-fit
returns-in-Order-clause-fit c = record {
  spare = kept_long c.args.room.now.spare.len _ _ _ (c.by_order.auto.spare ∙ c.deref_mut-in-Order-2.ensures.len) (c.args.room.now.spare.ok.0 ∙ c.requires.fit.spare);
  other = kept_long c.args.room.now.other.len _ _ _ (c.by_order.auto.other ∙ c.deref_mut-in-Order-3.ensures.len) (c.args.room.now.other.ok.0 ∙ c.requires.fit.other);
  set = kept_long c.args.room.now.set.len _ _ _ (c.by_order.auto.set ∙ c.deref_mut-in-Order.ensures.len) (c.args.room.now.set.ok.0 ∙ c.requires.fit.set);
  counts = c.requires.fit.counts;
}
