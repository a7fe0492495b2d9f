use Rattle.std.proofs.Common.{ℕ, ◌<◌, subst, ap, ◌∙◌}
use Rattle.graph_theory.specs.Graph.{size}
use Rattle.domain_bits.specs.Removals.{State}
use Rattle.restart_search.proofs.Beginning.{beginning_narrows, beginning_more, none_begun}
use Rattle.recorder.proofs.Guesses.{guesses_more}
use Rattle.propagation.proofs.Narrowing.{is_of_narrowed}
use Rattle.restart_search.proofs.root.begin.Goals as goal

pub returns-then-not-narrow_first-clause-begins : goal.returns-then-not-narrow_first-clause-begins
returns-then-not-narrow_first-clause-begins g c =
    let p_in : c.loop-p.p < size c.args.q.now.pattern =
    subst (λ (n : ℕ). c.loop-p.p < n) (c.vertices-p-end.ensures ∙ ap (λ (d : State). d.vertices) c.requires.is_full) c.loop-p-test.true in
    none_begun _ c.args.d.now c.loop-p.d c.narrow_first.new.d c.loop-p.p c.loop-p.invariant.begun.narrows
    (beginning_narrows _ _ _ _ _ c.if-not-narrow_first.ensures.keeps p_in c.fill_first.ensures.complete) p_in c.if-not-narrow_first.ensures.notes.0

pub loop-p-preserved : goal.loop-p-preserved
loop-p-preserved g c =
    let p_in : c.loop-p.p < size c.args.q.now.pattern =
    subst (λ (n : ℕ). c.loop-p.p < n) (c.vertices-p-end.ensures ∙ ap (λ (d : State). d.vertices) c.requires.is_full) c.loop-p-test.true in
    record {
      begun = beginning_more _ _ _ _ _ _ _ _ c.loop-p.invariant.begun c.if-not-narrow_first.ensures.keeps p_in c.fill_first.ensures.right c.fill_first.ensures.complete c.if-not-narrow_first.ensures.notes;
      words = c.fill_first.auto.row ∙ c.loop-p.invariant.words;
      told = λ s t. c.if-not-narrow_first.ensures.told c.args.q.now s c.loop-p.invariant.begun.is_of c.fill_first.ensures.complete (c.loop-p.invariant.told s t);
      guesses = guesses_more _ _ _ c.loop-p.invariant.guesses c.if-not-narrow_first.ensures.guesses;
    }

pub returns-then-not-narrow_first-clause-none : goal.returns-then-not-narrow_first-clause-none
returns-then-not-narrow_first-clause-none g c =
    let p_in : c.loop-p.p < size c.args.q.now.pattern =
    subst (λ (n : ℕ). c.loop-p.p < n) (c.vertices-p-end.ensures ∙ ap (λ (d : State). d.vertices) c.requires.is_full) c.loop-p-test.true in
    (p_in, c.if-not-narrow_first.ensures.notes.0)

pub returns-then-not-narrow_first-clause-told : goal.returns-then-not-narrow_first-clause-told
returns-then-not-narrow_first-clause-told g c s t =
    c.if-not-narrow_first.ensures.told c.args.q.now s c.loop-p.invariant.begun.is_of c.fill_first.ensures.complete (c.loop-p.invariant.told s t)

pub returns-then-not-narrow_first-clause-guesses : goal.returns-then-not-narrow_first-clause-guesses
returns-then-not-narrow_first-clause-guesses g c = guesses_more _ _ _ c.loop-p.invariant.guesses c.if-not-narrow_first.ensures.guesses

pub returns-then-not-narrow_first-clause-is_of : goal.returns-then-not-narrow_first-clause-is_of
returns-then-not-narrow_first-clause-is_of g c =
    let p_in : c.loop-p.p < size c.args.q.now.pattern =
    subst (λ (n : ℕ). c.loop-p.p < n) (c.vertices-p-end.ensures ∙ ap (λ (d : State). d.vertices) c.requires.is_full) c.loop-p-test.true in
    is_of_narrowed c.args.q.now c.loop-p.d c.narrow_first.new.d (beginning_narrows _ _ _ _ _ c.if-not-narrow_first.ensures.keeps p_in c.fill_first.ensures.complete) c.loop-p.invariant.begun.is_of
