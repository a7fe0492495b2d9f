use Rattle.std.proofs.Common.{ℕ, ◌<◌, subst, ◌∙◌}
use Rattle.propagation.proofs.Past.{no_member_size}
use Rattle.propagation.proofs.Pruning.{ready_noted, decided_wait, pruned_fail, pruned_empty}
use Rattle.std.proofs.lemmas.Result.{err_from_is_err_and}
use Rattle.recorder.proofs.Telling.{fails_emptied}
use Rattle.propagation.proofs.counting.prune_noting.Goals as goal

pub raise_undecided-requires-clause-decided : goal.raise_undecided-requires-clause-decided
raise_undecided-requires-clause-decided g c p p_in out =
    no_member_size c.args.problem.now c.args.d.now c.args.undecided.now p c.requires.quiet c.requires.left (subst (λ (n : ℕ). p < n) c.requires.is_of.vertices_is p_in) out

pub returns-in_err-have_left-clause-prunes : goal.returns-in_err-have_left-clause-prunes
returns-in_err-have_left-clause-prunes g c =
    let p = err_from_is_err_and c.from_residual.result c.from_residual.ensures.1 in
    rw (p.1, p.2)
    (record { pruned = pruned_fail _ _ _ c.in_err-have_left.ensures.counts; fails = c.in_err-have_left.ensures.fails; told_on = c.in_err-have_left.ensures.told; guesses = c.in_err-have_left.ensures.guesses })

pub returns-then-not-have_left-clause-prunes : goal.returns-then-not-have_left-clause-prunes
returns-then-not-have_left-clause-prunes g c =
    let says = rw c.if-not-have_left.true at c.in_ok-have_left.ensures.counts in
    record {
      pruned = (says.0, says.1);
      fails = λ s. tt;
      told_on = c.in_ok-have_left.ensures.told;
      guesses = c.in_ok-have_left.ensures.guesses;
    }

pub returns-clause-prunes : goal.returns-clause-prunes
returns-clause-prunes g c =
    let says = rw c.if-not-have_left.false at c.in_ok-have_left.ensures.counts in
    let n = says.0 in
    record {
      pruned = (
        n,
        ready_noted _ c.args.d.now c.count_domains-answer.new.d c.raise_undecided.new.waiting c.note_all_decided.new.waiting c.requires.quiet c.requires.is_of n
            (c.raise_undecided.auto.waiting ∙ c.requires.long) c.raise_undecided.ensures c.in_ok-note_all_decided.ensures.notes,
        says.1,
        decided_wait _ c.args.d.now c.count_domains-answer.new.d c.raise_undecided.new.waiting c.note_all_decided.new.waiting c.requires.is_of n c.raise_undecided.ensures
            c.in_ok-note_all_decided.ensures.notes,
      );
      fails = λ s. tt;
      told_on = c.in_ok-have_left.ensures.told;
      guesses = c.in_ok-have_left.ensures.guesses;
    }

pub returns-in_err-note_all_decided-clause-prunes : goal.returns-in_err-note_all_decided-clause-prunes
returns-in_err-note_all_decided-clause-prunes g c =
    let says = rw c.if-not-have_left.false at c.in_ok-have_left.ensures.counts in
    let n = says.0 in
    let p = err_from_is_err_and c.from_residual-in_err-note_all_decided.result c.from_residual-in_err-note_all_decided.ensures.1 in
    rw (p.1, p.2)
    (record {
      pruned = pruned_empty _ _ _ c.requires.is_of n c.in_err-note_all_decided.ensures.notes;
      fails = λ s. fails_emptied c.args.problem.now s c.count_domains-answer.new.d _ _ _ (c.in_err-note_all_decided.ensures.none c.args.problem.now (n.vertices_same ∙ c.requires.is_of.vertices_is));
      told_on = c.in_ok-have_left.ensures.told;
      guesses = c.in_ok-have_left.ensures.guesses;
    })
