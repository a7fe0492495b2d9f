use Rattle.std.proofs.Common.{◌≡◌, sym, subst, ap, ◌∙◌}
use Rattle.graph_theory.specs.Embedding.{Problem}
use Rattle.recorder.specs.Telling.{IsOf, Tells}
use Rattle.recorder.proofs.Telling.{tells_of}
use Rattle.recorder.proofs.Guesses.{guesses_more}
use Rattle.propagation.specs.Learning.{AreKept, Filtering}
use Rattle.propagation.specs.Acting.{WatchesWait, HaveMoved}
use Rattle.propagation.specs.Propagation.{Shrinks}
use Rattle.propagation.proofs.Acting.{acted_told, moved_none, moved_more, kept_each, wait_on, wait_raised}
use Rattle.propagation.proofs.Forcing.{ready_on, ready_at_rest, propagated_after}
use Rattle.propagation.proofs.Failing.{propagated_failed, fails_where_emptied, acted_failed}
use Rattle.propagation.proofs.Past.{leaves_on, fewer_none}
use Rattle.propagation.proofs.propagation.propagate_again.Goals as goal

-- the problem stays that of the filters that a run begins with
problem_of : (q : Problem) (begun given : Filtering) → begun ≡ given → given.problem ≡ q → begun.problem ≡ q
problem_of q begun given same problem = ap (λ (f : Filtering). f.problem) same ∙ problem

pub take_units-requires-clause-is_of : goal.take_units-requires-clause-is_of
take_units-requires-clause-is_of g c =
    subst (λ (q : Problem). IsOf q c.args.d.now) (sym (problem_of _ _ _ c.begin_run.ensures c.requires.problem)) c.requires.is_of

pub propagate-requires-clause-ready : goal.propagate-requires-clause-ready
propagate-requires-clause-ready g c =
    let problem = problem_of _ _ _ c.begin_run.ensures c.requires.problem in
    ready_on _ c.args.d.now c.take_units.new.d c.raise_decided.new.waiting c.take_units.new.waiting (ready_at_rest _ _ _ c.requires.quiet (c.raise_decided.auto.waiting ∙ c.requires.long))
    (subst (λ (q : Problem). Shrinks q c.args.d.now c.raise_decided.new.waiting c.take_units.new.d c.take_units.new.waiting) problem c.in_ok-take_units.ensures.forces)

pub returns-clause-propagated : goal.returns-clause-propagated
returns-clause-propagated g c =
    let problem = problem_of _ _ _ c.begin_run.ensures c.requires.problem in
    let s = subst (λ (q : Problem). Shrinks q c.args.d.now c.raise_decided.new.waiting c.take_units.new.d c.take_units.new.waiting) problem c.in_ok-take_units.ensures.forces in
    propagated_after _ _ _ _ _ s.narrows c.propagate.ensures.propagated

pub returns-clause-acted : goal.returns-clause-acted
returns-clause-acted g c =
    acted_told _ c.args.q.now c.take_units.new.d _ _ _ c.propagate.ensures.propagated c.propagate.ensures.moved c.in_ok-take_units.ensures.out c.propagate.ensures.in_force

pub propagate-requires-clause-wait : goal.propagate-requires-clause-wait
propagate-requires-clause-wait g c =
    let problem = problem_of _ _ _ c.begin_run.ensures c.requires.problem in
    let kept = subst (λ (q : Problem). AreKept q c.begin_run.new.self.nogoods) problem c.in_ok-take_units.ensures.kept in
    let shrinks = subst (λ (q : Problem). Shrinks q c.args.d.now c.raise_decided.new.waiting c.take_units.new.d c.take_units.new.waiting) problem c.in_ok-take_units.ensures.forces in
    kept_each _ c.begin_run.new.self.nogoods (WatchesWait c.take_units.new.d c.take_units.new.waiting) kept
    (λ s are. wait_on _ c.args.d.now c.take_units.new.d c.raise_decided.new.waiting c.take_units.new.waiting s shrinks are
    (wait_raised _ c.args.d.now c.raise_decided.new.waiting s c.requires.is_of c.raise_decided.ensures are))

pub returns-clause-moved : goal.returns-clause-moved
returns-clause-moved g c =
    subst (λ (f : Filtering). HaveMoved c.args.d.now f.nogoods c.propagate.new.filters.nogoods) c.begin_run.ensures
    (moved_more c.args.d.now c.take_units.new.d c.begin_run.new.self.nogoods c.begin_run.new.self.nogoods c.propagate.new.filters.nogoods c.in_ok-take_units.ensures.forces.narrows.less
    (moved_none _ c.args.d.now c.begin_run.new.self.nogoods c.in_ok-take_units.ensures.kept) c.propagate.ensures.moved)

pub returns-in_err-take_units-clause-moved : goal.returns-in_err-take_units-clause-moved
returns-in_err-take_units-clause-moved g c =
    subst (λ (f : Filtering). HaveMoved c.args.d.now f.nogoods c.begin_run.new.self.nogoods) c.begin_run.ensures
    (moved_none _ c.args.d.now c.begin_run.new.self.nogoods c.in_err-take_units.ensures.kept)

pub returns-clause-told : goal.returns-clause-told
returns-clause-told g c t =
    let problem = problem_of _ _ _ c.begin_run.ensures c.requires.problem in
    let before = subst (λ (f : Filtering). Tells c.args.q.now f.nogoods c.args.d.now (g.R.Recorder.changes c.args.told.now)) (sym c.begin_run.ensures) t in
    c.propagate.ensures.told (tells_of _ c.args.q.now c.begin_run.new.self.nogoods c.take_units.new.d _ (sym problem)
    (c.in_ok-take_units.ensures.told (tells_of c.args.q.now _ c.begin_run.new.self.nogoods c.args.d.now _ problem before)))

pub returns-in_err-take_units-clause-told : goal.returns-in_err-take_units-clause-told
returns-in_err-take_units-clause-told g c t =
    let problem = problem_of _ _ _ c.begin_run.ensures c.requires.problem in
    let before = subst (λ (f : Filtering). Tells c.args.q.now f.nogoods c.args.d.now (g.R.Recorder.changes c.args.told.now)) (sym c.begin_run.ensures) t in
    tells_of _ c.args.q.now c.begin_run.new.self.nogoods c.take_units.new.d _ (sym problem)
    (c.in_err-take_units.ensures.told (tells_of c.args.q.now _ c.begin_run.new.self.nogoods c.args.d.now _ problem before))

pub returns-clause-guesses : goal.returns-clause-guesses
returns-clause-guesses g c = guesses_more _ _ _ c.in_ok-take_units.ensures.guesses c.propagate.ensures.guesses

pub returns-clause-problem : goal.returns-clause-problem
returns-clause-problem g c = c.propagate.ensures.problem

pub returns-clause-fails : goal.returns-clause-fails
returns-clause-fails g c = c.propagate.ensures.fails

pub returns-clause-left : goal.returns-clause-left
returns-clause-left g c = c.propagate.ensures.left

pub returns-clause-fewer : goal.returns-clause-fewer
returns-clause-fewer g c = c.propagate.ensures.fewer

pub returns-in_err-take_units-clause-problem : goal.returns-in_err-take_units-clause-problem
returns-in_err-take_units-clause-problem g c = problem_of _ _ _ c.begin_run.ensures c.requires.problem

pub returns-in_err-take_units-clause-propagated : goal.returns-in_err-take_units-clause-propagated
returns-in_err-take_units-clause-propagated g c = propagated_failed _ _ _ _ _ _ c.from_residual.ensures.1 (problem_of _ _ _ c.begin_run.ensures c.requires.problem) c.in_err-take_units.ensures.forces

pub returns-in_err-take_units-clause-fails : goal.returns-in_err-take_units-clause-fails
returns-in_err-take_units-clause-fails g c = fails_where_emptied _ _ _ _ _ _ _ _ c.from_residual.ensures.1 (problem_of _ _ _ c.begin_run.ensures c.requires.problem) c.in_err-take_units.ensures.none

pub returns-in_err-take_units-clause-acted : goal.returns-in_err-take_units-clause-acted
returns-in_err-take_units-clause-acted g c = acted_failed _ _ _ _ c.from_residual.ensures.1

pub returns-in_err-take_units-clause-guesses : goal.returns-in_err-take_units-clause-guesses
returns-in_err-take_units-clause-guesses g c = c.in_err-take_units.ensures.guesses

pub returns-in_err-take_units-clause-left : goal.returns-in_err-take_units-clause-left
returns-in_err-take_units-clause-left g c = leaves_on _ c.args.d.now c.take_units.new.d _ c.in_err-take_units.ensures.forces.0.less c.requires.left

pub returns-in_err-take_units-clause-fewer : goal.returns-in_err-take_units-clause-fewer
returns-in_err-take_units-clause-fewer g c = fewer_none c.args.undecided.now

pub propagate-requires-clause-problem : goal.propagate-requires-clause-problem
propagate-requires-clause-problem g c = problem_of _ _ _ c.begin_run.ensures c.requires.problem

pub propagate-requires-clause-left : goal.propagate-requires-clause-left
propagate-requires-clause-left g c = leaves_on _ c.args.d.now c.take_units.new.d _ c.in_ok-take_units.ensures.forces.narrows.less c.requires.left
