use Rattle.std.proofs.Common.{Bool, List, IfSome, Option, None, ap, subst, sym, ◌∙◌}
use Rattle.propagation.specs.Learning.{Filtering}
use Rattle.propagation.specs.Acting.{WatchesWait}
use Rattle.restart_search.proofs.Moments.{still_unlearned}
use Rattle.restart_search.proofs.Beginning.{roots_of, begun_ready}
use Rattle.nogood_watch.specs.Nogoods as watched
use Rattle.recorder.specs.Telling.{Tells}
use Rattle.propagation.specs.Propagation.{Ready}
use Rattle.restart_search.proofs.Written.{written}
use Rattle.restart_search.proofs.root.settle_root.Goals as goal

pub returns-clause-roots : goal.returns-clause-roots
returns-clause-roots g c = roots_of _ _ _ _ _ _ c.requires.is_full c.in_ok-begin.ensures.begins c.propagate.ensures.propagated

pub propagate-requires-clause-wait : goal.propagate-requires-clause-wait
propagate-requires-clause-wait g c = subst (λ (f : Filtering). IfSome f.nogoods (WatchesWait c.begin.new.d c.deref_mut-3.result.now)) (sym c.requires.filters) tt

pub returns-clause-filters : goal.returns-clause-filters
returns-clause-filters g c =
    still_unlearned c.begin.new.d c.args.filters.now c.propagate.new.filters c.args.q.now c.requires.filters c.propagate.ensures.problem c.propagate.ensures.moved

pub propagate-requires-clause-ready : goal.propagate-requires-clause-ready
propagate-requires-clause-ready g c =
    let begins = c.in_ok-begin.ensures.begins in
    subst (λ (ws : List Bool). Ready c.args.q.now c.begin.new.d ws) (sym (c.deref_mut-3.ensures.value ∙ written _ _ _ (begins.long ∙ sym c.requires.long ∙ sym c.args.room.now.waiting.ok.0)))
    (begun_ready _ _ _ _ begins)

pub returns-in_err-begin-clause-told : goal.returns-in_err-begin-clause-told
returns-in_err-begin-clause-told g c t = c.in_err-begin.ensures.told None t

pub returns-clause-told : goal.returns-clause-told
returns-clause-told g c t =
    let still = still_unlearned c.begin.new.d c.args.filters.now c.propagate.new.filters c.args.q.now c.requires.filters c.propagate.ensures.problem c.propagate.ensures.moved in
    subst (λ (n : Option watched.State). Tells c.args.q.now n c.propagate.new.d (g.R.Recorder.changes c.propagate.new.told)) (ap (λ (f : Filtering). f.nogoods) still)
    (c.propagate.ensures.told
    (subst (λ (n : Option watched.State). Tells c.args.q.now n c.begin.new.d (g.R.Recorder.changes c.begin.new.told)) (sym (ap (λ (f : Filtering). f.nogoods) c.requires.filters)) (c.in_ok-begin.ensures.told None t)))
