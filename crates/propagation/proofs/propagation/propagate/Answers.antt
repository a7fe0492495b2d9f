use Rattle.std.proofs.Common.{◌≡◌, true, false, List, Option, IfSome, sym, ◌∙◌, subst}
use Rattle.search_theory.specs.Claims.{Quiet}
use Rattle.graph_theory.specs.Embedding.{Problem}
use Rattle.nogood_watch.specs.InForce.{InForce}
use Rattle.propagation.specs.Acting.{WatchesWait}
use Rattle.propagation.specs.Learning.{AreKept}
use Rattle.propagation.specs.Propagation.{AreCalm, AreNeighbourhoods, TakenUp, LeavesPast, Narrows, Propagates}
use Rattle.propagation.proofs.Acting.{kept_then, moved_more, wait_pruned}
use Rattle.propagation.proofs.Past.{leaves_on, fewer_more}
use Rattle.propagation.proofs.Narrowing.{narrows_more, none_narrowed}
use Rattle.domain_bits.specs.Removals.{State, in_domain}
use Rattle.nogood_watch.specs.Nogoods as watched
use Rattle.recorder.specs.Recording.{Change}
use Rattle.recorder.specs.Telling.{Tells}
use Rattle.std.proofs.lemmas.Result.{err_from_is_err_and}
use Rattle.recorder.proofs.Telling.{tells_of}
use Rattle.recorder.proofs.Guesses.{guesses_more}
use Rattle.propagation.proofs.Failing.{fails_as, in_force_failed}
use Rattle.propagation.proofs.propagation.propagate.Goals as goal

-- what taking up tells, of the problem that is held
told_on : (q r : Problem) (n m : Option watched.State) (old new : State) (before after : Option (List Change)) → r ≡ q → (Tells r n old before → Tells r m new after) → Tells q n old before
    → Tells q m new after
told_on q r n m old new before after is on t = tells_of r q m new after (sym is) (on (tells_of q r n old before is t))

pub returns-in_err-take_up-clause-propagated : goal.returns-in_err-take_up-clause-propagated
returns-in_err-take_up-clause-propagated g c =
    let taken = subst (λ (q : Problem). TakenUp false q c.loop-d.d c.take_up.new.d) c.loop-d.invariant.problem c.in_err-take_up.ensures.taken in
    let p = err_from_is_err_and c.from_residual.result c.from_residual.ensures.1 in
    rw p.1 (narrows_more _ _ _ _ c.loop-d.invariant.narrows taken.0, none_narrowed _ _ _ c.loop-d.invariant.narrows taken.1)

pub returns-in_err-have_left-clause-propagated : goal.returns-in_err-have_left-clause-propagated
returns-in_err-have_left-clause-propagated g c =
    let taken = subst (λ (q : Problem). TakenUp true q c.loop-d.d c.take_up.new.d) c.loop-d.invariant.problem c.in_ok-take_up.ensures.taken in
    let n = narrows_more _ _ _ _ c.loop-d.invariant.narrows taken.0 in
    let p = err_from_is_err_and c.from_residual-in_err-have_left.result c.from_residual-in_err-have_left.ensures.1 in
    rw p.1 (narrows_more _ _ _ _ n c.in_err-have_left.ensures.prunes.pruned.0, none_narrowed _ _ _ n c.in_err-have_left.ensures.prunes.pruned.1)

pub loop-d-preserved : goal.loop-d-preserved
loop-d-preserved g c =
    let pruned = rw c.if-not-have_left.false at c.in_ok-have_left.ensures.prunes.pruned in
    let taken = subst (λ (q : Problem). TakenUp true q c.loop-d.d c.take_up.new.d) c.loop-d.invariant.problem c.in_ok-take_up.ensures.taken in
    let kept = subst (λ (q : Problem). AreKept q c.take_up.new.nogoods) c.loop-d.invariant.problem c.in_ok-take_up.ensures.kept in
    record {
      problem = c.in_ok-take_up.ensures.problem ∙ c.loop-d.invariant.problem;
      is_for = c.in_ok-have_left.ensures.is_for;
      near = subst (AreNeighbourhoods c.args.q.now) (sym c.in_ok-have_left.ensures.near) c.loop-d.invariant.near;
      room = c.in_ok-have_left.ensures.room;
      kept = kept;
      narrows = narrows_more _ _ _ _ (narrows_more _ _ _ _ c.loop-d.invariant.narrows taken.0) pruned.0;
      ready = pruned.1;
      left = leaves_on _ c.take_up.new.d c.filter_more.new.d _ pruned.0.less (subst (λ (q : Problem). LeavesPast q c.take_up.new.d c.take_up.new.undecided) c.loop-d.invariant.problem c.in_ok-take_up.ensures.left);
      fewer = fewer_more _ _ _ c.loop-d.invariant.fewer c.in_ok-take_up.ensures.fewer;
      wait = kept_then _ c.take_up.new.nogoods (λ s. InForce c.take_up.new.d s.watches) (WatchesWait c.filter_more.new.d c.filter_more.new.waiting) kept
          (λ s are force. wait_pruned _ c.take_up.new.d c.filter_more.new.d c.filter_more.new.waiting s pruned.0.less pruned.3 are force) c.in_ok-take_up.ensures.in_force;
      moved = moved_more _ c.loop-d.d _ _ c.take_up.new.nogoods c.loop-d.invariant.narrows.less c.loop-d.invariant.moved c.in_ok-take_up.ensures.moved;
      told = λ t. c.in_ok-have_left.ensures.prunes.told_on c.take_up.new.nogoods (told_on _ _ _ _ _ _ _ _ c.loop-d.invariant.problem c.in_ok-take_up.ensures.told (c.loop-d.invariant.told t));
      guesses = guesses_more _ _ _ c.loop-d.invariant.guesses (guesses_more _ _ _ c.in_ok-take_up.ensures.guesses c.in_ok-have_left.ensures.prunes.guesses);
    }

pub returns-in_err-take_up-clause-told : goal.returns-in_err-take_up-clause-told
returns-in_err-take_up-clause-told g c t = told_on _ _ _ _ _ _ _ _ c.loop-d.invariant.problem c.in_err-take_up.ensures.told (c.loop-d.invariant.told t)

pub returns-in_err-have_left-clause-told : goal.returns-in_err-have_left-clause-told
returns-in_err-have_left-clause-told g c t =
    c.in_err-have_left.ensures.prunes.told_on c.take_up.new.nogoods (told_on _ _ _ _ _ _ _ _ c.loop-d.invariant.problem c.in_ok-take_up.ensures.told (c.loop-d.invariant.told t))

pub returns-then-not-have_left-clause-told : goal.returns-then-not-have_left-clause-told
returns-then-not-have_left-clause-told g c t =
    c.in_ok-have_left.ensures.prunes.told_on c.take_up.new.nogoods (told_on _ _ _ _ _ _ _ _ c.loop-d.invariant.problem c.in_ok-take_up.ensures.told (c.loop-d.invariant.told t))

pub returns-in_err-take_up-clause-moved : goal.returns-in_err-take_up-clause-moved
returns-in_err-take_up-clause-moved g c =
    moved_more c.args.d.now c.loop-d.d c.args.filters.now.nogoods c.loop-d.filters-inside.nogoods c.take_up.new.nogoods c.loop-d.invariant.narrows.less c.loop-d.invariant.moved c.in_err-take_up.ensures.moved

pub returns-then-not-have_left-clause-moved : goal.returns-then-not-have_left-clause-moved
returns-then-not-have_left-clause-moved g c =
    moved_more c.args.d.now c.loop-d.d c.args.filters.now.nogoods c.loop-d.filters-inside.nogoods c.take_up.new.nogoods c.loop-d.invariant.narrows.less c.loop-d.invariant.moved c.in_ok-take_up.ensures.moved

pub returns-in_err-have_left-clause-moved : goal.returns-in_err-have_left-clause-moved
returns-in_err-have_left-clause-moved g c =
    moved_more c.args.d.now c.loop-d.d c.args.filters.now.nogoods c.loop-d.filters-inside.nogoods c.take_up.new.nogoods c.loop-d.invariant.narrows.less c.loop-d.invariant.moved c.in_ok-take_up.ensures.moved

pub returns-in_err-have_left-clause-left : goal.returns-in_err-have_left-clause-left
returns-in_err-have_left-clause-left g c =
    leaves_on _ c.take_up.new.d c.filter_more.new.d _ c.in_err-have_left.ensures.prunes.pruned.0.less (subst (λ (q : Problem). LeavesPast q c.take_up.new.d c.take_up.new.undecided) c.loop-d.invariant.problem c.in_ok-take_up.ensures.left)

pub returns-in_err-have_left-clause-fails : goal.returns-in_err-have_left-clause-fails
returns-in_err-have_left-clause-fails g c =
    let p = err_from_is_err_and c.from_residual-in_err-have_left.result c.from_residual-in_err-have_left.ensures.1 in
    rw (p.1, p.2) (c.in_err-have_left.ensures.prunes.fails c.take_up.new.nogoods)

pub returns-in_err-take_up-clause-guesses : goal.returns-in_err-take_up-clause-guesses
returns-in_err-take_up-clause-guesses g c = guesses_more _ _ _ c.loop-d.invariant.guesses c.in_err-take_up.ensures.guesses

pub returns-in_err-have_left-clause-guesses : goal.returns-in_err-have_left-clause-guesses
returns-in_err-have_left-clause-guesses g c =
    guesses_more _ _ _ c.loop-d.invariant.guesses (guesses_more _ _ _ c.in_ok-take_up.ensures.guesses c.in_err-have_left.ensures.prunes.guesses)

pub returns-then-not-have_left-clause-guesses : goal.returns-then-not-have_left-clause-guesses
returns-then-not-have_left-clause-guesses g c =
    guesses_more _ _ _ c.loop-d.invariant.guesses (guesses_more _ _ _ c.in_ok-take_up.ensures.guesses c.in_ok-have_left.ensures.prunes.guesses)

-- ---- where nothing is left to be taken

propagated_calm : (q : Problem) (old mid up new : State) → Narrows q old mid → Narrows q mid up → Quiet q (in_domain up) → new ≡ up → AreCalm q new → Propagates true q old new
propagated_calm q old mid up new before after quiet same calm = (
  subst (λ (d : State). Narrows q old d) (sym same) (narrows_more q old mid up before after),
  subst (λ (d : State). Quiet q (in_domain d)) (sym same) quiet,
  calm,
)

pub returns-in_err-take_up-clause-problem : goal.returns-in_err-take_up-clause-problem
returns-in_err-take_up-clause-problem g c = c.in_err-take_up.ensures.problem ∙ c.loop-d.invariant.problem

pub returns-in_err-take_up-clause-fails : goal.returns-in_err-take_up-clause-fails
returns-in_err-take_up-clause-fails g c = fails_as _ _ _ _ _ _ _ _ c.from_residual.ensures.1 c.loop-d.invariant.problem c.in_err-take_up.ensures.fails

pub returns-in_err-take_up-clause-in_force : goal.returns-in_err-take_up-clause-in_force
returns-in_err-take_up-clause-in_force g c = in_force_failed _ _ _ _ c.from_residual.ensures.1

pub returns-in_err-take_up-clause-left : goal.returns-in_err-take_up-clause-left
returns-in_err-take_up-clause-left g c = subst (λ (q : Problem). LeavesPast q c.take_up.new.d c.take_up.new.undecided) c.loop-d.invariant.problem c.in_err-take_up.ensures.left

pub returns-in_err-take_up-clause-fewer : goal.returns-in_err-take_up-clause-fewer
returns-in_err-take_up-clause-fewer g c = fewer_more _ _ _ c.loop-d.invariant.fewer c.in_err-take_up.ensures.fewer

pub returns-in_err-have_left-clause-problem : goal.returns-in_err-have_left-clause-problem
returns-in_err-have_left-clause-problem g c = c.in_ok-take_up.ensures.problem ∙ c.loop-d.invariant.problem

pub returns-in_err-have_left-clause-in_force : goal.returns-in_err-have_left-clause-in_force
returns-in_err-have_left-clause-in_force g c = in_force_failed _ _ _ _ c.from_residual-in_err-have_left.ensures.1

pub returns-in_err-have_left-clause-fewer : goal.returns-in_err-have_left-clause-fewer
returns-in_err-have_left-clause-fewer g c = fewer_more _ _ _ c.loop-d.invariant.fewer c.in_ok-take_up.ensures.fewer

pub returns-then-not-have_left-clause-problem : goal.returns-then-not-have_left-clause-problem
returns-then-not-have_left-clause-problem g c = c.in_ok-take_up.ensures.problem ∙ c.loop-d.invariant.problem

pub returns-then-not-have_left-clause-fails : goal.returns-then-not-have_left-clause-fails
returns-then-not-have_left-clause-fails g c = tt

pub returns-then-not-have_left-clause-fewer : goal.returns-then-not-have_left-clause-fewer
returns-then-not-have_left-clause-fewer g c = fewer_more _ _ _ c.loop-d.invariant.fewer c.in_ok-take_up.ensures.fewer

pub returns-then-not-have_left-clause-propagated : goal.returns-then-not-have_left-clause-propagated
returns-then-not-have_left-clause-propagated g c =
    let pruned = rw c.if-not-have_left.true at c.in_ok-have_left.ensures.prunes.pruned in
    let taken = subst (λ (q : Problem). TakenUp true q c.loop-d.d c.take_up.new.d) c.loop-d.invariant.problem c.in_ok-take_up.ensures.taken in
    propagated_calm _ c.args.d.now c.loop-d.d c.take_up.new.d _ c.loop-d.invariant.narrows taken.0 taken.1 pruned.0 pruned.1

pub returns-then-not-have_left-clause-in_force : goal.returns-then-not-have_left-clause-in_force
returns-then-not-have_left-clause-in_force g c =
    let pruned = rw c.if-not-have_left.true at c.in_ok-have_left.ensures.prunes.pruned in
    subst (λ (d : State). IfSome c.take_up.new.nogoods (λ s. InForce d s.watches)) (sym pruned.0) c.in_ok-take_up.ensures.in_force

pub returns-then-not-have_left-clause-left : goal.returns-then-not-have_left-clause-left
returns-then-not-have_left-clause-left g c =
    let pruned = rw c.if-not-have_left.true at c.in_ok-have_left.ensures.prunes.pruned in
    subst (λ (d : State). LeavesPast c.args.q.now d c.take_up.new.undecided) (sym pruned.0)
    (subst (λ (q : Problem). LeavesPast q c.take_up.new.d c.take_up.new.undecided) c.loop-d.invariant.problem c.in_ok-take_up.ensures.left)
