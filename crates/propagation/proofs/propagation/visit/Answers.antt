use Rattle.std.proofs.Common.{◌≡◌, ℕ, ◌<◌, true, false, List, Option, refl, sym, slice_set, subst, arith}
use Rattle.graph_theory.specs.Graph.{size}
use Rattle.graph_theory.specs.Embedding.{Problem}
use Rattle.propagation.specs.Acting.{WatchesWait, WatchesWaitBut}
use Rattle.propagation.specs.Learning.{AreKept}
use Rattle.propagation.specs.Propagation.{Settles, Shrinks}
use Rattle.propagation.proofs.Acting.{kept_then, moved_none, moved_more, wait_but_on, wait_but_lowered, wait_two}
use Rattle.propagation.proofs.Past.{leaves_on, leaves_one, fewer_none, fewer_one, past_visited}
use Rattle.propagation.proofs.Failing.{visited_failed, fails_where_emptied, fails_as, waits_failed}
use Rattle.propagation.proofs.Visits.{single_of, two_of, visited_two, visited_empty}
use Rattle.propagation.proofs.Forcing.{visited_settled_forced}
use Rattle.std.proofs.lemmas.Result.{err_from_is_err_and}
use Rattle.domain_bits.specs.Removals.{State}
use Rattle.nogood_watch.specs.Nogoods as watched
use Rattle.recorder.specs.Recording.{Change}
use Rattle.recorder.specs.Telling.{Tells, TellsOn}
use Rattle.recorder.proofs.Telling.{tells_of, tells_on_of}
use Rattle.recorder.proofs.Guesses.{guesses_more}
use Rattle.propagation.proofs.propagation.visit.Goals as goal

pub returns-then-size-eq0-clause-visited : goal.returns-then-size-eq0-clause-visited
returns-then-size-eq0-clause-visited g c = visited_empty _ _ c.args.waiting.now c.args.waiting.now c.args.p c.requires.p_in (c.size.ensures.empty.0 c.if-size-eq0.true)

pub returns-in_err-force-in-Some-clause-visited : goal.returns-in_err-force-in-Some-clause-visited
returns-in_err-force-in-Some-clause-visited g c =
    let p = err_from_is_err_and c.from_residual-in_err-force-in-Some.result c.from_residual-in_err-force-in-Some.ensures.1 in
    rw p.1 (visited_settled_forced false _ _ c.args.d.now c.settle.new.d _ c.args.waiting.now c.settle.new.waiting c.force.new.waiting _ _ c.make.ensures.problem c.requires.ready c.requires.waits
    (single_of _ _ _ c.in-Some.ensures.some)
    (subst (λ (x : ℕ). Settles true c.make.new.self.problem c.args.d.now (slice_set c.args.waiting.now x false) c.settle.new.d c.settle.new.waiting c.args.p c.in-Some.t) c.from.ensures c.in_ok-settle-in-Some.ensures.settles)
    c.in_err-force-in-Some.ensures.forces)

pub returns-in_err-force-in-Some-clause-left : goal.returns-in_err-force-in-Some-clause-left
returns-in_err-force-in-Some-clause-left g c =
    leaves_on _ c.args.d.now c.force.new.d _ (λ r u h. c.in_ok-settle-in-Some.ensures.settles.shrinks.narrows.less r u (c.in_err-force-in-Some.ensures.forces.0.less r u h)) c.requires.left

pub returns-in_ok-force-in-Some-clause-visited : goal.returns-in_ok-force-in-Some-clause-visited
returns-in_ok-force-in-Some-clause-visited g c =
    visited_settled_forced true _ _ c.args.d.now c.settle.new.d _ c.args.waiting.now c.settle.new.waiting _ _ _ c.make.ensures.problem c.requires.ready c.requires.waits
    (single_of _ _ _ c.in-Some.ensures.some)
    (subst (λ (x : ℕ). Settles true c.make.new.self.problem c.args.d.now (slice_set c.args.waiting.now x false) c.settle.new.d c.settle.new.waiting c.args.p c.in-Some.t) c.from.ensures c.in_ok-settle-in-Some.ensures.settles)
    c.in_ok-force-in-Some.ensures.forces

pub returns-in_ok-force-in-Some-clause-left : goal.returns-in_ok-force-in-Some-clause-left
returns-in_ok-force-in-Some-clause-left g c =
    leaves_one _ c.force.new.d c.args.undecided.now _ _ c.args.p (leaves_on _ c.args.d.now c.force.new.d _ (returns-in_ok-force-in-Some-clause-visited g c).0.less c.requires.left)
    (past_visited _ _ c.args.d.now c.settle.new.d c.force.new.d _ c.settle.new.waiting c.force.new.waiting c.args.p _ c.make.ensures.problem (single_of _ _ _ c.in-Some.ensures.some)
    c.in_ok-settle-in-Some.ensures.settles c.in_ok-force-in-Some.ensures.forces)
    c.remove.ensures.after

pub returns-in_ok-force-in-Some-clause-fewer : goal.returns-in_ok-force-in-Some-clause-fewer
returns-in_ok-force-in-Some-clause-fewer g c = fewer_one c.args.undecided.now _ _ c.args.p c.remove.ensures.after

pub returns-else-size-eq0-clause-visited : goal.returns-else-size-eq0-clause-visited
returns-else-size-eq0-clause-visited g c =
    rw c.from.ensures (visited_two _ _ _ _ c.requires.ready c.requires.waits (two_of _ _ _ c.size.ensures.size (λ none. omega arith) c.in-None.ensures.none))

pub returns-then-size-eq0-clause-moved : goal.returns-then-size-eq0-clause-moved
returns-then-size-eq0-clause-moved g c = moved_none _ c.args.d.now c.args.nogoods.now c.requires.kept

pub returns-in_err-settle-in-Some-clause-moved : goal.returns-in_err-settle-in-Some-clause-moved
returns-in_err-settle-in-Some-clause-moved g c = moved_none _ c.args.d.now c.args.nogoods.now c.requires.kept

pub force-requires-clause-some : goal.force-requires-clause-some
force-requires-clause-some g c p p_in =
    c.in_ok-settle-in-Some.ensures.settles.shrinks.some p (c.requires.ready.some p (subst (λ (q : Problem). p < size q.pattern) c.make.ensures.problem p_in))

pub force-requires-clause-wait : goal.force-requires-clause-wait
force-requires-clause-wait g c =
    let settled = subst (λ (x : ℕ). Settles true c.make.new.self.problem c.args.d.now (slice_set c.args.waiting.now x false) c.settle.new.d c.settle.new.waiting c.args.p c.in-Some.t) c.from.ensures c.in_ok-settle-in-Some.ensures.settles in
    let shrinks = subst (λ (q : Problem). Shrinks q c.args.d.now (slice_set c.args.waiting.now c.args.p false) c.settle.new.d c.settle.new.waiting) c.make.ensures.problem settled.shrinks in
    kept_then _ c.args.nogoods.now (WatchesWait c.args.d.now c.args.waiting.now) (WatchesWaitBut c.settle.new.d c.settle.new.waiting c.args.p) c.requires.kept
    (λ s are w. wait_but_on _ c.args.d.now c.settle.new.d (slice_set c.args.waiting.now c.args.p false) c.settle.new.waiting c.args.p s shrinks are (wait_but_lowered c.args.d.now c.args.waiting.now c.args.p s w))
    c.requires.wait

pub returns-in_err-force-in-Some-clause-moved : goal.returns-in_err-force-in-Some-clause-moved
returns-in_err-force-in-Some-clause-moved g c =
    moved_more c.args.d.now c.settle.new.d c.args.nogoods.now c.args.nogoods.now c.force.new.nogoods c.in_ok-settle-in-Some.ensures.settles.shrinks.narrows.less (moved_none _ c.args.d.now c.args.nogoods.now c.requires.kept) c.in_err-force-in-Some.ensures.moved

pub returns-in_ok-force-in-Some-clause-moved : goal.returns-in_ok-force-in-Some-clause-moved
returns-in_ok-force-in-Some-clause-moved g c =
    moved_more c.args.d.now c.settle.new.d c.args.nogoods.now c.args.nogoods.now c.force.new.nogoods c.in_ok-settle-in-Some.ensures.settles.shrinks.narrows.less (moved_none _ c.args.d.now c.args.nogoods.now c.requires.kept) c.in_ok-force-in-Some.ensures.moved

pub returns-else-size-eq0-clause-wait : goal.returns-else-size-eq0-clause-wait
returns-else-size-eq0-clause-wait g c =
    rw c.from.ensures (kept_then _ c.args.nogoods.now (WatchesWait c.args.d.now c.args.waiting.now) (WatchesWait c.args.d.now (slice_set c.args.waiting.now c.args.p false)) c.requires.kept
    (λ s are w. wait_two c.args.d.now c.args.waiting.now c.args.p s (two_of _ _ _ c.size.ensures.size (λ none. omega arith) c.in-None.ensures.none) w) c.requires.wait)

pub returns-else-size-eq0-clause-moved : goal.returns-else-size-eq0-clause-moved
returns-else-size-eq0-clause-moved g c = moved_none _ c.args.d.now c.args.nogoods.now c.requires.kept

pub returns-in_err-settle-in-Some-clause-told : goal.returns-in_err-settle-in-Some-clause-told
returns-in_err-settle-in-Some-clause-told g c t = tells_on_of _ _ c.args.d.now _ c.settle.new.d _ c.make.ensures.problem c.in_err-settle-in-Some.ensures.told c.args.nogoods.now t

-- what was told by the consequences and then by the nogoods
told_then : (q r : Problem) (n m : Option watched.State) (old mid new : State) (before between after : Option (List Change)) → r ≡ q → TellsOn r old before mid between
    → (Tells r n mid between → Tells r m new after) → Tells q n old before → Tells q m new after
told_then q r n m old mid new before between after is on forced t = tells_of r q m new after (sym is) (forced (on n (tells_of q r n old before is t)))

pub returns-in_err-force-in-Some-clause-told : goal.returns-in_err-force-in-Some-clause-told
returns-in_err-force-in-Some-clause-told g c t =
    told_then _ _ c.args.nogoods.now c.force.new.nogoods c.args.d.now c.settle.new.d c.force.new.d _ _ _ c.make.ensures.problem c.in_ok-settle-in-Some.ensures.told c.in_err-force-in-Some.ensures.told t

pub returns-in_ok-force-in-Some-clause-told : goal.returns-in_ok-force-in-Some-clause-told
returns-in_ok-force-in-Some-clause-told g c t =
    told_then _ _ c.args.nogoods.now c.force.new.nogoods c.args.d.now c.settle.new.d c.force.new.d _ _ _ c.make.ensures.problem c.in_ok-settle-in-Some.ensures.told c.in_ok-force-in-Some.ensures.told t

pub returns-in_err-force-in-Some-clause-guesses : goal.returns-in_err-force-in-Some-clause-guesses
returns-in_err-force-in-Some-clause-guesses g c = guesses_more _ _ _ c.in_ok-settle-in-Some.ensures.guesses c.in_err-force-in-Some.ensures.guesses

pub returns-in_ok-force-in-Some-clause-guesses : goal.returns-in_ok-force-in-Some-clause-guesses
returns-in_ok-force-in-Some-clause-guesses g c = guesses_more _ _ _ c.in_ok-settle-in-Some.ensures.guesses c.in_ok-force-in-Some.ensures.guesses

pub returns-then-size-eq0-clause-problem : goal.returns-then-size-eq0-clause-problem
returns-then-size-eq0-clause-problem g c = refl

pub returns-then-size-eq0-clause-kept : goal.returns-then-size-eq0-clause-kept
returns-then-size-eq0-clause-kept g c = c.requires.kept

pub returns-then-size-eq0-clause-wait : goal.returns-then-size-eq0-clause-wait
returns-then-size-eq0-clause-wait g c = tt

pub returns-then-size-eq0-clause-fails : goal.returns-then-size-eq0-clause-fails
returns-then-size-eq0-clause-fails g c = (c.requires.p_in, c.size.ensures.empty.0 c.if-size-eq0.true)

pub returns-then-size-eq0-clause-told : goal.returns-then-size-eq0-clause-told
returns-then-size-eq0-clause-told g c t = t

pub returns-then-size-eq0-clause-guesses : goal.returns-then-size-eq0-clause-guesses
returns-then-size-eq0-clause-guesses g c p t from h = h

pub returns-then-size-eq0-clause-left : goal.returns-then-size-eq0-clause-left
returns-then-size-eq0-clause-left g c = c.requires.left

pub returns-then-size-eq0-clause-fewer : goal.returns-then-size-eq0-clause-fewer
returns-then-size-eq0-clause-fewer g c = fewer_none c.args.undecided.now

pub returns-else-size-eq0-clause-problem : goal.returns-else-size-eq0-clause-problem
returns-else-size-eq0-clause-problem g c = refl

pub returns-else-size-eq0-clause-kept : goal.returns-else-size-eq0-clause-kept
returns-else-size-eq0-clause-kept g c = c.requires.kept

pub returns-else-size-eq0-clause-fails : goal.returns-else-size-eq0-clause-fails
returns-else-size-eq0-clause-fails g c = tt

pub returns-else-size-eq0-clause-told : goal.returns-else-size-eq0-clause-told
returns-else-size-eq0-clause-told g c t = t

pub returns-else-size-eq0-clause-guesses : goal.returns-else-size-eq0-clause-guesses
returns-else-size-eq0-clause-guesses g c p t from h = h

pub returns-else-size-eq0-clause-left : goal.returns-else-size-eq0-clause-left
returns-else-size-eq0-clause-left g c = c.requires.left

pub returns-else-size-eq0-clause-fewer : goal.returns-else-size-eq0-clause-fewer
returns-else-size-eq0-clause-fewer g c = fewer_none c.args.undecided.now

pub returns-in_err-settle-in-Some-clause-problem : goal.returns-in_err-settle-in-Some-clause-problem
returns-in_err-settle-in-Some-clause-problem g c = c.make.ensures.problem

pub returns-in_err-settle-in-Some-clause-kept : goal.returns-in_err-settle-in-Some-clause-kept
returns-in_err-settle-in-Some-clause-kept g c = c.requires.kept

pub returns-in_err-settle-in-Some-clause-wait : goal.returns-in_err-settle-in-Some-clause-wait
returns-in_err-settle-in-Some-clause-wait g c = waits_failed _ _ _ _ _ c.from_residual.ensures.1

pub returns-in_err-settle-in-Some-clause-visited : goal.returns-in_err-settle-in-Some-clause-visited
returns-in_err-settle-in-Some-clause-visited g c = visited_failed _ _ _ _ _ _ _ _ c.from_residual.ensures.1 c.make.ensures.problem c.in_err-settle-in-Some.ensures.settles

pub returns-in_err-settle-in-Some-clause-fails : goal.returns-in_err-settle-in-Some-clause-fails
returns-in_err-settle-in-Some-clause-fails g c = fails_where_emptied _ _ _ _ _ _ _ _ c.from_residual.ensures.1 c.make.ensures.problem c.in_err-settle-in-Some.ensures.none

pub returns-in_err-settle-in-Some-clause-guesses : goal.returns-in_err-settle-in-Some-clause-guesses
returns-in_err-settle-in-Some-clause-guesses g c = c.in_err-settle-in-Some.ensures.guesses

pub returns-in_err-settle-in-Some-clause-left : goal.returns-in_err-settle-in-Some-clause-left
returns-in_err-settle-in-Some-clause-left g c = leaves_on _ c.args.d.now c.settle.new.d _ c.in_err-settle-in-Some.ensures.settles.0.less c.requires.left

pub returns-in_err-settle-in-Some-clause-fewer : goal.returns-in_err-settle-in-Some-clause-fewer
returns-in_err-settle-in-Some-clause-fewer g c = fewer_none c.args.undecided.now

pub returns-in_err-force-in-Some-clause-problem : goal.returns-in_err-force-in-Some-clause-problem
returns-in_err-force-in-Some-clause-problem g c = c.make.ensures.problem

pub returns-in_err-force-in-Some-clause-kept : goal.returns-in_err-force-in-Some-clause-kept
returns-in_err-force-in-Some-clause-kept g c = subst (λ (q : Problem). AreKept q c.force.new.nogoods) c.make.ensures.problem c.in_err-force-in-Some.ensures.kept

pub returns-in_err-force-in-Some-clause-wait : goal.returns-in_err-force-in-Some-clause-wait
returns-in_err-force-in-Some-clause-wait g c = waits_failed _ _ _ _ _ c.from_residual-in_err-force-in-Some.ensures.1

pub returns-in_err-force-in-Some-clause-fails : goal.returns-in_err-force-in-Some-clause-fails
returns-in_err-force-in-Some-clause-fails g c = fails_as _ _ _ _ _ _ _ _ c.from_residual-in_err-force-in-Some.ensures.1 c.make.ensures.problem c.in_err-force-in-Some.ensures.fails

pub returns-in_err-force-in-Some-clause-fewer : goal.returns-in_err-force-in-Some-clause-fewer
returns-in_err-force-in-Some-clause-fewer g c = fewer_none c.args.undecided.now

pub returns-in_ok-force-in-Some-clause-problem : goal.returns-in_ok-force-in-Some-clause-problem
returns-in_ok-force-in-Some-clause-problem g c = c.make.ensures.problem

pub returns-in_ok-force-in-Some-clause-kept : goal.returns-in_ok-force-in-Some-clause-kept
returns-in_ok-force-in-Some-clause-kept g c = subst (λ (q : Problem). AreKept q c.force.new.nogoods) c.make.ensures.problem c.in_ok-force-in-Some.ensures.kept

pub returns-in_ok-force-in-Some-clause-wait : goal.returns-in_ok-force-in-Some-clause-wait
returns-in_ok-force-in-Some-clause-wait g c = c.in_ok-force-in-Some.ensures.wait

pub returns-in_ok-force-in-Some-clause-fails : goal.returns-in_ok-force-in-Some-clause-fails
returns-in_ok-force-in-Some-clause-fails g c = tt
