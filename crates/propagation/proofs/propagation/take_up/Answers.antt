use Rattle.std.proofs.Common.{refl, sym, true, false, subst, ◌∙◌}
use Rattle.graph_theory.specs.Embedding.{Problem}
use Rattle.nogood_watch.specs.InForce.{InForce}
use Rattle.propagation.specs.Learning.{AreKept}
use Rattle.propagation.specs.Acting.{WatchesWait}
use Rattle.propagation.specs.Propagation.{Ready, Visited, LeavesPast}
use Rattle.search_theory.specs.Claims.{First}
use Rattle.domain_bits.specs.Removals.{in_domain}
use Rattle.propagation.proofs.Failing.{fails_as, in_force_failed}
use Rattle.propagation.proofs.Acting.{kept_then, moved_none, moved_more, force_where_none_waits}
use Rattle.propagation.proofs.Past.{fewer_none, fewer_more}
use Rattle.propagation.proofs.Narrowing.{narrows_none, narrows_more, none_narrowed}
use Rattle.propagation.proofs.Waiting.{first_on, quiet_where_none_waits}
use Rattle.std.proofs.lemmas.Result.{err_from_is_err_and}
use Rattle.recorder.proofs.Telling.{tells_of}
use Rattle.recorder.proofs.Guesses.{guesses_more}
use Rattle.propagation.proofs.propagation.take_up.Goals as goal

pub returns-in_err-visit-clause-taken : goal.returns-in_err-visit-clause-taken
returns-in_err-visit-clause-taken g c =
    let v = subst (λ (q : Problem). Visited false q c.loop-p.d c.loop-p.waiting c.visit.new.d c.visit.new.waiting) c.loop-p.invariant.problem c.in_err-visit.ensures.visited in
    let p = err_from_is_err_and c.from_residual.result c.from_residual.ensures.1 in
    rw p.1 (narrows_more _ _ _ _ c.loop-p.invariant.narrows v.0, none_narrowed _ _ _ c.loop-p.invariant.narrows v.1)

pub returns-clause-taken : goal.returns-clause-taken
returns-clause-taken g c = (
  c.loop-p.invariant.narrows,
  quiet_where_none_waits _ c.loop-p.d c.loop-p.waiting c.loop-p.invariant.ready (first_on _ c.args.d.now c.loop-p.d c.loop-p.invariant.narrows.less c.requires.first) c.in_default.ensures.none,
)

pub returns-in_err-visit-clause-moved : goal.returns-in_err-visit-clause-moved
returns-in_err-visit-clause-moved g c =
    moved_more c.args.d.now c.loop-p.d c.args.nogoods.now c.loop-p.nogoods c.visit.new.nogoods c.loop-p.invariant.narrows.less c.loop-p.invariant.moved c.in_err-visit.ensures.moved

pub returns-clause-in_force : goal.returns-clause-in_force
returns-clause-in_force g c =
    kept_then _ c.loop-p.nogoods (WatchesWait c.loop-p.d c.loop-p.waiting) (λ s. InForce c.loop-p.d s.watches) c.loop-p.invariant.kept
    (λ s are w. force_where_none_waits _ c.loop-p.d c.loop-p.waiting s c.loop-p.invariant.ready.long c.in_default.ensures.none are w) c.loop-p.invariant.wait

pub loop-p-preserved : goal.loop-p-preserved
loop-p-preserved g c =
    let v = subst (λ (q : Problem). Visited true q c.loop-p.d c.loop-p.waiting c.visit.new.d c.visit.new.waiting) c.loop-p.invariant.problem c.in_ok-visit.ensures.visited in
    record {
      problem = c.in_ok-visit.ensures.problem ∙ c.loop-p.invariant.problem;
      kept = subst (λ (q : Problem). AreKept q c.visit.new.nogoods) c.loop-p.invariant.problem c.in_ok-visit.ensures.kept;
      narrows = narrows_more _ _ _ _ c.loop-p.invariant.narrows v.0;
      ready = v.1;
      left = subst (λ (q : Problem). LeavesPast q c.visit.new.d c.visit.new.undecided) c.loop-p.invariant.problem c.in_ok-visit.ensures.left;
      fewer = fewer_more _ _ _ c.loop-p.invariant.fewer c.in_ok-visit.ensures.fewer;
      wait = c.in_ok-visit.ensures.wait;
      moved = moved_more c.args.d.now c.loop-p.d c.args.nogoods.now c.loop-p.nogoods c.visit.new.nogoods c.loop-p.invariant.narrows.less c.loop-p.invariant.moved c.in_ok-visit.ensures.moved;
      told = λ t. tells_of _ c.args.rows.now.problem c.visit.new.nogoods c.visit.new.d _ (sym c.loop-p.invariant.problem)
          (c.in_ok-visit.ensures.told (tells_of c.args.rows.now.problem _ c.loop-p.nogoods c.loop-p.d _ c.loop-p.invariant.problem (c.loop-p.invariant.told t)));
      guesses = guesses_more _ _ _ c.loop-p.invariant.guesses c.in_ok-visit.ensures.guesses;
    }

pub returns-in_err-visit-clause-told : goal.returns-in_err-visit-clause-told
returns-in_err-visit-clause-told g c t =
    tells_of _ c.args.rows.now.problem c.visit.new.nogoods c.visit.new.d _ (sym c.loop-p.invariant.problem)
    (c.in_err-visit.ensures.told (tells_of c.args.rows.now.problem _ c.loop-p.nogoods c.loop-p.d _ c.loop-p.invariant.problem (c.loop-p.invariant.told t)))

pub returns-clause-told : goal.returns-clause-told
returns-clause-told g c t = c.loop-p.invariant.told t

pub returns-in_err-visit-clause-guesses : goal.returns-in_err-visit-clause-guesses
returns-in_err-visit-clause-guesses g c = guesses_more _ _ _ c.loop-p.invariant.guesses c.in_err-visit.ensures.guesses

pub returns-in_err-visit-clause-problem : goal.returns-in_err-visit-clause-problem
returns-in_err-visit-clause-problem g c = c.in_err-visit.ensures.problem ∙ c.loop-p.invariant.problem

pub returns-in_err-visit-clause-kept : goal.returns-in_err-visit-clause-kept
returns-in_err-visit-clause-kept g c = subst (λ (q : Problem). AreKept q c.visit.new.nogoods) c.loop-p.invariant.problem c.in_err-visit.ensures.kept

pub returns-in_err-visit-clause-in_force : goal.returns-in_err-visit-clause-in_force
returns-in_err-visit-clause-in_force g c = in_force_failed _ _ _ _ c.from_residual.ensures.1

pub returns-in_err-visit-clause-fails : goal.returns-in_err-visit-clause-fails
returns-in_err-visit-clause-fails g c = fails_as _ _ _ _ _ _ _ _ c.from_residual.ensures.1 c.loop-p.invariant.problem c.in_err-visit.ensures.fails

pub returns-in_err-visit-clause-left : goal.returns-in_err-visit-clause-left
returns-in_err-visit-clause-left g c = subst (λ (q : Problem). LeavesPast q c.visit.new.d c.visit.new.undecided) c.loop-p.invariant.problem c.in_err-visit.ensures.left

pub returns-in_err-visit-clause-fewer : goal.returns-in_err-visit-clause-fewer
returns-in_err-visit-clause-fewer g c = fewer_more _ _ _ c.loop-p.invariant.fewer c.in_err-visit.ensures.fewer

pub returns-clause-problem : goal.returns-clause-problem
returns-clause-problem g c = c.loop-p.invariant.problem

pub returns-clause-kept : goal.returns-clause-kept
returns-clause-kept g c = c.loop-p.invariant.kept

pub returns-clause-left : goal.returns-clause-left
returns-clause-left g c = c.loop-p.invariant.left

pub returns-clause-fewer : goal.returns-clause-fewer
returns-clause-fewer g c = c.loop-p.invariant.fewer

pub returns-clause-guesses : goal.returns-clause-guesses
returns-clause-guesses g c = c.loop-p.invariant.guesses

pub returns-clause-fails : goal.returns-clause-fails
returns-clause-fails g c = tt

pub visit-requires-clause-kept : goal.visit-requires-clause-kept
visit-requires-clause-kept g c = subst (λ (q : Problem). AreKept q c.loop-p.nogoods) (sym c.loop-p.invariant.problem) c.loop-p.invariant.kept

pub visit-requires-clause-ready : goal.visit-requires-clause-ready
visit-requires-clause-ready g c = subst (λ (q : Problem). Ready q c.loop-p.d c.loop-p.waiting) (sym c.loop-p.invariant.problem) c.loop-p.invariant.ready

pub visit-requires-clause-left : goal.visit-requires-clause-left
visit-requires-clause-left g c = subst (λ (q : Problem). LeavesPast q c.loop-p.d c.loop-p.undecided) (sym c.loop-p.invariant.problem) c.loop-p.invariant.left

pub visit-requires-clause-first : goal.visit-requires-clause-first
visit-requires-clause-first g c =
    subst (λ (q : Problem). First q (in_domain c.loop-p.d)) (sym c.loop-p.invariant.problem) (first_on _ c.args.d.now c.loop-p.d c.loop-p.invariant.narrows.less c.requires.first)

pub visit-requires-clause-wait : goal.visit-requires-clause-wait
visit-requires-clause-wait g c = c.loop-p.invariant.wait

pub loop-p-init : goal.loop-p-init
loop-p-init g c = record {
  problem = refl;
  kept = c.requires.kept;
  narrows = narrows_none _ _;
  ready = c.requires.ready;
  left = c.requires.left;
  fewer = fewer_none c.args.undecided.now;
  wait = c.requires.wait;
  moved = moved_none _ c.args.d.now c.args.nogoods.now c.requires.kept;
  told = λ t. t;
  guesses = λ p t from h. h;
}
