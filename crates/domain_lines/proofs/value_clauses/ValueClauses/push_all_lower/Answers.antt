use Rattle.std.proofs.Common.{◌+◌, ◌++◌, ℕ, List, take, subst}
use Rattle.log_growth.specs.Frames.{Goes}
use Rattle.log_growth.proofs.Going.{goes_then, goes_as}
use Rattle.domain_lines.specs.Given.{HasPairs, ArePushed, pairs_with}
use Rattle.domain_lines.proofs.Crowds.{with_more, take_whole}
use Rattle.domain_lines.proofs.Composing.{pushed_err, frame_for_moved, pairs_stay}
use Rattle.journals.proofs.Rests.{rest_same, rest_then}
use Rattle.domain_lines.proofs.value_clauses.ValueClauses.push_all_lower.Goals as goal

pub loop-w-init : goal.loop-w-init
loop-w-init g c = record {
  goes = λ v pairs frame. pairs_stay v c.args.self.now (g.K.Keeper.kept c.args.keeper.now) c.args.refs.now.items pairs c.args.units.now;
  fits = c.requires.fits;
  rest = rest_same;
}

pub push_lower-requires-clause-fits : goal.push_lower-requires-clause-fits
push_lower-requires-clause-fits g c = c.loop-w.invariant.fits

pub loop-w-preserved : goal.loop-w-preserved
loop-w-preserved g c = record {
  goes = λ v pairs frame.
      goes_then v (g.K.Keeper.kept c.args.keeper.now) (g.K.Keeper.kept c.loop-w.keeper) (g.K.Keeper.kept c.push_lower.new.keeper) (HasPairs v c.args.self.now c.args.refs.now.items pairs c.args.units.now) (HasPairs v c.args.self.now c.loop-w.refs.items (pairs ++ pairs_with c.args.r (take c.loop-w.w-index c.args.lower.now)) c.loop-w.units)
      (HasPairs v c.args.self.now c.push_lower.new.refs.items (pairs ++ pairs_with c.args.r (take (c.loop-w.w-index + 1) c.args.lower.now)) c.push_lower.new.units)
      (c.loop-w.invariant.goes v pairs frame)
      (subst (λ (ps : List (ℕ × ℕ)). Goes v (g.K.Keeper.kept c.loop-w.keeper) (g.K.Keeper.kept c.push_lower.new.keeper) (HasPairs v c.args.self.now c.loop-w.refs.items (pairs ++ pairs_with c.args.r (take c.loop-w.w-index c.args.lower.now)) c.loop-w.units) (HasPairs v c.args.self.now c.push_lower.new.refs.items ps c.push_lower.new.units)) (with_more c.args.self.now pairs c.args.r c.args.lower.now c.loop-w.w-index c.loop-w-test.true)
      (c.in_ok-push_lower.ensures.goes v (pairs ++ pairs_with c.args.r (take c.loop-w.w-index c.args.lower.now)) (frame_for_moved c.args.self.now (g.K.Keeper.owner c.args.keeper.now) (g.K.Keeper.owner c.loop-w.keeper) v c.loop-w.invariant.rest.owner frame)));
  fits = c.in_ok-push_lower.ensures.fits;
  rest = rest_then c.loop-w.invariant.rest c.in_ok-push_lower.ensures.rest;
}

pub returns-in_err-push_lower-clause-goes : goal.returns-in_err-push_lower-clause-goes
returns-in_err-push_lower-clause-goes g c = λ v pairs frame.
    goes_then v (g.K.Keeper.kept c.args.keeper.now) (g.K.Keeper.kept c.loop-w.keeper) (g.K.Keeper.kept c.push_lower.new.keeper) (HasPairs v c.args.self.now c.args.refs.now.items pairs c.args.units.now) (HasPairs v c.args.self.now c.loop-w.refs.items (pairs ++ pairs_with c.args.r (take c.loop-w.w-index c.args.lower.now)) c.loop-w.units) (ArePushed v c.args.self.now c.from_residual.result c.push_lower.new.refs.items (pairs ++ pairs_with c.args.r (c.args.lower.now)) c.push_lower.new.units)
    (c.loop-w.invariant.goes v pairs frame)
    (goes_as v (g.K.Keeper.kept c.loop-w.keeper) (g.K.Keeper.kept c.push_lower.new.keeper) (HasPairs v c.args.self.now c.loop-w.refs.items (pairs ++ pairs_with c.args.r (take c.loop-w.w-index c.args.lower.now)) c.loop-w.units) (ArePushed v c.args.self.now c.push_lower.result c.push_lower.new.refs.items _ c.push_lower.new.units) (HasPairs v c.args.self.now c.loop-w.refs.items (pairs ++ pairs_with c.args.r (take c.loop-w.w-index c.args.lower.now)) c.loop-w.units)
    (ArePushed v c.args.self.now c.from_residual.result c.push_lower.new.refs.items (pairs ++ pairs_with c.args.r (c.args.lower.now)) c.push_lower.new.units)
    (λ forms has. has) (λ forms has. pushed_err v c.args.self.now c.from_residual.result c.push_lower.new.refs.items (pairs ++ pairs_with c.args.r (c.args.lower.now)) c.push_lower.new.units forms c.from_residual.ensures.0)
    (c.push_lower.ensures.goes v (pairs ++ pairs_with c.args.r (take c.loop-w.w-index c.args.lower.now)) (frame_for_moved c.args.self.now (g.K.Keeper.owner c.args.keeper.now) (g.K.Keeper.owner c.loop-w.keeper) v c.loop-w.invariant.rest.owner frame)))

pub returns-clause-goes : goal.returns-clause-goes
returns-clause-goes g c = λ v pairs frame.
    subst (λ (xs : List ℕ). Goes v (g.K.Keeper.kept c.args.keeper.now) (g.K.Keeper.kept c.loop-w.keeper) (HasPairs v c.args.self.now c.args.refs.now.items pairs c.args.units.now) (HasPairs v c.args.self.now c.loop-w.refs.items (pairs ++ pairs_with c.args.r (xs)) c.loop-w.units)) (take_whole c.args.lower.now c.loop-w.w-index c.loop-w-test.false)
    (c.loop-w.invariant.goes v pairs frame)
