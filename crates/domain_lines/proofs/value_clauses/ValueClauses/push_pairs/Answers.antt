use Rattle.std.proofs.Common.{◌+◌, ◌++◌, ℕ, List, take, subst}
use Rattle.log_growth.specs.Frames.{Goes}
use Rattle.log_growth.proofs.Going.{goes_then, goes_as}
use Rattle.domain_lines.specs.Given.{HasPairs, ArePushed, all_pairs}
use Rattle.domain_lines.proofs.Crowds.{pairs_more, take_whole}
use Rattle.domain_lines.proofs.Composing.{pushed_err, frame_for_moved, pairs_stay}
use Rattle.journals.proofs.Rests.{rest_same, rest_then}
use Rattle.domain_lines.proofs.value_clauses.ValueClauses.push_pairs.Goals as goal

pub loop-r-init : goal.loop-r-init
loop-r-init g c = record {
  goes = λ v pairs frame. pairs_stay v c.args.self.now (g.K.Keeper.kept c.args.keeper.now) c.args.refs.now.items pairs c.args.units.now;
  fits = c.requires.fits;
  rest = rest_same;
}

pub push_all_lower-requires-clause-fits : goal.push_all_lower-requires-clause-fits
push_all_lower-requires-clause-fits g c = c.loop-r.invariant.fits

pub loop-r-preserved : goal.loop-r-preserved
loop-r-preserved g c = record {
  goes = λ v pairs frame.
      goes_then v (g.K.Keeper.kept c.args.keeper.now) (g.K.Keeper.kept c.loop-r.keeper) (g.K.Keeper.kept c.push_all_lower.new.keeper) (HasPairs v c.args.self.now c.args.refs.now.items pairs c.args.units.now) (HasPairs v c.args.self.now c.loop-r.refs.items (pairs ++ all_pairs (take c.loop-r.r-index c.args.vertices.now) c.args.lower.now) c.loop-r.units)
      (HasPairs v c.args.self.now c.push_all_lower.new.refs.items (pairs ++ all_pairs (take (c.loop-r.r-index + 1) c.args.vertices.now) c.args.lower.now) c.push_all_lower.new.units)
      (c.loop-r.invariant.goes v pairs frame)
      (subst (λ (ps : List (ℕ × ℕ)). Goes v (g.K.Keeper.kept c.loop-r.keeper) (g.K.Keeper.kept c.push_all_lower.new.keeper) (HasPairs v c.args.self.now c.loop-r.refs.items (pairs ++ all_pairs (take c.loop-r.r-index c.args.vertices.now) c.args.lower.now) c.loop-r.units) (HasPairs v c.args.self.now c.push_all_lower.new.refs.items ps c.push_all_lower.new.units)) (pairs_more pairs c.args.vertices.now c.args.lower.now c.loop-r.r-index c.loop-r-test.true)
      (c.in_ok-push_all_lower.ensures.goes v (pairs ++ all_pairs (take c.loop-r.r-index c.args.vertices.now) c.args.lower.now) (frame_for_moved c.args.self.now (g.K.Keeper.owner c.args.keeper.now) (g.K.Keeper.owner c.loop-r.keeper) v c.loop-r.invariant.rest.owner frame)));
  fits = c.in_ok-push_all_lower.ensures.fits;
  rest = rest_then c.loop-r.invariant.rest c.in_ok-push_all_lower.ensures.rest;
}

pub returns-in_err-push_all_lower-clause-goes : goal.returns-in_err-push_all_lower-clause-goes
returns-in_err-push_all_lower-clause-goes g c = λ v pairs frame.
    goes_then v (g.K.Keeper.kept c.args.keeper.now) (g.K.Keeper.kept c.loop-r.keeper) (g.K.Keeper.kept c.push_all_lower.new.keeper) (HasPairs v c.args.self.now c.args.refs.now.items pairs c.args.units.now) (HasPairs v c.args.self.now c.loop-r.refs.items (pairs ++ all_pairs (take c.loop-r.r-index c.args.vertices.now) c.args.lower.now) c.loop-r.units) (ArePushed v c.args.self.now c.from_residual.result c.push_all_lower.new.refs.items (pairs ++ all_pairs (c.args.vertices.now) c.args.lower.now) c.push_all_lower.new.units)
    (c.loop-r.invariant.goes v pairs frame)
    (goes_as v (g.K.Keeper.kept c.loop-r.keeper) (g.K.Keeper.kept c.push_all_lower.new.keeper) (HasPairs v c.args.self.now c.loop-r.refs.items (pairs ++ all_pairs (take c.loop-r.r-index c.args.vertices.now) c.args.lower.now) c.loop-r.units) (ArePushed v c.args.self.now c.push_all_lower.result c.push_all_lower.new.refs.items _ c.push_all_lower.new.units) (HasPairs v c.args.self.now c.loop-r.refs.items (pairs ++ all_pairs (take c.loop-r.r-index c.args.vertices.now) c.args.lower.now) c.loop-r.units)
    (ArePushed v c.args.self.now c.from_residual.result c.push_all_lower.new.refs.items (pairs ++ all_pairs (c.args.vertices.now) c.args.lower.now) c.push_all_lower.new.units)
    (λ forms has. has) (λ forms has. pushed_err v c.args.self.now c.from_residual.result c.push_all_lower.new.refs.items (pairs ++ all_pairs (c.args.vertices.now) c.args.lower.now) c.push_all_lower.new.units forms c.from_residual.ensures.0)
    (c.push_all_lower.ensures.goes v (pairs ++ all_pairs (take c.loop-r.r-index c.args.vertices.now) c.args.lower.now) (frame_for_moved c.args.self.now (g.K.Keeper.owner c.args.keeper.now) (g.K.Keeper.owner c.loop-r.keeper) v c.loop-r.invariant.rest.owner frame)))

pub returns-clause-goes : goal.returns-clause-goes
returns-clause-goes g c = λ v pairs frame.
    subst (λ (xs : List ℕ). Goes v (g.K.Keeper.kept c.args.keeper.now) (g.K.Keeper.kept c.loop-r.keeper) (HasPairs v c.args.self.now c.args.refs.now.items pairs c.args.units.now) (HasPairs v c.args.self.now c.loop-r.refs.items (pairs ++ all_pairs (xs) c.args.lower.now) c.loop-r.units)) (take_whole c.args.vertices.now c.loop-r.r-index c.loop-r-test.false)
    (c.loop-r.invariant.goes v pairs frame)
