use Rattle.std.proofs.Common.{Result, subst}
use Rattle.std.specs.declared.alloc.AllocError.{AllocError}
use Rattle.log_theory.specs.declared.step.Name.{Name}
use Rattle.pair_line_theory.specs.Rows.{spread_form}
use Rattle.log_growth.specs.Frames.{IsKept}
use Rattle.log_growth.proofs.Going.{goes_as, goes_same}
use Rattle.pair_lines.specs.Claims.{AreSpreads, HasSpreadOps}
use Rattle.pair_lines.proofs.Spreading.{spread_goes, spreads_put}
use Rattle.pair_lines.proofs.Failing.{on_ok_failed}
use Rattle.journals.proofs.Rests.{rest_same, rest_then}
use Rattle.pair_lines.proofs.spreads.keep_spread.Goals as goal

pub returns-then-is_some-clause-goes : goal.returns-then-is_some-clause-goes
returns-then-is_some-clause-goes g c = λ f frame. goes_same f (g.K.Keeper.kept c.args.keeper.now) (AreSpreads f c.args.known.now c.args.spreads.now)

pub returns-in_err-ops-clause-goes : goal.returns-in_err-ops-clause-goes
returns-in_err-ops-clause-goes g c = λ f frame.
    goes_as f (g.K.Keeper.kept c.args.keeper.now) (g.K.Keeper.kept c.ops_at.new.keeper) (AreSpreads f c.args.known.now c.args.spreads.now)
    (HasSpreadOps f c.args.known.now c.args.pair.p c.args.pair.r c.args.w c.ops_at.new.spreads c.ops_at.result) (AreSpreads f c.args.known.now c.args.spreads.now) (AreSpreads f c.args.known.now c.ops_at.new.spreads) (λ forms h. h) (λ forms k. k.0)
    (c.ops_at.ensures.goes f frame)

pub returns-in_err-name-clause-goes : goal.returns-in_err-name-clause-goes
returns-in_err-name-clause-goes g c = λ f frame.
    goes_as f (g.K.Keeper.kept c.args.keeper.now) (g.K.Keeper.kept c.keep.new.self) (AreSpreads f c.args.known.now c.args.spreads.now)
    (λ forms. IsKept f c.keep.result (spread_form c.args.known.now c.args.pair.p c.args.pair.r c.args.w) forms × AreSpreads f c.args.known.now c.ops_at.new.spreads forms)
    (AreSpreads f c.args.known.now c.args.spreads.now) (AreSpreads f c.args.known.now c.ops_at.new.spreads) (λ forms h. h) (λ forms k. k.1)
    (spread_goes c.args.known.now (g.K.Keeper.owner c.args.keeper.now) (g.K.Keeper.owner c.ops_at.new.keeper) f (record { owner = 0; number = 0 }) c.args.pair.p c.args.pair.r c.args.w c.in_ok-ops.ops c.args.spreads.now c.ops_at.new.spreads c.keep.result
    (g.K.Keeper.kept c.args.keeper.now) (g.K.Keeper.kept c.ops_at.new.keeper) (g.K.Keeper.kept c.keep.new.self) frame c.ops_at.ensures.rest.owner (c.in_ok-ops.ensures.goes f frame) c.in_ok-ops.ensures.ops c.keep.ensures.kept)

pub returns-clause-goes : goal.returns-clause-goes
returns-clause-goes g c = λ f frame.
    goes_as f (g.K.Keeper.kept c.args.keeper.now) (g.K.Keeper.kept c.keep.new.self) (AreSpreads f c.args.known.now c.args.spreads.now)
    (λ forms. IsKept f c.keep.result (spread_form c.args.known.now c.args.pair.p c.args.pair.r c.args.w) forms × AreSpreads f c.args.known.now c.ops_at.new.spreads forms)
    (AreSpreads f c.args.known.now c.args.spreads.now) (AreSpreads f c.args.known.now c.add.new.self) (λ forms h. h)
    (λ forms k. spreads_put f c.args.known.now c.in_limits.ensures c.ops_at.new.spreads c.add.new.self forms c.args.pair.p c.args.pair.r c.args.w c.in_ok-name.name c.add.result c.requires.pair.first_in c.requires.pair.second_in c.requires.w_in c.add.ensures.added c.add.ensures.refused
    (subst (λ (x : Result Name AllocError). IsKept f x (spread_form c.args.known.now c.args.pair.p c.args.pair.r c.args.w) forms) c.in_ok-name.was k.0) k.1)
    (spread_goes c.args.known.now (g.K.Keeper.owner c.args.keeper.now) (g.K.Keeper.owner c.ops_at.new.keeper) f (record { owner = 0; number = 0 }) c.args.pair.p c.args.pair.r c.args.w c.in_ok-ops.ops c.args.spreads.now c.ops_at.new.spreads c.keep.result
    (g.K.Keeper.kept c.args.keeper.now) (g.K.Keeper.kept c.ops_at.new.keeper) (g.K.Keeper.kept c.keep.new.self) frame c.ops_at.ensures.rest.owner (c.in_ok-ops.ensures.goes f frame) c.in_ok-ops.ensures.ops c.keep.ensures.kept)

pub returns-then-is_some-clause-rest : goal.returns-then-is_some-clause-rest
returns-then-is_some-clause-rest g c = rest_same

pub returns-then-is_some-clause-stay : goal.returns-then-is_some-clause-stay
returns-then-is_some-clause-stay g c = λ k h. h

pub returns-in_err-ops-clause-rest : goal.returns-in_err-ops-clause-rest
returns-in_err-ops-clause-rest g c = c.ops_at.ensures.rest

pub returns-in_err-ops-clause-stay : goal.returns-in_err-ops-clause-stay
returns-in_err-ops-clause-stay g c = c.ops_at.ensures.stay

pub returns-in_err-ops-clause-there : goal.returns-in_err-ops-clause-there
returns-in_err-ops-clause-there g c = on_ok_failed c.from_residual.result _ _ c.from_residual.ensures.1

pub returns-in_err-name-clause-rest : goal.returns-in_err-name-clause-rest
returns-in_err-name-clause-rest g c = rest_then c.ops_at.ensures.rest c.keep.ensures.rest

pub returns-in_err-name-clause-stay : goal.returns-in_err-name-clause-stay
returns-in_err-name-clause-stay g c = c.ops_at.ensures.stay

pub returns-in_err-name-clause-there : goal.returns-in_err-name-clause-there
returns-in_err-name-clause-there g c = on_ok_failed c.from_residual-in_err-name.result _ _ c.from_residual-in_err-name.ensures.1

pub returns-clause-rest : goal.returns-clause-rest
returns-clause-rest g c = rest_then c.ops_at.ensures.rest c.keep.ensures.rest

pub add-requires : goal.add-requires
add-requires g c = c.in_ok-name.ensures.name

pub keep-requires : goal.keep-requires
keep-requires g c = c.in_ok-ops.ensures.ops

pub ops_at-requires-clause-pair : goal.ops_at-requires-clause-pair
ops_at-requires-clause-pair g c = c.requires.pair

pub ops_at-requires-clause-w_in : goal.ops_at-requires-clause-w_in
ops_at-requires-clause-w_in g c = c.requires.w_in
