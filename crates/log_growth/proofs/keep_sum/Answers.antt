use Rattle.std.proofs.Common.{refl, ◌∷◌}
use Rattle.std.proofs.lemmas.Result.{err_from_is_err_and}
use Rattle.log_theory.specs.declared.step.Step.TheVariants.{P}
use Rattle.forcing_theory.specs.Sums.{sum_from}
use Rattle.log_growth.specs.Frames.{Named}
use Rattle.log_growth.proofs.Going.{goes_stay, goes_kept}
use Rattle.log_growth.proofs.Steps.{sum_ops, sum_may_follow}
use Rattle.log_growth.proofs.keep_sum.Goals as goal

pub returns-in_err-ops-clause-goes : goal.returns-in_err-ops-clause-goes
returns-in_err-ops-clause-goes g c = λ w f gs same small.
    rw (err_from_is_err_and c.from_residual.result c.from_residual.ensures.1).1
    (goes_stay w (g.K.Keeper.kept c.args.keeper.now) (g.K.Keeper.kept c.args.keeper.now) (Named w c.args.refs.now (f ∷ gs)) (λ forms. Unit {0}) refl (λ forms named. tt))

pub keep-requires : goal.keep-requires
keep-requires g c = sum_ops c.args.refs.now c.in_ok-ops.ops c.in_ok-ops.ensures c.requires.fits

pub returns-clause-goes : goal.returns-clause-goes
returns-clause-goes g c = λ w f gs same small.
    goes_kept w c.keep.result (g.K.Keeper.owner c.args.keeper.now) (g.K.Keeper.kept c.args.keeper.now) (g.K.Keeper.kept c.keep.new.self) (P (record { owner = 0; number = 0 }) c.in_ok-ops.ops) (sum_from f gs)
    (Named w c.args.refs.now (f ∷ gs)) same c.keep.ensures.kept (sum_ops c.args.refs.now c.in_ok-ops.ops c.in_ok-ops.ensures c.requires.fits)
    (λ forms named. sum_may_follow w forms (record { owner = 0; number = 0 }) c.args.refs.now c.in_ok-ops.ops f gs c.in_ok-ops.ensures named small)
