use Rattle.std.proofs.Common.{refl}
use Rattle.std.proofs.lemmas.Result.{err_from_is_err_and}
use Rattle.log_growth.specs.Frames.{AnyForms}
use Rattle.log_growth.proofs.Going.{goes_stay}
use Rattle.pair_lines.proofs.Spreading.{not_both_line, not_both_goes}
use Rattle.pair_lines.proofs.spreads.make_not_both.Goals as goal

pub returns-in_err-lits-clause-goes : goal.returns-in_err-lits-clause-goes
returns-in_err-lits-clause-goes g c = λ f frame.
    rw (err_from_is_err_and c.from_residual.result c.from_residual.ensures.1).1
    (goes_stay f (g.K.Keeper.kept c.args.keeper.now) (g.K.Keeper.kept c.args.keeper.now) AnyForms (λ forms. Unit {0}) refl (λ forms h. tt))

pub returns-in_err-refs-clause-goes : goal.returns-in_err-refs-clause-goes
returns-in_err-refs-clause-goes g c = λ f frame.
    rw (err_from_is_err_and c.from_residual-in_err-refs.result c.from_residual-in_err-refs.ensures.1).1
    (goes_stay f (g.K.Keeper.kept c.args.keeper.now) (g.K.Keeper.kept c.args.keeper.now) AnyForms (λ forms. Unit {0}) refl (λ forms h. tt))

pub keep-requires : goal.keep-requires
keep-requires g c = not_both_line c.args.known.now c.in_limits.ensures c.requires.injective c.args.m c.args.n c.args.w c.requires.order c.requires.n_in c.requires.w_in c.in_ok-lits.lits c.in_ok-refs.refs (record { owner = 0; number = 0 }) c.in_ok-lits.ensures c.in_ok-refs.ensures

pub returns-clause-goes : goal.returns-clause-goes
returns-clause-goes g c = λ f frame.
    not_both_goes c.args.known.now c.in_limits.ensures c.requires.injective c.args.m c.args.n c.args.w c.requires.order c.requires.n_in c.requires.w_in c.in_ok-lits.lits c.in_ok-refs.refs (record { owner = 0; number = 0 }) (g.K.Keeper.owner c.args.keeper.now) f c.keep.result
    (g.K.Keeper.kept c.args.keeper.now) (g.K.Keeper.kept c.keep.new.self) frame c.in_ok-lits.ensures c.in_ok-refs.ensures c.keep.ensures.kept
