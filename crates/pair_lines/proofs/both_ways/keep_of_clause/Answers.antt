use Rattle.std.proofs.Common.{refl}
use Rattle.std.proofs.lemmas.Result.{err_from_is_err_and}
use Rattle.log_theory.specs.declared.step.Ref.TheVariants.{Made}
use Rattle.pair_line_theory.specs.Rows.{consistent_clause}
use Rattle.log_growth.specs.Frames.{IsNamed}
use Rattle.log_growth.proofs.Going.{goes_stay}
use Rattle.pair_lines.proofs.Joining.{both_ops, both_goes}
use Rattle.pair_lines.proofs.both_ways.keep_of_clause.Goals as goal

pub returns-in_err-ops-clause-goes : goal.returns-in_err-ops-clause-goes
returns-in_err-ops-clause-goes g c = λ f frame.
    rw (err_from_is_err_and c.from_residual.result c.from_residual.ensures.1).1
    (goes_stay f (g.K.Keeper.kept c.args.keeper.now) (g.K.Keeper.kept c.args.keeper.now) (λ forms. IsNamed f forms (Made c.args.clause) (consistent_clause c.args.known.now c.args.pair.p c.args.pair.t c.args.pair.r)) (λ forms. Unit {0}) refl (λ forms h. tt))

pub keep-requires : goal.keep-requires
keep-requires g c = both_ops c.args.known.now c.in_limits.ensures c.args.pair.p c.args.pair.t c.args.pair.r c.requires.placed
    c.args.clause c.in_ok-ops.ops c.requires.clause c.in_ok-ops.ensures

pub returns-clause-goes : goal.returns-clause-goes
returns-clause-goes g c = λ f frame.
    both_goes c.args.known.now c.in_limits.ensures c.args.pair.p c.args.pair.t c.args.pair.r c.requires.placed
    (g.K.Keeper.owner c.args.keeper.now) f c.args.clause (record { owner = 0; number = 0 }) c.in_ok-ops.ops c.keep.result (g.K.Keeper.kept c.args.keeper.now) (g.K.Keeper.kept c.keep.new.self) c.requires.injective frame c.requires.clause c.in_ok-ops.ensures c.keep.ensures.kept
