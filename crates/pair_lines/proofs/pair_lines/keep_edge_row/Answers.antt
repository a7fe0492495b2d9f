use Rattle.std.proofs.Common.{refl}
use Rattle.std.proofs.lemmas.Result.{err_from_is_err_and}
use Rattle.log_theory.specs.declared.step.Step.TheVariants.{P}
use Rattle.pair_lines.specs.Choices.{own_form}
use Rattle.log_growth.specs.Frames.{AnyForms}
use Rattle.log_growth.proofs.Going.{goes_stay, goes_kept}
use Rattle.pair_lines.proofs.Following.{edge_ops, edge_follows}
use Rattle.pair_lines.proofs.pair_lines.keep_edge_row.Goals as goal

pub returns-in_err-ops-clause-goes : goal.returns-in_err-ops-clause-goes
returns-in_err-ops-clause-goes g c = λ f frame.
    rw (err_from_is_err_and c.from_residual.result c.from_residual.ensures.1).1 (goes_stay f (g.K.Keeper.kept c.args.keeper.now) (g.K.Keeper.kept c.args.keeper.now) AnyForms (λ forms. Unit {0}) refl (λ forms h. tt))

pub keep-requires : goal.keep-requires
keep-requires g c = edge_ops c.args.known.now c.in_limits.ensures c.args.pair.p c.args.pair.t c.args.pair.r c.requires.placed c.args.meeting c.args.own c.in_ok-ops.ops c.requires.meets c.requires.own c.in_ok-ops.ensures

pub returns-clause-goes : goal.returns-clause-goes
returns-clause-goes g c = λ f frame.
    goes_kept f c.keep.result (g.K.Keeper.owner c.args.keeper.now) (g.K.Keeper.kept c.args.keeper.now) (g.K.Keeper.kept c.keep.new.self) (P (record { owner = 0; number = 0 }) c.in_ok-ops.ops)
    (own_form c.args.known.now c.args.meeting c.args.pair.p c.args.pair.t c.args.pair.r) AnyForms frame.owner_is c.keep.ensures.kept
    (edge_ops c.args.known.now c.in_limits.ensures c.args.pair.p c.args.pair.t c.args.pair.r c.requires.placed c.args.meeting c.args.own c.in_ok-ops.ops c.requires.meets c.requires.own c.in_ok-ops.ensures)
    (λ forms h. edge_follows c.args.known.now c.in_limits.ensures c.args.pair.p c.args.pair.t c.args.pair.r c.requires.placed (g.K.Keeper.owner c.args.keeper.now) f forms (record { owner = 0; number = 0 }) c.args.meeting c.args.own c.in_ok-ops.ops frame c.requires.meets c.requires.own c.in_ok-ops.ensures)
