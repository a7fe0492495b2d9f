use Rattle.std.proofs.Common.{refl}
use Rattle.std.proofs.lemmas.Result.{err_from_is_err_and}
use Rattle.log_theory.specs.declared.step.Step.TheVariants.{P}
use Rattle.log_growth.specs.Frames.{IsKept}
use Rattle.log_growth.proofs.Going.{goes_stay, goes_kept, goes_as}
use Rattle.pair_lines.specs.Choices.{own_line, row_form}
use Rattle.pair_lines.specs.Claims.{AreSpreads, IsSharedLine}
use Rattle.pair_lines.proofs.Following.{row_line_ops, row_follows, row_kept}
use Rattle.pair_lines.proofs.row.keep_row.Goals as goal

pub returns-in_err-ops-clause-goes : goal.returns-in_err-ops-clause-goes
returns-in_err-ops-clause-goes g c = λ f frame.
    rw (err_from_is_err_and c.from_residual.result c.from_residual.ensures.1).1
    (goes_stay f (g.K.Keeper.kept c.args.keeper.now) (g.K.Keeper.kept c.args.keeper.now) (AreSpreads f c.args.known.now c.args.spreads.now) (λ forms. Unit {0}) refl (λ forms h. tt))

pub keep-requires : goal.keep-requires
keep-requires g c = row_line_ops c.args.known.now c.in_limits.ensures c.args.pair.p c.args.pair.t c.args.pair.r c.requires.placed
    c.args.spreads.now c.fit.ensures c.args.sharing c.meeting_of-meeting.result c.in_ok-ops.ops c.in_ok-ops.ensures c.requires.shared c.meeting_of-meeting.ensures

pub returns-clause-goes : goal.returns-clause-goes
returns-clause-goes g c = λ f frame.
    goes_as f (g.K.Keeper.kept c.args.keeper.now) (g.K.Keeper.kept c.keep.new.self) (AreSpreads f c.args.known.now c.args.spreads.now)
    (IsKept f c.keep.result (row_form c.args.known.now c.args.sharing c.meeting_of-meeting.result (own_line c.args.known.now c.args.pair.p c.args.pair.r c.args.pair.t) c.args.pair.p c.args.pair.t c.args.pair.r))
    (AreSpreads f c.args.known.now c.args.spreads.now) (IsSharedLine f c.args.known.now c.args.pair.p c.args.pair.t c.args.pair.r c.keep.result) (λ forms h. h)
    (λ forms k. row_kept c.args.known.now c.in_limits.ensures c.args.pair.p c.args.pair.t c.args.pair.r c.requires.placed f c.keep.result c.args.sharing c.meeting_of-meeting.result forms c.requires.shared c.meeting_of-meeting.ensures k)
    (goes_kept f c.keep.result (g.K.Keeper.owner c.args.keeper.now) (g.K.Keeper.kept c.args.keeper.now) (g.K.Keeper.kept c.keep.new.self) (P (record { owner = 0; number = 0 }) c.in_ok-ops.ops)
    (row_form c.args.known.now c.args.sharing c.meeting_of-meeting.result (own_line c.args.known.now c.args.pair.p c.args.pair.r c.args.pair.t) c.args.pair.p c.args.pair.t c.args.pair.r) (AreSpreads f c.args.known.now c.args.spreads.now) frame.owner_is c.keep.ensures.kept
    (row_line_ops c.args.known.now c.in_limits.ensures c.args.pair.p c.args.pair.t c.args.pair.r c.requires.placed c.args.spreads.now c.fit.ensures c.args.sharing c.meeting_of-meeting.result c.in_ok-ops.ops c.in_ok-ops.ensures c.requires.shared c.meeting_of-meeting.ensures)
    (λ forms h. row_follows c.args.known.now c.in_limits.ensures c.args.pair.p c.args.pair.t c.args.pair.r c.requires.placed
    (g.K.Keeper.owner c.args.keeper.now) f forms (record { owner = 0; number = 0 }) c.args.spreads.now c.fit.ensures c.args.sharing c.meeting_of-meeting.result c.in_ok-ops.ops frame c.in_ok-ops.ensures c.requires.shared c.meeting_of-meeting.ensures c.requires.there h))
