-- What leaving the trimmed log says is what the trim says.

use Rattle.std.specs.Prelude.{Err, Ok, IsTrue, refl}
use Rattle.std.proofs.Common.{inl, subst}
use Rattle.std.proofs.lemmas.Result.{err_from_is_err_and}
use Rattle.subgraph_cli.specs.Disk.{Disk}
use Rattle.subgraph_cli.specs.Streams.{stream}
use Rattle.subgraph_cli.specs.Trimming.{LeftSays}
use Rattle.subgraph_cli.proofs.Ends.{ok_quiet}
use Rattle.subgraph_cli.proofs.Told.{disk_on, loading_spares}
use Rattle.subgraph_cli.proofs.Passing.{if_err_passed}
use Rattle.subgraph_cli.proofs.Leaving.{cause_of_more, reads_other, reads_stop, writes_none, writes_other, writes_stop, writes_then, prints_none, prints_other, prints_stop}
use Rattle.subgraph_cli.proofs.TrimLeaving.{is_trimmed_log, left_stops, left_cause, left_whole}
use Rattle.subgraph_cli.proofs.trim.trim.Goals as goal

pub returns-in_err-leave-in-Kept-clause-says : goal.returns-in_err-leave-in-Kept-clause-says
returns-in_err-leave-in-Kept-clause-says g c told =
    let p = err_from_is_err_and c.from_residual-in_err-leave-in-Kept.result c.from_residual-in_err-leave-in-Kept.ensures.1 in
    let kept = c.in-Kept.kept in
    let held = rw c.deref.ensures.value at c.in-Kept.ensures in
    let trimmed = is_trimmed_log c.answer_laws.ensures _ _ _ _ kept.text.bytes kept.kept kept.made (c.in_ok-model.ensures.held told) held.0 held.1 in
    let same = disk_on _ _ _ g.F.Files.fault_at _ _ c.leave.new.files c.in_ok-model.ensures.files.kept (ok_quiet _ _ _ _ c.in_ok-model.ensures.files.quiet) in
    let says = subst (λ (d : Disk). LeftSays (Err c.in_err-leave-in-Kept.field-0.0) c.args.words.now kept.text.bytes kept.kept kept.made d
    (stream g.O.Sink.spot g.O.Sink.contents g.O.Sink.faults c.args.out.now c.leave.new.out)) same (c.in_err-leave-in-Kept.ensures.says (rw c.in_ok-model.ensures.files.kept.told told)) in
    rw (p.1, p.2) (left_stops _ _ _ _ _ _ _ _ _ trimmed says)

pub returns-in-Kept-clause-says : goal.returns-in-Kept-clause-says
returns-in-Kept-clause-says g c told =
    let kept = c.in-Kept.kept in
    let held = rw c.deref.ensures.value at c.in-Kept.ensures in
    let trimmed = is_trimmed_log c.answer_laws.ensures _ _ _ _ kept.text.bytes kept.kept kept.made (c.in_ok-model.ensures.held told) held.0 held.1 in
    let same = disk_on _ _ _ g.F.Files.fault_at _ _ c.leave.new.files c.in_ok-model.ensures.files.kept (ok_quiet _ _ _ _ c.in_ok-model.ensures.files.quiet) in
    let says = subst (λ (d : Disk). LeftSays (Ok tt) c.args.words.now kept.text.bytes kept.kept kept.made d
    (stream g.O.Sink.spot g.O.Sink.contents g.O.Sink.faults c.args.out.now c.leave.new.out)) same (c.in_ok-leave-in-Kept.ensures.says (rw c.in_ok-model.ensures.files.kept.told told)) in
    left_whole _ _ _ _ _ _ _ (stream g.O.Sink.spot g.O.Sink.contents g.O.Sink.faults c.args.out.now c.leave.new.out) trimmed says

pub returns-in_err-model-clause-files : goal.returns-in_err-model-clause-files
returns-in_err-model-clause-files g c = writes_none (reads_stop c.from_residual.ensures.1 c.in_err-model.ensures.files (cause_of_more _ _ _ _ inl))

pub returns-in_err-model-clause-output : goal.returns-in_err-model-clause-output
returns-in_err-model-clause-output g c = prints_none (if_err_passed _ _ _ c.from_residual.ensures.1 (loading_spares _ _ c.in_err-model.ensures.loading refl))

pub returns-in_err-leave-in-Kept-clause-files : goal.returns-in_err-leave-in-Kept-clause-files
returns-in_err-leave-in-Kept-clause-files g c =
    let kept = c.in-Kept.kept in
    let held = rw c.deref.ensures.value at c.in-Kept.ensures in
    let same = disk_on _ _ _ g.F.Files.fault_at _ _ c.leave.new.files c.in_ok-model.ensures.files.kept (ok_quiet _ _ _ _ c.in_ok-model.ensures.files.quiet) in
    let out = stream g.O.Sink.spot g.O.Sink.contents g.O.Sink.faults c.args.out.now c.leave.new.out in
    let says = subst (λ (d : Disk). IsTrue d.tells → LeftSays (Err c.in_err-leave-in-Kept.field-0.0) c.args.words.now kept.text.bytes kept.kept kept.made d out) same c.in_err-leave-in-Kept.ensures.says in
    writes_stop c.from_residual-in_err-leave-in-Kept.ensures.1 (writes_then c.in_ok-model.ensures.files c.in_err-leave-in-Kept.ensures.files)
    (left_cause _ c.args.words.now kept.text.bytes kept.kept kept.made _ out
    (λ told. is_trimmed_log c.answer_laws.ensures _ _ _ _ kept.text.bytes kept.kept kept.made (c.in_ok-model.ensures.held told) held.0 held.1) says)

pub returns-in_err-leave-in-Kept-clause-output : goal.returns-in_err-leave-in-Kept-clause-output
returns-in_err-leave-in-Kept-clause-output g c = prints_stop c.from_residual-in_err-leave-in-Kept.ensures.1 c.in_err-leave-in-Kept.ensures.output

pub returns-in-Kept-clause-files : goal.returns-in-Kept-clause-files
returns-in-Kept-clause-files g c = writes_other (writes_then c.in_ok-model.ensures.files c.in_ok-leave-in-Kept.ensures.files) tt

pub returns-in-Kept-clause-output : goal.returns-in-Kept-clause-output
returns-in-Kept-clause-output g c = prints_other c.in_ok-leave-in-Kept.ensures.output

pub returns-in-Refused-clause-files : goal.returns-in-Refused-clause-files
returns-in-Refused-clause-files g c = writes_none (reads_other c.in_ok-model.ensures.files tt)

pub returns-in-Refused-clause-output : goal.returns-in-Refused-clause-output
returns-in-Refused-clause-output g c = prints_none tt

pub returns-clause-files : goal.returns-clause-files
returns-clause-files g c = writes_none (reads_other c.in_ok-model.ensures.files tt)

pub returns-clause-output : goal.returns-clause-output
returns-clause-output g c = prints_none refl
