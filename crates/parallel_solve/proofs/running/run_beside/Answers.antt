use Rattle.std.proofs.Common.{◌≡◌, ◌∙◌, sym, subst}
use Rattle.std.specs.List.{Any}
use Rattle.nogood_book.specs.Seats.{SeatName}
use Rattle.restart_search.specs.Searching.{Search}
use Rattle.parallel_solve.specs.declared.running.Done.{Done}
use Rattle.parallel_solve.specs.Teaming.{AreSettled, HasRunAt, HaveEnded, IsInterrupted}
use Rattle.parallel_solve.proofs.Interrupting.{closed_of}
use Rattle.parallel_solve.proofs.Runs.{all_run, numbers_run}
use Rattle.parallel_solve.proofs.running.run_beside.Goals as goal

pub finish-requires-clause-ran : goal.finish-requires-clause-ran
finish-requires-clause-ran g c =
    all_run (λ (w : Search SeatName g.row.L.Denot) (d : Done g.row.L.Denot g.row.L-Told.Denot). HasRunAt g.L.ProofLogger.owner g.L.ProofLogger.steps g.L.ProofLogger.refutes (g.G.Gate.may_close c.args.gate.now) c.args.book.now c.args.q.now c.args.budget d.worker d.outcome × (d.worker.number ≡ w.number))
    (λ (d : Done g.row.L.Denot g.row.L-Told.Denot). HasRunAt g.L.ProofLogger.owner g.L.ProofLogger.steps g.L.ProofLogger.refutes (g.G.Gate.may_close c.args.gate.now) c.args.book.now c.args.q.now c.args.budget d.worker d.outcome)
    c.args.jobs.items c.in-Ok.done.items c.in-Ok.ensures.count (λ w d ran. ran.0) c.in-Ok.ensures.run

pub finish-requires-clause-numbers : goal.finish-requires-clause-numbers
finish-requires-clause-numbers g c =
    numbers_run (λ (w : Search SeatName g.row.L.Denot) (d : Done g.row.L.Denot g.row.L-Told.Denot). HasRunAt g.L.ProofLogger.owner g.L.ProofLogger.steps g.L.ProofLogger.refutes (g.G.Gate.may_close c.args.gate.now) c.args.book.now c.args.q.now c.args.budget d.worker d.outcome × (d.worker.number ≡ w.number))
    (λ (w : Search SeatName g.row.L.Denot). w.number) (λ (d : Done g.row.L.Denot g.row.L-Told.Denot). d.worker.number)
    c.args.jobs.items c.in-Ok.done.items c.in-Ok.ensures.count (λ w d ran. ran.1) c.requires.numbers c.in-Ok.ensures.run

pub returns-clause-count : goal.returns-clause-count
returns-clause-count g c = c.finish.ensures.count ∙ c.in-Ok.ensures.count

pub returns-clause-ran : goal.returns-clause-ran
returns-clause-ran g c = λ k d lt. (c.finish.ensures.ran k d lt).run

pub is_interrupted-requires : goal.is_interrupted-requires
is_interrupted-requires g c = subst (AreSettled (λ (d : Done g.row.L.Denot g.row.L-Told.Denot). d.outcome)) (sym c.deref.ensures.value) c.finish.ensures.settled

pub returns-clause-ended : goal.returns-clause-ended
returns-clause-ended g c = subst (HaveEnded (λ (d : Done g.row.L.Denot g.row.L-Told.Denot). d.outcome)) c.deref.ensures.value (c.is_interrupted.ensures.no c.if-is_interrupted.false)

pub returns-then-is_interrupted-clause-closed : goal.returns-then-is_interrupted-clause-closed
returns-then-is_interrupted-clause-closed g c =
    λ same. closed_of (λ (d : Done g.row.L.Denot g.row.L-Told.Denot). d.outcome) (g.G.Gate.may_close c.args.gate.now) c.finish.new.done.items (λ k d lt. (c.finish.ensures.ran k d lt).closed)
    (subst (Any (λ (d : Done g.row.L.Denot g.row.L-Told.Denot). IsInterrupted d.outcome)) c.deref.ensures.value (c.is_interrupted.ensures.yes c.if-is_interrupted.true))
