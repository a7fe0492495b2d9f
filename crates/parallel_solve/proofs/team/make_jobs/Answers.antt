use Rattle.std.proofs.Common.{◌≡◌, ◌∷◌, [], ◌++◌, ◌+◌, List, length, length-append, ap, sym, subst, ◌∙◌, arith}
use Rattle.std.specs.Prelude.{All}
use Rattle.std.proofs.lemmas.List.Elements.{All-push}
use Rattle.nogood_book.specs.Seats.{SeatName}
use Rattle.restart_search.specs.Searching.{Search}
use Rattle.proof_collection.specs.Making.{AreOfOwners}
use Rattle.parallel_solve.specs.Teaming.{IsJob}
use Rattle.parallel_solve.proofs.Runs.{numbers_push}
use Rattle.parallel_solve.proofs.team.make_jobs.Goals as goal

pub loop-worker-preserved : goal.loop-worker-preserved
loop-worker-preserved g c =
    let before = c.loop-worker.invariant in
    let items : c.push_reserved.new.self.items ≡ c.loop-worker.jobs.items ++ c.in_ok-job.job ∷ [] =
    c.push_reserved.ensures.items ∙ ap (λ (ws : List (Search SeatName g.row.L.Denot)). ws ++ c.in_ok-job.job ∷ []) c.in_ok-reserve.ensures.items in
    record {
      jobs = subst (All (λ (w : Search SeatName g.row.L.Denot). IsJob g.L.ProofLogger.owner c.args.book.now c.args.root.now.q.now c.args.root.now.settings.now.budget w)) (sym items)
          (All-push (λ (w : Search SeatName g.row.L.Denot). IsJob g.L.ProofLogger.owner c.args.book.now c.args.root.now.q.now c.args.root.now.settings.now.budget w) c.loop-worker.jobs.items c.in_ok-job.job before.jobs c.in_ok-job.ensures.job);
      numbers = subst (AreOfOwners (λ (w : Search SeatName g.row.L.Denot). w.number)) (sym items)
          (numbers_push (λ (w : Search SeatName g.row.L.Denot). w.number) c.loop-worker.jobs.items c.in_ok-job.job (c.in_ok-job.ensures.number ∙ ap (λ n. n + 1) (sym before.count)) before.numbers);
      count = omega (arith, ap (λ (ws : List (Search SeatName g.row.L.Denot)). length ws) items, length-append c.loop-worker.jobs.items (c.in_ok-job.job ∷ []), before.count);
      of = c.in_ok-job.ensures.of;
      made = c.in_ok-job.ensures.made;
      unseen = c.in_ok-job.ensures.unseen;
    }
