use Rattle.std.specs.Prelude.{◌≡◌, ◌+◌, [], length, All}
use Rattle.nogood_book.specs.Seats.{IsSeatOf}
use Rattle.proof_collection.specs.Making.{AreOfOwners}
use Rattle.parallel_solve.specs.Gathering.{HasMade}
use Rattle.parallel_solve.specs.Teaming.{IsJob}
use Rattle.parallel_solve.proofs.team.make_jobs.Given as goal

abbrev pub invariant-loop-worker : goal.invariant-loop-worker
invariant-loop-worker g l = record {
  jobs : All (λ w. IsJob g.L.ProofLogger.owner l.book l.root.q.now l.root.settings.now.budget w) l.jobs.items;
  numbers : AreOfOwners (λ w. w.number) l.jobs.items;
  count : length l.jobs.items ≡ l.worker;
  of : IsSeatOf l.book l.first;
  made : HasMade (l.worker + 1) l.first;
  unseen : l.first.view.seen ≡ [];
}
