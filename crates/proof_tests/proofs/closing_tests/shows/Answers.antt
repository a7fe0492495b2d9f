use Rattle.proof_checker.proofs.Rooted.{rooted_none}
use Rattle.proof_tests.proofs.closing_tests.shows.Goals as goal

pub is_closed-requires : goal.is_closed-requires
is_closed-requires c = rooted_none c.deref.result.now c.in_ok-table.table c.in_ok-work.work.levels c.in_ok-work.ensures
