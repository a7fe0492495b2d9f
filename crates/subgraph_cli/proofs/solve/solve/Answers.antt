-- What is said of the files as they were when the problem was loaded is said of them as they were before.

use Rattle.std.specs.Prelude.{refl}
use Rattle.std.proofs.Common.{sym}
use Rattle.subgraph_cli.proofs.Ends.{ok_quiet}
use Rattle.subgraph_cli.proofs.Told.{asks_on, disk_on, loading_spares, reading_cause, solve_says_on}
use Rattle.subgraph_cli.proofs.Passing.{if_err_passed}
use Rattle.subgraph_cli.proofs.Leaving.{reads_stop, writes_none, writes_then, prints_none}
use Rattle.subgraph_cli.proofs.solve.solve.Goals as goal

pub solve_problem-requires-clause-asks : goal.solve_problem-requires-clause-asks
solve_problem-requires-clause-asks g c κs within told =
    asks_on _ _ c.args.words.now c.in_ok-q.q c.in_ok-q.ensures.files.kept.same (c.in_ok-q.ensures.says (rw (sym c.in_ok-q.ensures.files.kept.told) told))

pub returns-clause-says : goal.returns-clause-says
returns-clause-says g c told =
    let same = disk_on _ _ _ g.F.Files.fault_at _ _ c.solve_problem.new.files c.in_ok-q.ensures.files.kept (ok_quiet _ _ _ _ c.in_ok-q.ensures.files.quiet) in
    solve_says_on _ _ c.solve_problem.result c.args.words.now _ _ _ _ c.in_ok-q.ensures.files.kept.same same (c.solve_problem.ensures.says (rw c.in_ok-q.ensures.files.kept.told told))

pub returns-clause-files : goal.returns-clause-files
returns-clause-files g c = writes_then c.in_ok-q.ensures.files c.solve_problem.ensures.files

pub returns-in_err-q-clause-files : goal.returns-in_err-q-clause-files
returns-in_err-q-clause-files g c = writes_none (reads_stop c.from_residual.ensures.1 c.in_err-q.ensures.files (reading_cause _ c.args.words.now _))

pub returns-in_err-q-clause-output : goal.returns-in_err-q-clause-output
returns-in_err-q-clause-output g c = prints_none (if_err_passed _ _ _ c.from_residual.ensures.1 (loading_spares _ _ c.in_err-q.ensures.loading refl))
