-- What is read lists jobs.

use Rattle.whole_program.proofs.Loading.{are_jobs}
use Rattle.whole_program.proofs.list.load_list.Goals as goal

pub returns-in-Ok-read_jobs-clause-jobs : goal.returns-in-Ok-read_jobs-clause-jobs
returns-in-Ok-read_jobs-clause-jobs g c = are_jobs _ _ c.in-Ok-read_jobs.ensures.found
