use Rattle.std.proofs.Common.{map, length}
use Rattle.job_list.specs.Jobs.{text_of}
use Rattle.job_list.proofs.Reading.{AreRead}
use Rattle.job_list.proofs.reader.jobs_in.Given as goal

abbrev pub invariant-loop-rest : goal.invariant-loop-rest
invariant-loop-rest l = AreRead l.text (map text_of l.jobs.items) l.rest

abbrev pub decreases-loop-rest : goal.decreases-loop-rest
decreases-loop-rest l = length l.rest
