use Rattle.std.proofs.Common.{map}
use Rattle.job_list.specs.Jobs.{text_of}
use Rattle.job_list.proofs.Reading.{list_only, fault_only}
use Rattle.job_list.proofs.reader.read_jobs.Goals as goal

pub returns-clause-only : goal.returns-clause-only
returns-clause-only c jobs is = list_only c.args.text.now _ jobs (λ v. map text_of v.items) c.jobs_in.ensures.found c.jobs_in.ensures.fault is

pub returns-clause-fault_only : goal.returns-clause-fault_only
returns-clause-fault_only c n cause is = fault_only c.args.text.now _ n cause (λ v. map text_of v.items) c.jobs_in.ensures.found c.jobs_in.ensures.fault is
