-- A stop while the problem of a job is loaded is one of the job.

use Rattle.std.proofs.Common.{Err, subst, sym, ◌∙◌, rules}
use Rattle.job_list.specs.Jobs.{text_of}
use Rattle.subgraph_cli.specs.declared.stop.Stop.{Stop}
use Rattle.subgraph_cli.proofs.Leaving.{reads_other}
use Rattle.whole_program.specs.Jobs.{JobSays}
use Rattle.whole_program.proofs.Loading.{ask_says_as, job_stops}
use Rattle.whole_program.proofs.jobs.load_job.Goals as goal

pub returns-in-Err-clause-says : goal.returns-in-Err-clause-says
returns-in-Err-clause-says g c told =
    let content = g.F.Files.content c.args.files.now in
    subst (λ (s : Stop). JobSays (Err s) c.args.number (text_of c.args.job.now) content c.args.kind) (sym c.job_stop.ensures)
    (job_stops c.in-Err.stop c.args.number (text_of c.args.job.now) content c.args.kind c.in-Err.ensures.loading
    (ask_says_as (Err c.in-Err.stop) content _ _ _ _ _ _ (c.file_named-pattern.ensures ∙ c.deref.ensures) (c.file_named-target.ensures ∙ c.deref-2.ensures) c.plain-ask.ensures
    (c.in-Err.ensures.says told)))

pub returns-in-Ok-clause-files : goal.returns-in-Ok-clause-files
returns-in-Ok-clause-files g c = reads_other c.in-Ok.ensures.files tt

pub returns-in-Err-clause-files : goal.returns-in-Err-clause-files
returns-in-Err-clause-files g c = record { kept = c.in-Err.ensures.files.kept; cause = search rules; quiet = search rules }
