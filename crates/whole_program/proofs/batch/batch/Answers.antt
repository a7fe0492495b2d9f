-- What stops while loading writes nothing, and the problems that are decided are those that the files ask.

use Rattle.std.specs.Prelude.{Ok, Err, map, refl}
use Rattle.job_list.specs.Jobs.{text_of}
use Rattle.subgraph_cli.proofs.Told.{loading_spares}
use Rattle.subgraph_cli.proofs.Leaving.{reads_other, reads_stop, reads_then, prints_none}
use Rattle.whole_program.proofs.Loading.{jobs_say_on, list_as}
use Rattle.whole_program.proofs.Statuses.{list_stops, jobs_stop, list_cause, jobs_cause, telling_says, telling_cause}
use Rattle.whole_program.proofs.batch.batch.Goals as goal

pub returns-in-Err-clause-says : goal.returns-in-Err-clause-says
returns-in-Err-clause-says g c told = list_stops c.in-Err.stop c.args.words.now _ _ _ (c.in-Err.ensures.says told)

pub returns-in-Err-load_jobs-clause-says : goal.returns-in-Err-load_jobs-clause-says
returns-in-Err-load_jobs-clause-says g c told =
    jobs_stop c.in-Err-load_jobs.stop c.args.words.now _ _ _ (map text_of c.deref.result.now) (list_as _ _ _ c.deref.ensures.value (c.in-Ok.ensures.says told))
    (jobs_say_on (Err c.in-Err-load_jobs.stop) (map text_of c.deref.result.now) c.args.words.now.format _ _ c.in-Ok.ensures.files.kept.same (c.in-Err-load_jobs.ensures.says (rw c.in-Ok.ensures.files.kept.told told)))

pub returns-in-Ok-decide_all-clause-says : goal.returns-in-Ok-decide_all-clause-says
returns-in-Ok-decide_all-clause-says g c told =
    telling_says c.tell.result c.in-Ok-decide_all.verdicts.items c.args.words.now _ (map text_of c.deref.result.now) c.in-Ok-load_jobs.problems.items _ _ (list_as _ _ _ c.deref.ensures.value (c.in-Ok.ensures.says told))
    (jobs_say_on (Ok c.in-Ok-load_jobs.problems) (map text_of c.deref.result.now) c.args.words.now.format _ _ c.in-Ok.ensures.files.kept.same (c.in-Ok-load_jobs.ensures.says (rw c.in-Ok.ensures.files.kept.told told))) c.in-Ok-decide_all.ensures.right
    (rw c.deref-in-Ok-decide_all.ensures.value at c.tell.ensures.says)

pub returns-in-Err-clause-files : goal.returns-in-Err-clause-files
returns-in-Err-clause-files g c = reads_stop refl c.in-Err.ensures.files (list_cause c.in-Err.stop c.args.words.now _)

pub returns-in-Err-clause-output : goal.returns-in-Err-clause-output
returns-in-Err-clause-output g c = prints_none (loading_spares _ _ c.in-Err.ensures.loading refl)

pub returns-in-Err-load_jobs-clause-files : goal.returns-in-Err-load_jobs-clause-files
returns-in-Err-load_jobs-clause-files g c =
    reads_stop refl (reads_then c.in-Ok.ensures.files c.in-Err-load_jobs.ensures.files)
    (λ cause. jobs_cause c.in-Err-load_jobs.stop c.args.words.now _ (map text_of c.deref.result.now) cause (λ told. list_as _ _ _ c.deref.ensures.value (c.in-Ok.ensures.says told)))

pub returns-in-Err-load_jobs-clause-output : goal.returns-in-Err-load_jobs-clause-output
returns-in-Err-load_jobs-clause-output g c = prints_none (loading_spares _ _ c.in-Err-load_jobs.ensures.loading refl)

pub returns-in-Ok-decide_all-clause-files : goal.returns-in-Ok-decide_all-clause-files
returns-in-Ok-decide_all-clause-files g c = reads_other (reads_then c.in-Ok.ensures.files c.in-Ok-load_jobs.ensures.files) (telling_cause c.tell.result _ _ _ _ c.tell.ensures.says)

pub returns-clause-files : goal.returns-clause-files
returns-clause-files g c = reads_other (reads_then c.in-Ok.ensures.files c.in-Ok-load_jobs.ensures.files) tt

pub returns-clause-output : goal.returns-clause-output
returns-clause-output g c = prints_none refl
