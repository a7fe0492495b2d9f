-- The jobs so far ask their problems.

use Rattle.std.proofs.Common.{◌≡◌, ◌+◌, inr, ap, sym, ◌∙◌, refl, map, slice_get, Some, Ok, Err, length}
use Rattle.std.proofs.lemmas.Option.{slice_get-get_or}
use Rattle.std.proofs.lemmas.List.{length_push}
use Rattle.job_list.specs.Jobs.{text_of}
use Rattle.subgraph_cli.proofs.Ends.{ok_quiet}
use Rattle.subgraph_cli.proofs.Told.{keeps_on}
use Rattle.subgraph_cli.proofs.Leaving.{reads_after, reads_other, reads_stop}
use Rattle.whole_program.proofs.Loading.{has_names, text_at, job_says_on, asked_next, jobs_stop, jobs_cause}
use Rattle.whole_program.proofs.jobs.load_jobs.Goals as goal

pub load_job-requires : goal.load_job-requires
load_job-requires g c =
    let here : slice_get c.args.jobs.now c.loop-i.i ≡ Some c.index-jobs-i.result =
    slice_get-get_or c.args.jobs.now c.loop-i.i c.index-jobs-i.result c.loop-i-test.true ∙ ap Some (sym c.index-jobs-i.is) in
    has_names c.args.jobs.now c.loop-i.i c.index-jobs-i.result here c.requires

pub returns-in-Err-clause-says : goal.returns-in-Err-clause-says
returns-in-Err-clause-says g c told =
    let here : slice_get c.args.jobs.now c.loop-i.i ≡ Some c.index-jobs-i.result =
    slice_get-get_or c.args.jobs.now c.loop-i.i c.index-jobs-i.result c.loop-i-test.true ∙ ap Some (sym c.index-jobs-i.is) in
    jobs_stop c.in-Err.stop _ c.loop-i.i (map text_of c.args.jobs.now) (text_of c.index-jobs-i.result) _ _ c.args.kind refl
    (text_at c.args.jobs.now c.loop-i.i c.index-jobs-i.result here) (c.loop-i.invariant.asked told)
    (job_says_on (Err c.in-Err.stop) (c.loop-i.i + 1) (text_of c.index-jobs-i.result) c.args.kind _ _ c.loop-i.invariant.kept.same (c.in-Err.ensures.says (rw c.loop-i.invariant.kept.told told)))

pub returns-in-Err-clause-files : goal.returns-in-Err-clause-files
returns-in-Err-clause-files g c =
    let here : slice_get c.args.jobs.now c.loop-i.i ≡ Some c.index-jobs-i.result =
    slice_get-get_or c.args.jobs.now c.loop-i.i c.index-jobs-i.result c.loop-i-test.true ∙ ap Some (sym c.index-jobs-i.is) in
    reads_stop refl (reads_after c.loop-i.invariant.kept c.loop-i.invariant.quiet c.in-Err.ensures.files)
    (jobs_cause c.in-Err.stop c.loop-i.i (map text_of c.args.jobs.now) (text_of c.index-jobs-i.result) c.args.kind _
    (text_at c.args.jobs.now c.loop-i.i c.index-jobs-i.result here) (λ told. (_, c.loop-i.invariant.asked told)))

pub returns-in-Err-push-clause-files : goal.returns-in-Err-push-clause-files
returns-in-Err-push-clause-files g c = reads_other (reads_after c.loop-i.invariant.kept c.loop-i.invariant.quiet c.in-Ok.ensures.files) tt

pub returns-clause-files : goal.returns-clause-files
returns-clause-files g c = record { kept = c.loop-i.invariant.kept; cause = tt; quiet = inr c.loop-i.invariant.quiet }

pub loop-i-preserved : goal.loop-i-preserved
loop-i-preserved g c =
    let here : slice_get c.args.jobs.now c.loop-i.i ≡ Some c.index-jobs-i.result =
    slice_get-get_or c.args.jobs.now c.loop-i.i c.index-jobs-i.result c.loop-i-test.true ∙ ap Some (sym c.index-jobs-i.is) in
    record {
      asked = λ told.
          asked_next _ c.args.kind (map text_of c.args.jobs.now) _ _ c.loop-i.i (text_of c.index-jobs-i.result) c.in-Ok.problem
          (text_at c.args.jobs.now c.loop-i.i c.index-jobs-i.result here) (c.loop-i.invariant.asked told)
          (job_says_on (Ok c.in-Ok.problem) (c.loop-i.i + 1) (text_of c.index-jobs-i.result) c.args.kind _ _ c.loop-i.invariant.kept.same (c.in-Ok.ensures.says (rw c.loop-i.invariant.kept.told told))) c.in-Ok-push.ensures.items;
      kept = keeps_on _ _ _ _ _ _ c.loop-i.invariant.kept c.in-Ok.ensures.files.kept;
      quiet = ok_quiet _ _ _ _ c.in-Ok.ensures.files.quiet ∙ c.loop-i.invariant.quiet;
      count = ap length c.in-Ok-push.ensures.items ∙ length_push c.loop-i.problems.items c.in-Ok.problem ∙ ap (λ n. n + 1) c.loop-i.invariant.count;
    }
