use Rattle.std.proofs.Common.{◌≡◌, ◌≢◌, ◌+◌, ◌<◌, ◌∙◌, ap, arith, length, map}
use Rattle.std.proofs.lemmas.Bool.Decides.{nat_tests}
use Rattle.std.proofs.lemmas.List.{length-map, map_push}
use Rattle.std.proofs.lemmas.Option.{MatchOption-at_none, MatchOption-at_some}
use Rattle.job_list.specs.Jobs.{text_of}
use Rattle.job_list.proofs.Reading.{stops_full, stops_form, read_more}
use Rattle.job_list.proofs.reader.jobs_in.Goals as goal

pub returns-then-len-eq-MOST_JOBS-clause-fault : goal.returns-then-len-eq-MOST_JOBS-clause-fault
returns-then-len-eq-MOST_JOBS-clause-fault c =
    let jobs = c.loop-rest.jobs in
    let js = map text_of jobs.items in
    let goes_on : 0 < length c.loop-rest.rest.now = grind (arith, nat_tests) in
    let same : length js ≡ length jobs.items = length-map jobs.items text_of in
    let n : c.len.result + 1 ≡ length js + 1 = omega (arith, c.len.ensures, jobs.ok) in
    let full : length js ≡ 1000 = omega (arith, c.len-in-loop-rest.ensures, jobs.ok, c.if-len-eq-MOST_JOBS.true) in
    stops_full c.args.text.now c.loop-rest.rest.now js (c.len.result + 1) c.loop-rest.invariant full goes_on n

pub returns-in_default-clause-fault : goal.returns-in_default-clause-fault
returns-in_default-clause-fault c =
    let jobs = c.loop-rest.jobs in
    let js = map text_of jobs.items in
    let same : length js ≡ length jobs.items = length-map jobs.items text_of in
    let n : c.len.result + 1 ≡ length js + 1 = omega (arith, c.len.ensures, jobs.ok) in
    let room : length js ≢ 1000 = λ full. c.if-len-eq-MOST_JOBS.false (omega (arith, c.len-in-loop-rest.ensures, jobs.ok)) in
    stops_form c.args.text.now c.loop-rest.rest.now c.first_line.result.1.now c.first_line.result.0.now js (c.len.result + 1) c.loop-rest.invariant room c.first_line.ensures.line
    (MatchOption-at_none _ _ c.in_default.is c.in_ok-job.ensures) n

pub loop-rest-preserved : goal.loop-rest-preserved
loop-rest-preserved c =
    let jobs = c.loop-rest.jobs in
    let js = map text_of jobs.items in
    let same : length js ≡ length jobs.items = length-map jobs.items text_of in
    let room : length js ≢ 1000 = λ full. c.if-len-eq-MOST_JOBS.false (omega (arith, c.len-in-loop-rest.ensures, jobs.ok)) in
    read_more c.args.text.now c.loop-rest.rest.now c.first_line.result.1.now c.first_line.result.0.now js _ (text_of c.in-Some.job) c.loop-rest.invariant room c.first_line.ensures.line
    (MatchOption-at_some _ _ c.in-Some.job c.in-Some.is c.in_ok-job.ensures) (ap (map text_of) c.in_ok-push.ensures.items ∙ map_push text_of jobs.items c.in-Some.job)
