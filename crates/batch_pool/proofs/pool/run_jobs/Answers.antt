use Rattle.std.proofs.Common.{◌≡◌, ◌-◌, ap, arith, length, subst, IfOk}
use Rattle.crossbeam_queue.specs.Passes.{view}
use Rattle.batch_pool.specs.declared.numbers.Hand.{Hand}
use Rattle.batch_pool.specs.Rule.{all_parts}
use Rattle.batch_pool.specs.Placing.{AreDone, AreTakers}
use Rattle.batch_pool.proofs.Placed.{staff_count}
use Rattle.batch_pool.proofs.pool.run_jobs.Goals as goal

pub take_rest-requires-clause-whole : goal.take_rest-requires-clause-whole
take_rest-requires-clause-whole g c =
    let left : (view c.hire.new.pass).parts ≡ all_parts - c.args.workers = ap (λ (h : Hand). h.parts) c.in_ok-staff.ensures.left in
    let staff : length c.in_ok-staff.staff.items ≡ c.args.workers = staff_count c.in_ok-staff.staff.items c.args.workers c.in_ok-staff.ensures.numbers in
    let done : length c.in_ok-done.done.items ≡ length c.in_ok-staff.staff.items = c.in_ok-done.ensures.count in
    let all = c.gather_all.ensures.parts in
    let fits = c.ranges.workers.fits in
    omega arith

pub returns-clause-outs : goal.returns-clause-outs
returns-clause-outs g c =
    subst (λ js. IfOk c.finish.result (λ r. AreDone (g.W.Work.answers c.args.work.now) js r.outs.items)) c.as_slice.ensures.value c.finish.ensures.outs

pub returns-clause-by : goal.returns-clause-by
returns-clause-by g c =
    subst (λ js. IfOk c.finish.result (λ r. AreTakers (length js) c.args.workers r.by.items)) c.as_slice.ensures.value c.finish.ensures.by
