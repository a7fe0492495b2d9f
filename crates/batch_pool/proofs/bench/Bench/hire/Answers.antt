use Rattle.std.proofs.Common.{◌+◌, ◌∙◌, refl, ap, arith, rules, length, map}
use Rattle.crossbeam_queue.specs.Passes.{view}
use Rattle.batch_pool.specs.declared.numbers.Hand.{Hand}
use Rattle.batch_pool.specs.declared.worker.Worker.{Worker}
use Rattle.batch_pool.specs.Placing.{IsHired}
use Rattle.batch_pool.proofs.Keeps.{forks, one_left, one_made}
use Rattle.batch_pool.proofs.Placed.{all_pushed, numbers_more}
use Rattle.batch_pool.proofs.bench.Bench.hire.Goals as goal

pub another-theirs-requires-clause-rule : goal.another-theirs-requires-clause-rule
another-theirs-requires-clause-rule g c = forks _ _ (let e = ap (λ (h : Hand). h.parts) c.loop-k.invariant.left in omega arith)

pub loop-k-preserved : goal.loop-k-preserved
loop-k-preserved g c =
    let i = c.loop-k.invariant in
    record {
      same = search rules;
      queue = search rules;
      left = one_left (view c.loop-k.pass) (view c.another-theirs.new.pass) c.loop-k.k (length c.args.self.now.jobs.now) i.left c.another-theirs.ensures.rule.0;
      numbers = ap (map (λ (w : Worker). w.number)) c.in_ok-push.ensures.items
          ∙ numbers_more c.loop-k.staff.items (record { number = c.loop-k.k + 1; pass = c.another-theirs.result }) c.loop-k.k i.numbers refl;
      hired = all_pushed (λ w. IsHired c.args.self.now.queue.now (length c.args.self.now.jobs.now) c.args.self.now.workers w) c.loop-k.staff.items c.push.new.self.items
          (record { number = c.loop-k.k + 1; pass = c.another-theirs.result }) c.in_ok-push.ensures.items i.hired
          (record {
            pass = c.another-theirs.ensures.queue.1;
            begins = one_made (view c.loop-k.pass) (view c.another-theirs.result) c.loop-k.k (length c.args.self.now.jobs.now) i.left c.another-theirs.ensures.rule.1;
            number = omega arith;
          });
    }
