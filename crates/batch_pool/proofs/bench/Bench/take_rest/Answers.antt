use Rattle.std.proofs.Common.{◌<◌, ◌∙◌, ap, arith, rules, length}
use Rattle.crossbeam_queue.specs.Passes.{view}
use Rattle.batch_pool.specs.declared.numbers.Hand.{Hand}
use Rattle.batch_pool.proofs.Keeps.{takes, learns}
use Rattle.batch_pool.proofs.Placed.{placed_one}
use Rattle.batch_pool.proofs.bench.Bench.take_rest.Goals as goal

pub pop_as-requires-clause-rule : goal.pop_as-requires-clause-rule
pop_as-requires-clause-rule g c = let p = c.loop.invariant.whole in (takes _ _ (omega arith), learns _ _)

pub loop-preserved : goal.loop-preserved
loop-preserved g c =
    let i = c.loop.invariant in
    let took = c.in-Some-pop_as.ensures.rule in
    let below : c.in-Some-pop_as.number < length c.args.self.now.jobs.now = (let b = took.below in let p = i.pushed in omega arith) in
    record {
      queue = search rules;
      whole = ap (λ (h : Hand). h.parts) took.after ∙ i.whole;
      pushed = ap (λ (h : Hand). h.pushed) took.after ∙ i.pushed;
      placed = placed_one _ _ _ (view c.loop.pass).taken (view c.pop_as.new.pass).taken c.in-Some-pop_as.number c.in_ok-out.out c.loop.entries.slots.items c.place.new.self.slots.items
          (ap (λ (h : Hand). h.taken) took.after) i.placed below c.in_ok-out.ensures c.place.ensures;
    }
