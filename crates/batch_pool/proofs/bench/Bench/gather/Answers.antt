use Rattle.std.proofs.Common.{◌≡◌, ◌++◌, ◌∙◌, ap}
use Rattle.crossbeam_queue.specs.Passes.{view}
use Rattle.batch_pool.specs.declared.numbers.Hand.{Hand}
use Rattle.batch_pool.proofs.Keeps.{merges, compares}
use Rattle.batch_pool.proofs.Placed.{free_all, once_theirs, placed_more, named_from}
use Rattle.batch_pool.proofs.bench.Bench.gather.Goals as goal

pub absorb-requires-clause-rule : goal.absorb-requires-clause-rule
absorb-requires-clause-rule g c = merges _ _ _ _ c.requires.part

pub learn_as-requires-clause-rule : goal.learn_as-requires-clause-rule
learn_as-requires-clause-rule g c = compares _ _

pub place_all-requires-clause-free : goal.place_all-requires-clause-free
place_all-requires-clause-free g c =
    let w = c.requires.worked in
    let joined = ap (λ (h : Hand). h.taken) c.absorb.ensures.rule in
    free_all _ _ _ (view c.args.pass.now).taken (view c.args.done.pass).taken _ c.args.done.taken.items c.args.entries.now.slots.items joined w.numbers c.requires.placed c.learn_as.ensures.rule.1 w.each

pub place_all-requires-clause-once : goal.place_all-requires-clause-once
place_all-requires-clause-once g c =
    let joined = ap (λ (h : Hand). h.taken) c.absorb.ensures.rule in
    once_theirs (view c.args.pass.now).taken (view c.args.done.pass).taken _ c.args.done.taken.items joined c.requires.worked.numbers c.learn_as.ensures.rule.1

pub returns-clause-named : goal.returns-clause-named
returns-clause-named g c = named_from c.args.done.worker c.args.done.taken.items _ _ c.place_all.ensures

pub returns-clause-placed : goal.returns-clause-placed
returns-clause-placed g c =
    let w = c.requires.worked in
    let joined : (view c.learn_as.new.pass).taken ≡ (view c.args.pass.now).taken ++ (view c.args.done.pass).taken = ap (λ (h : Hand). h.taken) (c.learn_as.ensures.queue.1 ∙ c.absorb.ensures.rule) in
    placed_more _ _ _ (view c.args.pass.now).taken (view c.args.done.pass).taken _ c.args.done.worker c.args.done.taken.items c.args.entries.now.slots.items _ joined w.numbers c.requires.placed c.requires.worker c.place_all.ensures w.each
