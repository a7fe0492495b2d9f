-- No other answer can come, spent budgets are shown by their accounts, and a refutation by its log.

use Rattle.demo_instances.specs.SeedProblems.{IsCycle}
use Rattle.subgraph_cli.proofs.DemoStatuses.{kept_shows}
use Rattle.subgraph_cli.proofs.demo.decide_cycle.Goals as goal

pub unreachable-requires : goal.unreachable-requires
unreachable-requires g c = c.cycle_has_none.ensures c.args.asked.now.seed c.args.q.now c.requires.cycle c.in-Yes.field-0.items c.in-Yes.ensures

pub returns-in-Unknown-clause-shows : goal.returns-in-Unknown-clause-shows
returns-in-Unknown-clause-shows g c =
    kept_shows c.keep_undecided.result (IsCycle c.args.asked.now.seed) c.args.asked.now c.in-Unknown.accounts.items c.args.spent.now.items
    c.keep_undecided.new.spent.items c.keep_undecided.ensures.kept record {
      problem = c.args.q.now;
      is_described = c.requires.cycle;
      spent = rw (c.settings_of.ensures.threads, c.settings_of.ensures.budget) at c.in-Unknown.ensures;
    }

pub returns-in-Ok-clause-logged : goal.returns-in-Ok-clause-logged
returns-in-Ok-clause-logged g c = (c.args.q.now, c.requires.cycle, (_, c.in-Ok.ensures.accepted))
