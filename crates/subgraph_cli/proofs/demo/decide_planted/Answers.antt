-- No other answer can come, and spent budgets are shown by their accounts.

use Rattle.demo_instances.specs.SeedProblems.{chosen, IsPlanted}
use Rattle.subgraph_cli.proofs.DemoStatuses.{kept_shows}
use Rattle.subgraph_cli.proofs.demo.decide_planted.Goals as goal

pub unreachable-requires-in-NoEmbedding : goal.unreachable-requires-in-NoEmbedding
unreachable-requires-in-NoEmbedding g c = c.in-NoEmbedding.ensures.0 (chosen c.args.asked.now.seed) (c.planted_embeds.ensures c.args.asked.now.seed c.args.q.now c.requires.planted)

pub returns-in-Unknown-clause-shows : goal.returns-in-Unknown-clause-shows
returns-in-Unknown-clause-shows g c =
    kept_shows c.keep_undecided.result (IsPlanted c.args.asked.now.seed) c.args.asked.now c.in-Unknown.accounts.items c.args.spent.now.items
    c.keep_undecided.new.spent.items c.keep_undecided.ensures.kept record {
      problem = c.args.q.now;
      is_described = c.requires.planted;
      spent = rw (c.settings_of.ensures.threads, c.settings_of.ensures.budget) at c.in-Unknown.ensures;
    }
