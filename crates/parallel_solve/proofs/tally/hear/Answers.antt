use Rattle.std.proofs.Common.{rules}
use Rattle.std.proofs.lemmas.List.Elements.{All-push}
use Rattle.parallel_solve.specs.Teaming.{IsSpent}
use Rattle.parallel_solve.proofs.tally.hear.Goals as goal

pub returns-in-Spent-clause-tally : goal.returns-in-Spent-clause-tally
returns-in-Spent-clause-tally c =
    record {
      map_of = c.requires.tally.map_of;
      refuted_of = c.requires.tally.refuted_of;
      spent_of = λ e. rw c.push_reserved.ensures.items (All-push (IsSpent c.args.q.now c.args.budget) c.args.tally.now.accounts.items c.args.account (c.requires.tally.spent_of e) (search rules));
    }
