use Rattle.std.proofs.Common.{ap, ◌∙◌}
use Rattle.nogood_book.specs.declared.view.View.{View}
use Rattle.parallel_solve.proofs.Gathering.{took_in, keeps}
use Rattle.parallel_solve.proofs.tally.take_in.Goals as goal

pub returns-clause-first : goal.returns-clause-first
returns-clause-first c =
    record {
      table = c.gather.ensures.same.table ∙ c.requires.first.table;
      problem = ap (λ (v : View). v.problem) c.gather.ensures.gathered.view_is ∙ c.requires.first.problem;
    }

pub returns-clause-taken : goal.returns-clause-taken
returns-clause-taken c = took_in c.args.first.now c.args.seat c.gather.new.into c.requires.told c.rows-rows.ensures.honest c.gather.ensures.gathered

pub returns-clause-kept : goal.returns-clause-kept
returns-clause-kept c = keeps c.args.first.now c.gather.new.into c.args.seat.view c.requires.told c.gather.ensures.same.own c.gather.ensures.gathered
