use Rattle.std.proofs.Common.{sym, subst}
use Rattle.graph_theory.specs.Embedding.{Problem}
use Rattle.graph_theory.specs.Path.{Dead}
use Rattle.search_theory.specs.Account.{Account, path, FailsTo}
use Rattle.fail_account.proofs.WorkedExample.{may_guess_next, all_dead, after_next}
use Rattle.search_tests.proofs.account_tests.guess_and_fail.Goals as goal

pub deepen-requires-clause-may_guess : goal.deepen-requires-clause-may_guess
deepen-requires-clause-may_guess c = may_guess_next _ _ c.args.account.now.budget c.args.t c.requires.problem c.requires.before c.requires.value_in

pub fail-requires-clause-dead : goal.fail-requires-clause-dead
fail-requires-clause-dead c = subst (λ (q : Problem). Dead q (path c.deepen.new.self)) (sym c.requires.problem) (all_dead (path c.deepen.new.self))

pub returns-clause-after : goal.returns-clause-after
returns-clause-after c =
    after_next c.args.account.now c.fail.new.self c.args.account.now.budget c.args.t c.requires.before c.requires.value_in c.requires.unspent
    (subst (λ (a : Account). FailsTo a c.fail.new.self) c.deepen.ensures.deepened c.fail.ensures.failed)
