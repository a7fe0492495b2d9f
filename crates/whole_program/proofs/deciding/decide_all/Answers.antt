-- The answers of the pool are told as right verdicts.

use Rattle.std.proofs.Common.{ℕ, subst}
use Rattle.batch_pool.specs.Placing.{AreDone}
use Rattle.whole_program.specs.Answers.{IsJobAnswer}
use Rattle.whole_program.proofs.Verdicts.{told_right}
use Rattle.whole_program.proofs.deciding.decide_all.Goals as goal

pub returns-in-Ok-clause-right : goal.returns-in-Ok-clause-right
returns-in-Ok-clause-right g c =
    told_right c.verdicts.result c.args.words.now.budget c.args.problems.items c.in-Ok.answers.items _ _ c.requires.empty
    (subst (λ (n : ℕ). AreDone (λ q a. IsJobAnswer a q n) c.args.problems.items c.in-Ok.answers.items) c.new-work.ensures c.in-Ok.ensures) c.verdicts.ensures.verdicts c.verdicts.ensures.kept
