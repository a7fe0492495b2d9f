use Rattle.std.proofs.Common.{ℕ, ◌<◌, List, refl, ap, ◌∙◌, arith}
use Rattle.journal_theory.proofs.Placing.{take_all}
use Rattle.log_theory.specs.Lookups.{is_among}
use Rattle.line_tests.proofs.Ranges.{all_next}
use Rattle.line_tests.proofs.checked.are_below.Goals as goal

pub loop-x-init : goal.loop-x-init
loop-x-init c = λ p h. absurd cc

pub loop-x-preserved : goal.loop-x-preserved
loop-x-preserved c = all_next (λ (p : ℕ). p < c.args.limit) c.args.numbers.now c.loop-x.x-index _ c.loop-x-test.true refl (omega arith) c.loop-x.invariant

pub returns : goal.returns
returns c = λ e p h. c.loop-x.invariant p (ap (λ (xs : List ℕ). is_among p xs) (take_all c.args.numbers.now c.loop-x.x-index c.loop-x-test.false) ∙ h)
