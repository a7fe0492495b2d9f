use Rattle.std.proofs.Common.{ℕ, List, refl, ap, ◌∙◌, rules}
use Rattle.journal_theory.proofs.Placing.{take_all}
use Rattle.log_theory.specs.Lookups.{is_among}
use Rattle.recorder.specs.Telling.{Joins}
use Rattle.line_tests.proofs.Ranges.{all_next}
use Rattle.line_tests.proofs.checked.leads_to_all.Goals as goal

pub loop-r-init : goal.loop-r-init
loop-r-init c = λ r h. absurd cc

pub loop-r-preserved : goal.loop-r-preserved
loop-r-preserved c = all_next (Joins c.args.q.now c.args.direction c.args.p) c.args.vertices.now c.loop-r.r-index _ c.loop-r-test.true refl (search rules) c.loop-r.invariant

pub returns : goal.returns
returns c = λ e r h. c.loop-r.invariant r (ap (λ (xs : List ℕ). is_among r xs) (take_all c.args.vertices.now c.loop-r.r-index c.loop-r-test.false) ∙ h)
