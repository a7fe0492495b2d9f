use Rattle.std.proofs.Common.{◌≡◌, ℕ, true, take}
use Rattle.log_theory.specs.Lookups.{is_among}
use Rattle.recorder.specs.Telling.{Joins}
use Rattle.line_tests.proofs.checked.leads_to_all.Given as goal

abbrev pub invariant-loop-r : goal.invariant-loop-r
invariant-loop-r l = (r : ℕ) → is_among r (take l.r-index l.vertices) ≡ true → Joins l.q l.direction l.p r
