use Rattle.std.proofs.Common.{◌≡◌, ℕ, ◌-◌, ap, ◌∙◌, arith}
use Rattle.std.proofs.Common.{ltb}
use Rattle.bit_rows.specs.BitRows.{is_set}
use Rattle.bit_rows.proofs.WordBits.{is_set_ones, one_shifted}
use Rattle.small_search.proofs.table.word_below.Goals as goal

pub returns-then-below-ge64 : goal.returns-then-below-ge64
returns-then-below-ge64 c = λ v. let e : 64 ≡ c.args.below = omega arith in is_set_ones 64 v ∙ ap (ltb v) e

pub returns-else-below-ge64 : goal.returns-else-below-ge64
returns-else-below-ge64 c = λ v. ap (λ (n : ℕ). is_set (n - 1) v) (one_shifted c.args.below (omega arith)) ∙ is_set_ones c.args.below v
