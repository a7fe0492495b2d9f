use Rattle.std.proofs.Common.{sym, ◌∙◌, arith}
use Rattle.std.proofs.Math.Facts.{Fits-lt-pow}
use Rattle.bit_rows.proofs.WholeRows.{has_and_not}
use Rattle.restart_search.proofs.value_choice.put_without.Goals as goal

pub returns-clause-members : goal.returns-clause-members
returns-clause-members c =
    has_and_not _ _ _ (c.loop-place.auto.row ∙ sym c.requires.same_length) c.requires.out_length (λ k. Fits-lt-pow (c.type_inv.out k)) (λ k h. c.loop-place.invariant k (omega arith))
