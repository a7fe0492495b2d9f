-- Sums over whole lists of references and of forms.

use Rattle.std.specs.Prelude.{List, [], ◌∷◌, pos}
use Rattle.log_theory.specs.declared.step.Ref.{Ref}
use Rattle.log_theory.specs.declared.step.Op.{Op}
use Rattle.proof_theory.specs.Forms.{Form}
use Rattle.forcing_theory.specs.Sums.{sum_from, summing}

-- All forms summed in order; of no form, what always holds.
abbrev pub summed : List Form → Form
summed [] = record { terms = []; bound = pos 0 }
summed (f ∷ fs) = sum_from f fs

-- The operations that sum all references in order.
abbrev pub summing_all : List Ref → List Op
summing_all [] = []
summing_all (r ∷ rs) = summing r rs
