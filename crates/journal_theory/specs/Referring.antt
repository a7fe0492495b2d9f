-- What a line refers to, and lookups that agree there.

use Rattle.std.specs.Prelude.{◌≡◌, ℕ, ◌⊎◌, List, [], ◌∷◌}
use Rattle.log_theory.specs.declared.step.Ref.{Ref}
use Rattle.log_theory.specs.declared.step.Ref.TheVariants.{Made, Shared}
use Rattle.log_theory.specs.declared.step.Op.{Op}
use Rattle.log_theory.specs.declared.step.Op.TheVariants.{Push}
use Rattle.log_theory.specs.declared.step.Step.{Step}
use Rattle.log_theory.specs.declared.step.Step.TheVariants.{P, U, N, D, E}
use Rattle.log_theory.specs.Lookups.{Lookup, makes}

-- The references that operations push, in order.
abbrev pub op_refs : List Op → List Ref
op_refs [] = []
op_refs (Push r ∷ os) = r ∷ op_refs os
op_refs (o ∷ os) = op_refs os

-- The references of a line, in order.
abbrev pub step_refs : Step → List Ref
step_refs (P name ops) = op_refs ops
step_refs (U name lits refs) = refs
step_refs (N row name) = Made name ∷ []
step_refs (D at) = at ∷ []
step_refs (E at) = at ∷ []
step_refs _ = []

-- Two lookups find the same for each of these references.
abbrev pub Agree : Lookup → Lookup → List Ref → Type 0
Agree look see [] = Unit {0}
Agree look see (r ∷ rs) = (look r ≡ see r) × Agree look see rs

-- The row is among these references.
abbrev pub NamesRow : List Ref → ℕ → Type 0
NamesRow [] row = ⊥
NamesRow (Shared k ∷ rs) row = (k ≡ row) ⊎ NamesRow rs row
NamesRow (r ∷ rs) row = NamesRow rs row

-- What a line makes depends on nothing but what its references name.
abbrev pub RefsLaw : Type 0
RefsLaw = (look see : Lookup) (s : Step) → Agree look see (step_refs s) → makes look s ≡ makes see s
