-- When making a constraint fails, and what it gives else.
use Rattle.std.specs.Prelude.{◌≡◌, ℕ, ℤ, List, Result, Ok, Err}
use Rattle.pb_terms.specs.declared.fault.PbFault.{PbFault}
use Rattle.pb_terms.specs.declared.fault.PbFault.TheVariants.{Wide, NoMemory}
use Rattle.proof_theory.specs.Forms.{Form, Narrow, IsNarrow, form_of}

-- The answer is this form exactly where it is narrow, and `Wide` exactly where it is not; want of memory is free.
abbrev pub Gives : Result Form PbFault → Form → Type 0
Gives (Ok made) f = (made ≡ f) × Narrow f
Gives (Err Wide) f = Narrow f → ⊥
Gives (Err NoMemory) f = Unit {0}

-- The same for the form of given terms and bound, where the terms count as they are given.
abbrev pub Makes : Result Form PbFault → List (ℕ × ℤ) → ℤ → Type 0
Makes (Ok made) ts b = (made ≡ form_of ts b) × IsNarrow ts b
Makes (Err Wide) ts b = IsNarrow ts b → ⊥
Makes (Err NoMemory) ts b = Unit {0}
