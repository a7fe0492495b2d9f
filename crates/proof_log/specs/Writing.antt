-- The texts that a line's writer puts one after another.
use Rattle.std.specs.Prelude.{ℕ, List, [], ◌∷◌}
use Rattle.std.specs.List.{flat_map}
use Rattle.std.specs.Fmt.{decimal}
use Rattle.proof_theory.specs.declared.literal.Literal.{Literal}
use Rattle.log_theory.specs.declared.step.Op.{Op}
use Rattle.log_theory.specs.declared.step.Ref.{Ref}
use Rattle.log_theory.specs.LogText.{ref_text, literal_text, op_words}

-- Words with a blank in front of each.
abbrev pub spaced : List (List ℕ) → List ℕ
spaced ws = flat_map (λ v. 32 ∷ v) ws

-- The words of one operation, a blank in front of each.
abbrev pub op_text : Op → List ℕ
op_text o = spaced (op_words (o ∷ []))

-- A blank and a reference.
abbrev pub spaced_ref : Ref → List ℕ
spaced_ref r = 32 ∷ ref_text r

-- A blank and a literal.
abbrev pub spaced_literal : Literal → List ℕ
spaced_literal l = 32 ∷ literal_text l

-- A blank and a variable.
abbrev pub spaced_one : ℕ → List ℕ
spaced_one v = 32 ∷ 120 ∷ decimal v
