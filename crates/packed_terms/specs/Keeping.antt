-- What is kept in short terms or in wide ones.
use Rattle.proof_theory.specs.Forms.{Form}
use Rattle.packed_terms.specs.declared.packed.Kept.{Kept}
use Rattle.packed_terms.specs.declared.packed.Kept.TheVariants.{Short, Wide}

-- The form that is kept.
abbrev pub kept_form : Kept → Form
kept_form (Short f) = f
kept_form (Wide f) = f
