-- A sum that goes on in short terms or in wide ones.
use Rattle.proof_theory.specs.Forms.{Form}
use Rattle.packed_terms.specs.declared.sum.Running.{Running}
use Rattle.packed_terms.specs.declared.sum.Running.TheVariants.{Short, Wide}

-- The sum so far.
abbrev pub running_form : Running → Form
running_form (Short f) = f
running_form (Wide f) = f
