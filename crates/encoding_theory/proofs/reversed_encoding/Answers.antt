use Rattle.encoding_theory.proofs.ReversedForms.{reversed_forms}
use Rattle.encoding_theory.proofs.reversed_encoding.Goals as goal

pub returns : goal.returns
returns c = reversed_forms
