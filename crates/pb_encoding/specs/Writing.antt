-- The text of an encoding, and the cause of a fault while it is put.

use Rattle.std.specs.Prelude.{◌≡◌, ℕ, ◌≤◌, List, Option, Result, Ok, Err}
use Rattle.std.specs.List.{flat_map}
use Rattle.graph_theory.specs.Embedding.{Problem}
use Rattle.proof_theory.specs.Forms.{Form}
use Rattle.outer_io.specs.Faults.{Rose}
use Rattle.outer_io.specs.Sinks.{Spot}
use Rattle.outer_io.specs.declared.fault.PutFault.{PutFault}
use Rattle.outer_io.specs.declared.fault.PutFault.TheVariants.{Failed, NoMemory}
use Rattle.log_theory.specs.Words.{line_text}
use Rattle.log_theory.specs.OpbText.{form_words, opb_text}
use Rattle.pb_encoding.specs.Model.{model_of}

-- The lines of some forms.
abbrev pub forms_text : List Form → List ℕ
forms_text fs = flat_map (λ f. line_text (form_words f)) fs

-- The OPB text of a problem's encoding.
abbrev pub encoding_text : Problem → List ℕ
encoding_text q = opb_text (model_of q)

-- The count of faults rises where the sink failed, and the last fault is then the sink's; want of memory leaves it as it was.
abbrev pub PutCause : {T : Type 0} → Result T PutFault → ℕ → ℕ → Type 0 → Type 0
PutCause (Ok done) before after blamed = after ≡ before
PutCause (Err Failed) before after blamed = Rose before after × blamed
PutCause (Err NoMemory) before after blamed = after ≡ before

-- It is the same sink still, and what stands beside it is as it was; each answer has its cause.
pub record HasPutCause {S T : Type 0} (spot : S → Spot) (rest : S → List ℕ
    → Option (List ℕ)) (faults : S → ℕ) (blamed : S
    → Type 0) (old new : S) (result : Result T PutFault) : Type 0 where
  pub same : spot new ≡ spot old
  pub others : (file : List ℕ) → rest new file ≡ rest old file
  pub later : faults old ≤ faults new
  pub cause : PutCause result (faults old) (faults new) (blamed new)
