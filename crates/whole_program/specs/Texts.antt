-- The lines of a batch.

use Rattle.std.specs.Prelude.{ℕ, ◌+◌, List, [], ◌∷◌, ◌++◌, codes}
use Rattle.std.specs.Fmt.{decimal}
use Rattle.whole_program.specs.declared.verdict.JobVerdict.{JobVerdict}
use Rattle.whole_program.specs.declared.verdict.JobVerdict.TheVariants.{Yes, Nothing, Unknown}

-- A blank and the number of a vertex.
abbrev pub image_text : ℕ → List ℕ
image_text t = 32 ∷ decimal t

-- The images of an embedding, a blank before each.
abbrev pub images_text : List ℕ → List ℕ
images_text [] = []
images_text (t ∷ ts) = image_text t ++ images_text ts

-- The line of the job of this number.
abbrev pub verdict_text : ℕ → JobVerdict → List ℕ
verdict_text number (Yes m) = decimal number ++ codes ": yes" ++ images_text m.items ++ 10 ∷ []
verdict_text number Nothing = decimal number ++ codes ": none" ++ 10 ∷ []
verdict_text number Unknown = decimal number ++ codes ": unknown" ++ 10 ∷ []

-- The lines of jobs, the first of which has this number.
abbrev pub verdicts_from : ℕ → List JobVerdict → List ℕ
verdicts_from number [] = []
verdicts_from number (v ∷ vs) = verdict_text number v ++ verdicts_from (number + 1) vs

-- A line for each job, numbered from 1.
abbrev pub verdicts_text : List JobVerdict → List ℕ
verdicts_text verdicts = verdicts_from 1 verdicts
