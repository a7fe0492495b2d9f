-- Sums over the numbers that pass a test, and the operations that make them; where a lookup finds the encoding.

use Rattle.std.specs.Prelude.{◌≡◌, ℕ, zero, suc, ◌+◌, Bool, cond, List, [], ◌∷◌, slice_get, Some}
use Rattle.graph_theory.specs.Embedding.{Problem}
use Rattle.proof_theory.specs.Forms.{Form}
use Rattle.proof_theory.specs.Rules.{sum_of}
use Rattle.log_theory.specs.declared.step.Ref.TheVariants.{Line}
use Rattle.log_theory.specs.declared.step.Op.{Op}
use Rattle.log_theory.specs.declared.step.Op.TheVariants.{Add}
use Rattle.log_theory.specs.Lookups.{Lookup}
use Rattle.encoding_theory.specs.Variables.{collect, when}
use Rattle.encoding_theory.specs.Encoding.{encoding}

-- A form, with the forms of the numbers below n that pass the test added to it.
abbrev pub sum_where : (ℕ → Bool) → (ℕ → Form) → Form → ℕ → Form
sum_where test f base zero = base
sum_where test f base (suc n) = cond (test n) (sum_of (sum_where test f base n) (f n))
    (sum_where test f base n)

-- The operations that do so: each form is put on the stack, and added.
abbrev pub adds_where : (ℕ → Bool) → (ℕ → Op) → ℕ → List Op
adds_where test put n = collect (λ i. when (test i) (put i ∷ Add ∷ [])) n

-- Each form of the encoding is found under its number: its place plus 1.
pub record FindsEncoding (q : Problem) (look : Lookup) : Type 0 where
  pub line : (k : ℕ) (f : Form) → slice_get (encoding q) k ≡ Some f → look (Line (k + 1)) ≡ Some f
