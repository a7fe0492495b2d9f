-- Frames of a worker beside the rows of a book: what was told of its journal there, and what its lines are.

use Rattle.std.specs.Prelude.{◌≡◌, ℕ, ◌==◌, Bool, true, false, not, ◌&&◌, List, length, Option, Some, None, slice_get}
use Rattle.graph_theory.specs.Embedding.{Problem}
use Rattle.proof_theory.specs.Forms.{Form}
use Rattle.encoding_theory.specs.Encoding.{encoding}
use Rattle.journal_theory.specs.Journals.{Finds, base_of, Row}
use Rattle.log_growth.specs.Frames.{Frame}

abbrev pub is_nogood_of_other : ℕ → Option Row → Bool
is_nogood_of_other owner None = false
is_nogood_of_other owner (Some r) = r.is_nogood && not (r.owner == owner)

-- Whether row k is another's nogood.
abbrev pub is_of_other : List Row → ℕ → ℕ → Bool
is_of_other rows owner k = is_nogood_of_other owner (slice_get rows k)

-- The frame of an owner beside rows, their clauses, and owner 0's forms.
abbrev pub frame_of : Problem → List Row → (ℕ → Form) → List Form → ℕ → Frame
frame_of q rows clause root owner =
    record {
      problem = q;
      base = base_of (encoding q) root clause
          (length rows);
      owner = owner;
      foreign = is_of_other rows owner;
    }

-- More is found, and more rows are others'.
pub record Widens (w v : Frame) : Type 0 where
  pub problem_same : v.problem ≡ w.problem
  pub owner_same : v.owner ≡ w.owner
  pub finds : Finds w.base v.base
  pub foreign : (k : ℕ) → w.foreign k ≡ true → v.foreign k ≡ true
