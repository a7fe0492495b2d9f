-- The lines of an owner beside what stands before them, and the one shape of what a call does that may give lines to a keeper.

use Rattle.std.specs.Prelude.{◌≡◌, ℕ, ◌+◌, ◌*◌, ◌^◌, ◌≤◌, Bool, true, List, [], ◌∷◌, ◌++◌, length, Option, Some, None, Result, Ok, Err, slice_get}
use Rattle.std.specs.declared.alloc.AllocError.{AllocError}
use Rattle.graph_theory.specs.Embedding.{Problem}
use Rattle.proof_theory.specs.Forms.{Form}
use Rattle.log_theory.specs.declared.step.Name.{Name}
use Rattle.log_theory.specs.declared.step.Ref.{Ref}
use Rattle.log_theory.specs.declared.step.Ref.TheVariants.{Line, Made, Shared}
use Rattle.log_theory.specs.declared.step.Op.{Op}
use Rattle.log_theory.specs.declared.step.Step.{Step}
use Rattle.log_theory.specs.Lookups.{Lookup, makes}
use Rattle.log_theory.specs.Verdicts.{in_range, step_variables}
use Rattle.encoding_theory.specs.Variables.{variables}
use Rattle.encoding_theory.specs.Encoding.{encoding}
use Rattle.forcing_theory.specs.Sums.{IsSmall, AreSmall, summing}
use Rattle.journal_theory.specs.Referring.{step_refs, NamesRow}
use Rattle.journal_theory.specs.Journals.{Finds, HoldsOwn, IsJournal}
use Rattle.journals.specs.Keeping.{IsLine}

-- ---- what lines stand beside

-- A problem, what references find before the owner's first line, the owner, and the rows of others that its lines may name.
pub record Frame : Type 0 where
  pub problem : Problem
  pub base : Lookup
  pub owner : ℕ
  pub foreign : ℕ → Bool

-- The encoding's lines are found by their numbers.
pub record HoldsModel (q : Problem) (base : Lookup) : Type 0 where
  pub line : (k : ℕ) (f : Form) → slice_get (encoding q) k ≡ Some f → base (Line (k + 1)) ≡ Some f

-- The frame is one of this problem and owner.
pub record IsFrameOf (q : Problem) (owner : ℕ) (w : Frame) : Type 0 where
  pub problem_is : w.problem ≡ q
  pub owner_is : w.owner ≡ owner
  pub model : HoldsModel q w.base

-- The lines make the forms; the rows that they name are others'; all their numbers are in their ranges; and the coefficients of each form are
-- together at most 2^40 in size, as is its bound. (That no operation of a line is wider than exact arithmetic is in `journal`: each makes its form.)
pub record Stands (w : Frame) (lines : List Step) (forms : List Form) : Type 0 where
  pub journal : IsJournal w.base w.owner lines forms
  pub rows : (i k : ℕ) (s : Step) → slice_get lines i ≡ Some s → NamesRow (step_refs s) k
      → w.foreign k ≡ true
  pub fits : (i : ℕ) (s : Step) → slice_get lines i ≡ Some s → IsLine s
  pub ranges : (i : ℕ) (s : Step) → slice_get lines i ≡ Some s
      → in_range (variables w.problem) (step_variables s) ≡ true
  pub small : AreSmall (2 ^ 40) forms

-- ---- what references name

-- The reference names the form wherever the log has what stands before the lines, and these forms; a row that it names is another's.
pub record IsNamed (w : Frame) (forms : List Form) (r : Ref) (f : Form) : Type 0 where
  pub found : (look : Lookup) → Finds w.base look → HoldsOwn w.owner forms look → look r ≡ Some f
  pub foreign : (k : ℕ) → r ≡ Shared k → w.foreign k ≡ true

-- So do these references these forms, in order.
abbrev pub AreNamed : Frame → List Form → List Ref → List Form → Type 0
AreNamed w forms [] [] = Unit {0}
AreNamed w forms (r ∷ rs) (f ∷ fs) = IsNamed w forms r f × AreNamed w forms rs fs
AreNamed w forms [] (f ∷ fs) = ⊥
AreNamed w forms (r ∷ rs) [] = ⊥

-- The step may be kept behind lines that make these forms, and makes this one, which is small.
pub record MayFollow (w : Frame) (forms : List Form) (step : Step) (f : Form) : Type 0 where
  pub made : (look : Lookup) → Finds w.base look → HoldsOwn w.owner forms look
      → makes look step ≡ Ok f
  pub rows : (k : ℕ) → NamesRow (step_refs step) k → w.foreign k ≡ true
  pub ranges : in_range (variables w.problem) (step_variables step) ≡ true
  pub small : IsSmall (2 ^ 40) f

-- ---- what a call does to lines

-- Lines were added that make further forms, and this is so of all forms.
pub record After (w : Frame) (old new : List Step) (forms : List Form) (Claim : List Form
    → Type 0) : Type 0 where
  pub rest : List Step
  pub front : new ≡ old ++ rest
  pub more : List Form
  pub stands : Stands w new (forms ++ more)
  pub claim : Claim (forms ++ more)

-- From lines that stand, of whose forms the one thing is so, to lines that stand, of whose forms the other is so. Nothing where nothing is kept.
abbrev pub Goes : Frame → Option (List Step) → Option (List Step) → (List Form → Type 0)
    → (List Form → Type 0) → Type 0
Goes w (Some old) (Some new) Before Claim = (forms : List Form) → Stands w old forms
    → Before forms → After w old new forms Claim
Goes w None None Before Claim = Unit {0}
Goes w (Some old) None Before Claim = ⊥
Goes w None (Some new) Before Claim = ⊥

-- Any forms.
abbrev pub AnyForms : List Form → Type 0
AnyForms forms = Unit {0}

-- What stays so as forms are added.
abbrev pub Lasts : (List Form → Type 0) → Type 0
Lasts Claim = (forms more : List Form) → Claim forms → Claim (forms ++ more)

-- The name that is answered is this form's.
abbrev pub IsKept : Frame → Result Name AllocError → Form → List Form → Type 0
IsKept w (Ok n) f forms = IsNamed w forms (Made n) f
IsKept w (Err e) f forms = Unit {0}

-- The sizes of the forms, of which there is one at least, add up to no more than the form of a line may have.
pub record IsAddable (fs : List Form) : Type 0 where
  pub most : ℕ
  pub small : AreSmall most fs
  pub fits : length fs * most ≤ 2 ^ 40

-- The references name these forms.
abbrev pub Named : Frame → List Ref → List Form → List Form → Type 0
Named w rs fs forms = AreNamed w forms rs fs

-- The operations sum these references.
abbrev pub AreSumOf : List Ref → List Op → Type 0
AreSumOf [] ops = ⊥
AreSumOf (r ∷ rs) ops = ops ≡ summing r rs
