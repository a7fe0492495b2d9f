-- What calls answer that may give lines: references of clauses, and the names that are kept of them.

use Rattle.std.specs.Prelude.{◌≡◌, ℕ, ◌<◌, ◌≤◌, true, List, [], ◌∷◌, ◌++◌, length, slice_index, map, Option, Some, None, Result, Ok, Err}
use Rattle.std.specs.declared.alloc.AllocError.{AllocError}
use Rattle.graph_theory.specs.Graph.{size}
use Rattle.graph_theory.specs.Embedding.{Problem}
use Rattle.graph_theory.specs.Neighbours.{sequence, fails_at, IsKeptBy}
use Rattle.graph_theory.specs.Asked.{asked_degree, room, asked_sequence}
use Rattle.search_theory.specs.Consistency.{IsFirstValue}
use Rattle.proof_theory.specs.Forms.{Form}
use Rattle.log_theory.specs.declared.step.Name.{Name}
use Rattle.log_theory.specs.declared.step.Ref.{Ref}
use Rattle.log_theory.specs.declared.step.Ref.TheVariants.{Made}
use Rattle.log_theory.specs.LogText.{AreRefs}
use Rattle.log_theory.specs.Lookups.{is_among}
use Rattle.encoding_theory.specs.Variables.{variables}
use Rattle.encoding_theory.specs.Encoding.{refusal}
use Rattle.explanation_theory.specs.Reasons.{ForcesFirst}
use Rattle.log_growth.specs.Frames.{Frame, HoldsModel, IsNamed, AreNamed, IsAddable}
use Rattle.domain_line_theory.specs.Crowds.{refused_values, refused_pairs, crowd_forms, high_neighbours, high_places, crowd_block}
use Rattle.nds_filter.specs.Sequences.{sequences}
use Rattle.domain_lines.specs.declared.value_clauses.Lack.{Lack}
use Rattle.domain_lines.specs.declared.value_clauses.Lack.TheVariants.{Degree, DegreesBeside}
use Rattle.domain_lines.specs.Operands.{crowd_refs}
use Rattle.domain_lines.specs.Named.{AreUnits}

-- The reference is this form's, and all kept names are those of their clauses.
abbrev pub IsGiven : Frame → Result Ref AllocError → Form → List (ℕ × Name) → List Form → Type 0
IsGiven w (Ok r) f named forms = IsNamed w forms r f × AreUnits w named forms
IsGiven w (Err e) f named forms = Unit {0}

-- The name is this form's, and so are all kept names.
abbrev pub IsMade : Frame → Result Name AllocError → Form → List (ℕ × Name) → List Form → Type 0
IsMade w (Ok n) f named forms = IsNamed w forms (Made n) f × AreUnits w named forms
IsMade w (Err e) f named forms = Unit {0}

-- The references are those of clauses against pairs.
abbrev pub HasPairs : Frame → Problem → List Ref → List (ℕ × ℕ) → List (ℕ × Name) → List Form
    → Type 0
HasPairs w q refs pairs named forms = AreNamed w forms refs (refused_pairs q pairs)
    × AreUnits w named forms

abbrev pub ArePushed : {T : Type 0} → Frame → Problem → Result T AllocError → List Ref
    → List (ℕ × ℕ) → List (ℕ × Name) → List Form → Type 0
ArePushed w q (Ok done) refs pairs named forms = HasPairs w q refs pairs named forms
ArePushed w q (Err e) refs pairs named forms = Unit {0}

-- Pairs of a vertex with each of these values, and of each of these vertices.
abbrev pub pairs_with : ℕ → List ℕ → List (ℕ × ℕ)
pairs_with r values = map (λ w. (r, w)) values

abbrev pub all_pairs : List ℕ → List ℕ → List (ℕ × ℕ)
all_pairs [] values = []
all_pairs (r ∷ rs) values = pairs_with r values ++ all_pairs rs values

-- Where the value is refused there is the clause against it.
abbrev pub IsSeen : Frame → Problem → ℕ → ℕ → Result (Option Ref) AllocError → List (ℕ × Name)
    → List Form → Type 0
IsSeen w q p u (Ok (Some r)) named forms = IsNamed w forms r (refusal q p u)
    × AreUnits w named forms
IsSeen w q p u (Ok None) named forms = AreUnits w named forms
IsSeen w q p u (Err e) named forms = Unit {0}

-- Along the edges u has room for the neighbours of p, and the degrees of its neighbours are not too small.
pub record IsLarge (q : Problem) (p u : ℕ) : Type 0 where
  pub degree : asked_degree q p ≤ room q u
  pub sequence : IsKeptBy (asked_sequence q p) (sequence q.target u)

-- Too little room is at u for the neighbours of p, or at this place of their sequences a neighbour's degree is too small.
abbrev pub Lacks : Problem → ℕ → ℕ → Lack → Type 0
Lacks q p u Degree = room q u < asked_degree q p
Lacks q p u (DegreesBeside place) = fails_at (asked_sequence q p) (sequence q.target u) place
    ≡ true

-- The references are those of the clauses against the first n values that are not in the first domain.
pub record HasValues (w : Frame) (q : Problem) (p : ℕ) (refs : List Ref) (n : ℕ) (named : List (ℕ
    × Name)) (forms : List Form) : Type 0 where
  pub values : List ℕ
  pub are_named : AreNamed w forms refs (refused_values q p values)
  pub all : (u : ℕ) → u < n → (IsFirstValue q p u → ⊥) → is_among u values ≡ true
  pub units : AreUnits w named forms

abbrev pub AreCollected : {T : Type 0} → Frame → Problem → ℕ → Result T AllocError → List Ref → ℕ
    → List (ℕ × Name) → List Form → Type 0
AreCollected w q p (Ok done) refs n named forms = HasValues w q p refs n named forms
AreCollected w q p (Err e) refs n named forms = Unit {0}

-- The line that is named forces the first domain of p; without a line there is no value to be taken.
abbrev pub IsFirstLine : Frame → Problem → ℕ → Result (Option Name) AllocError → List (ℕ × Name)
    → List Form → Type 0
IsFirstLine w q p (Ok (Some n)) named forms = ((f : Form) × IsNamed w forms (Made n) f
    × ForcesFirst q f p) × AreUnits w named forms
IsFirstLine w q p (Ok None) named forms = ((u : ℕ) → u < size q.target → (IsFirstValue q p u → ⊥)
    → ⊥) × AreUnits w named forms
IsFirstLine w q p (Err e) named forms = Unit {0}

-- ---- what the lines are made from

-- The frame is one of this owner, in which the lines of the problem's encoding are found, and which has as many variables. (It may be one of
-- the problem that this one is with its graphs turned round: their encodings are the same.)
pub record IsFrameFor (q : Problem) (owner : ℕ) (w : Frame) : Type 0 where
  pub variables_are : variables w.problem ≡ variables q
  pub owner_is : w.owner ≡ owner
  pub model : HoldsModel q w.base

-- The sequences are the problem's.
pub record IsSet (q : Problem) (pattern target : List (List ℕ)) : Type 0 where
  pub pattern_are : pattern ≡ sequences q.pattern
  pub target_are : target ≡ sequences q.target

-- Each of these values has too little room for the neighbours of r.
abbrev pub AreLower : Problem → ℕ → List ℕ → Type 0
AreLower q r lower = (i : ℕ) → i < length lower
    → (slice_index lower i < size q.target)
    × (room q (slice_index lower i) < asked_degree q r)

abbrev pub AreAllLower : Problem → List ℕ → List ℕ → Type 0
AreAllLower q vertices lower = (i : ℕ) → i < length vertices
    → (slice_index vertices i < size q.pattern) × AreLower q (slice_index vertices i) lower

-- The lines of a crowd of high neighbours and the places for them; they can be named, and are some where there are too many neighbours.
pub record IsCrowd (q : Problem) (p u d : ℕ) (refs : List Ref) : Type 0 where
  pub lines : refs ≡ crowd_refs q (crowd_block q p) p u (high_neighbours q.pattern p d)
      (high_places q u d)
  pub fits : AreRefs refs
  pub addable : IsAddable (crowd_forms q (crowd_block q p) p u (high_neighbours q.pattern p d)
      (high_places q u d))
  pub named : (w : Frame) (owner : ℕ) (forms : List Form) → IsFrameFor q owner w
      → AreNamed w forms refs (crowd_forms q (crowd_block q p) p u
      (high_neighbours q.pattern p d) (high_places q u d))
