-- References to forms that explain changes, to those that an end comes to, and the name of a dead path's clause.

use Rattle.std.specs.Prelude.{◌≡◌, ℕ, ◌<◌, ◌≤◌, ◌⊎◌, Bool, List, [], ◌∷◌, ◌++◌, length, Option, Some, None, Result, Ok, Err, OnOk}
use Rattle.std.specs.declared.alloc.AllocError.{AllocError}
use Rattle.graph_theory.specs.Graph.{size}
use Rattle.graph_theory.specs.Embedding.{Problem}
use Rattle.proof_theory.specs.Forms.{Form}
use Rattle.log_theory.specs.declared.step.Name.{Name}
use Rattle.log_theory.specs.declared.step.Step.{Step}
use Rattle.log_theory.specs.declared.step.Ref.{Ref}
use Rattle.log_theory.specs.declared.step.Ref.TheVariants.{Made}
use Rattle.nogood_watch.specs.Nogoods.{literal}
use Rattle.explanation_theory.specs.Reasons.{pairs_clause, value_clauses}
use Rattle.nogood_book.specs.Rows.{path_at}
use Rattle.nogood_book.specs.declared.row.Row.{Row}
use Rattle.nogood_book.specs.Places.{IsNogoodRow}
use Rattle.recorder.specs.Recording.{Change, CountedSet}
use Rattle.graph_rows.specs.Orders.{IsOrder}
use Rattle.dead_theory.specs.Changes.{Chosen, IsOneOf, IsBorne, AreBorne, known_after, ExplainsChange, ExplainAll, set_forms, crowd_forms, IsSetIn}
use Rattle.dead_theory.specs.Ends.{End, Empty, Whole, Short, Exhausted, end_of, EndsIn, EndNeeds}
use Rattle.dead_theory.specs.Walks.{IsChoice}
use Rattle.log_growth.specs.Frames.{Frame, IsNamed, AreNamed}
use Rattle.recorder.specs.declared.change.DeadEnd.{DeadEnd}
use Rattle.recorder.specs.declared.change.DeadEnd.TheVariants as dead_end
use Rattle.dead_paths.specs.Lines.{at_least_ref, at_least_refs, AreVertices}
use Rattle.dead_paths.specs.Making.{AreRowsNamed}

-- ---- limits

-- The limits on the graphs, and on the pairs of vertices whose images are to be in order.
pub record IsLimited (q : Problem) : Type 0 where
  pub pattern : size q.pattern ≤ 1024
  pub target : size q.target ≤ 8192
  pub order : IsOrder (size q.pattern) q.less

-- ---- changes

-- The references name forms that explain the changes, and those of nogood rows their clauses.
pub record Explained (q : Problem) (rows : List Row) (path : List (ℕ × ℕ)) (w : Frame) (names : ℕ
    → Ref) (cs : List Chosen) (refs : List Ref) (forms : List Form) : Type 0 where
  pub rows_named : AreRowsNamed q rows w names forms
  pub own : List Form
  pub explained : ExplainAll q rows path cs own
  pub named : AreNamed w forms refs own

-- What a maker knows beside it.
abbrev pub Knowing : (List Form → Type 0) → (List Form → Type 0) → List Form → Type 0
Knowing knows claim forms = knows forms × claim forms

-- So it is where memory sufficed.
abbrev pub Sufficing : Result (Unit {0}) AllocError → (List Form → Type 0) → (List Form → Type 0)
    → List Form → Type 0
Sufficing result knows claim forms = OnOk result (knows forms × claim forms)

-- ---- ends

-- The end that the search tells, with the set that was found short, and the values that were refuted.
abbrev pub end_by : DeadEnd → Option CountedSet → List ℕ → End
end_by (dead_end.Failed f) short values = end_of f short
end_by (dead_end.Exhausted p) short values = Exhausted p values

-- Its numbers are in range.
abbrev pub IsEndIn : Problem → List Row → End → Type 0
IsEndIn q rows (Empty p) = p < size q.pattern
IsEndIn q rows (Whole name) = IsNogoodRow rows name
IsEndIn q rows (Short centre vertices values) = IsSetIn q centre vertices values
IsEndIn q rows (Exhausted p values) = p < size q.pattern

-- Of the changes these are chosen for some needed values, among them all that the end needs.
pub record IsChosenFor (q : Problem) (rows : List Row) (path : List (ℕ
    × ℕ)) (cs : List Change) (chosen : List Chosen) (e : End) : Type 0 where
  pub needed : ℕ → ℕ → Bool
  pub needs : EndNeeds rows path e needed
  pub choice : IsChoice q rows path cs chosen needed

-- The references of refuted values name their clauses.
abbrev pub AreRefuted : Problem → List (ℕ × ℕ) → End → Frame → List Ref → List Form → Type 0
AreRefuted q path (Exhausted p values) w refs forms = AreNamed w forms refs
    (value_clauses q path p values)
AreRefuted q path (Empty p) w refs forms = Unit {0}
AreRefuted q path (Whole name) w refs forms = Unit {0}
AreRefuted q path (Short centre vertices values) w refs forms = Unit {0}

-- The references name forms that explain the changes, and then those that the end comes to.
pub record EndExplained (q : Problem) (rows : List Row) (w : Frame) (path : List (ℕ
    × ℕ)) (cs : List Chosen) (e : End) (refs : List Ref) (forms : List Form) : Type 0 where
  pub own : List Form
  pub ends : List Form
  pub explained : ExplainAll q rows path cs own
  pub in_end : EndsIn q rows path (known_after path cs) e ends
  pub named : AreNamed w forms refs (own ++ ends)

-- ---- dead paths

-- What has to be so of the forms before: what the maker knows, and that the references of rows and of refuted values name their clauses.
pub record IsBegun (q : Problem) (rows : List Row) (w : Frame) (names : ℕ
    → Ref) (path : List (ℕ × ℕ)) (e : End) (refuted : List Ref) (forms : List Form) : Type 0 where
  pub rows_named : AreRowsNamed q rows w names forms
  pub refuted_named : AreRefuted q path e w refuted forms

-- The name that is answered is that of the path's clause. There is one wherever lines are kept.
abbrev pub IsDeadName : Problem → List (ℕ × ℕ) → Frame → (List Form → Type 0)
    → Result (Option Name) AllocError → List Form → Type 0
IsDeadName q path w knows (Ok (Some n)) forms = knows forms
    × IsNamed w forms (Made n) (pairs_clause q path)
IsDeadName q path w knows (Ok None) forms = ⊥
IsDeadName q path w knows (Err e) forms = Unit {0}

-- The name is that of the last line, where lines are kept.
abbrev pub IsLastOf : Option (List Step) → Name → Type 0
IsLastOf None n = Unit {0}
IsLastOf (Some lines) n = n.number ≡ length lines

-- ---- what is pushed

-- References are pushed that name these forms.
pub record Adds (w : Frame) (old new : List Ref) (fs : List Form) (forms : List Form) : Type 0 where
  pub more : List Ref
  pub front : new ≡ old ++ more
  pub named : AreNamed w forms more fs

-- To the lines of vertices that bear the first of these pairs, where the known pairs hold.
pub record AddsBorne (q : Problem) (known : List (ℕ × ℕ)) (but : Option ℕ) (pairs : List (ℕ
    × ℕ)) (count : ℕ) (old new : List Ref) : Type 0 where
  pub vertices : List ℕ
  pub inside : AreVertices q vertices
  pub front : new ≡ old ++ at_least_refs q vertices
  pub borne : (k : ℕ) → k < count → IsBorne known vertices but (literal pairs k)

-- To the lines that a nogood row needs: those of vertices that bear its pairs, and its own.
pub record AddsNogood (q : Problem) (rows : List Row) (names : ℕ
    → Ref) (known : List (ℕ × ℕ)) (but : Option ℕ) (name : ℕ) (old new : List Ref) : Type 0 where
  pub vertices : List ℕ
  pub inside : AreVertices q vertices
  pub front : new ≡ old ++ (at_least_refs q vertices ++ names name ∷ [])
  pub borne : AreBorne known vertices but (path_at rows name)

-- To the line of a vertex, unless its pair is known.
abbrev pub MayAdd : Problem → List (ℕ × ℕ) → ℕ → ℕ → List Ref → List Ref → Type 0
MayAdd q known p t old new = ((new ≡ old)
    × IsOneOf known (p, t)) ⊎ (new ≡ old ++ at_least_ref q p ∷ [])

-- To the line of a set.
abbrev pub IsSetPushed : Problem → Option ℕ → List ℕ → List ℕ → Frame → List Ref → List Ref
    → (List Form → Type 0) → Result (Unit {0}) AllocError → List Form → Type 0
IsSetPushed q b vertices values w old new knows result forms = OnOk result (knows forms
    × Adds w old new (set_forms q b vertices values) forms)

-- To the line of a crowd.
abbrev pub IsCrowdPushed : Problem → ℕ → ℕ → List ℕ → List ℕ → Frame → List Ref → List Ref
    → Result (Unit {0}) AllocError → List Form → Type 0
IsCrowdPushed q p t vertices values w old new result forms = OnOk result
    (Adds w old new (crowd_forms q p t vertices values) forms)

-- To forms that explain a change.
pub record AddsFor (q : Problem) (rows : List Row) (known : List (ℕ
    × ℕ)) (c : Chosen) (w : Frame) (old new : List Ref) (forms : List Form) : Type 0 where
  pub own : List Form
  pub explains : ExplainsChange q rows known c own
  pub adds : Adds w old new own forms

abbrev pub IsChangePushed : Problem → List Row → List (ℕ × ℕ) → Chosen → Frame → List Ref
    → List Ref → (List Form → Type 0) → Result (Unit {0}) AllocError → List Form → Type 0
IsChangePushed q rows known c w old new knows result forms = OnOk result (knows forms
    × AddsFor q rows known c w old new forms)

-- To forms that explain changes.
abbrev pub AreChangesPushed : Problem → List Row → List (ℕ × ℕ) → Frame → (ℕ → Ref) → List Chosen
    → List Ref → (List Form → Type 0) → Result (Unit {0}) AllocError → List Form → Type 0
AreChangesPushed q rows path w names cs refs knows result forms = OnOk result (knows forms
    × Explained q rows path w names cs refs forms)

-- To the forms that an end comes to, where the known pairs hold.
pub record AddsEnd (q : Problem) (rows : List Row) (path known : List (ℕ
    × ℕ)) (e : End) (w : Frame) (old new : List Ref) (forms : List Form) : Type 0 where
  pub ends : List Form
  pub in_end : EndsIn q rows path known e ends
  pub adds : Adds w old new ends forms

abbrev pub IsEndPushed : Problem → List Row → List (ℕ × ℕ) → List (ℕ × ℕ) → End → Frame
    → List Ref → List Ref → (List Form → Type 0) → Result (Unit {0}) AllocError → List Form → Type 0
IsEndPushed q rows path known e w old new knows result forms = OnOk result (knows forms
    × AddsEnd q rows path known e w old new forms)

-- To the forms that explain changes, and then to those that the end comes to.
abbrev pub AreGathered : Problem → List Row → Frame → List (ℕ × ℕ) → List Chosen → End → List Ref
    → (List Form → Type 0) → Result (Unit {0}) AllocError → List Form → Type 0
AreGathered q rows w path cs e refs knows result forms = OnOk result (knows forms
    × EndExplained q rows w path cs e refs forms)
