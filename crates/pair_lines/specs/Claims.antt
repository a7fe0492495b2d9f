-- What a table of names says of the forms of a log, and what the line for a pair of vertices is.

use Rattle.std.specs.Prelude.{◌≡◌, ℕ, ◌<◌, Bool, true, false, List, Option, Some, None, Result, Ok, Err, IsSome}
use Rattle.std.specs.declared.alloc.AllocError.{AllocError}
use Rattle.graph_theory.specs.Graph.{size}
use Rattle.graph_theory.specs.Embedding.{Problem}
use Rattle.graph_theory.specs.Neighbours.{is_neighbour}
use Rattle.graph_theory.specs.Reversed.{reversed_problem}
use Rattle.proof_theory.specs.Forms.{Form}
use Rattle.log_theory.specs.declared.step.Name.{Name}
use Rattle.log_theory.specs.declared.step.Ref.{Ref}
use Rattle.log_theory.specs.declared.step.Ref.TheVariants.{Made}
use Rattle.log_theory.specs.declared.step.Op.{Op}
use Rattle.log_theory.specs.declared.step.Step.TheVariants.{P}
use Rattle.explanation_theory.specs.Reasons.{ForcesBeside, ForcesByEdges}
use Rattle.pair_line_theory.specs.Rows.{is_paired, spread_form, not_both_form}
use Rattle.pair_line_theory.specs.Laws.{ForcesShared}
use Rattle.encoding_theory.specs.Variables.{variables}
use Rattle.log_growth.specs.Frames.{Frame, HoldsModel, IsNamed, IsKept, MayFollow}
use Rattle.pair_lines.specs.declared.pair_lines.PairLines.{PairLines}
use Rattle.pair_lines.specs.declared.sharing.Sharing.{Sharing}
use Rattle.pair_lines.specs.declared.sharing.Sharing.TheVariants.{Nothing, Many}
use Rattle.pair_lines.specs.declared.sharing.Asked.TheVariants.{Out}
use Rattle.pair_lines.specs.declared.turned_names.Spreads.{Spreads}
use Rattle.pair_lines.specs.declared.meeting.Meeting.{Meeting}
use Rattle.pair_lines.specs.Choices.{IsAsked, IsMeeting, alone_line, Names, entry_at, pair_name, not_both_name}

-- The frame has the encoding of this problem, and its variables: it is one of this problem, or of the problem turned round.
pub record HasEncoding (q : Problem) (owner : ℕ) (w : Frame) : Type 0 where
  pub variables_are : variables w.problem ≡ variables q
  pub owner_is : w.owner ≡ owner
  pub model : HoldsModel q w.base

-- Each name of the table is that of the line that counts shared neighbours there, or of the clause that two are not both there.
pub record AreSpreads (w : Frame) (q : Problem) (names : Names) (forms : List Form) : Type 0 where
  pub named : (p r v : ℕ) (n : Name) → p < size q.pattern → r < size q.pattern
      → v < size q.target → pair_name names p r v ≡ Some n
      → IsNamed w forms (Made n) (spread_form q p r v)
  pub apart : (m r v : ℕ) (n : Name) → m < size q.pattern → r < size q.pattern
      → v < size q.target → not_both_name names m r v ≡ Some n
      → IsNamed w forms (Made n) (not_both_form q m r v)

-- So they are, and the name that is answered is that of the clause that m and r are not both at v.
abbrev pub IsNotBoth : Frame → Problem → ℕ → ℕ → ℕ → Names → Result Name AllocError → List Form
    → Type 0
IsNotBoth w q m r v names result forms = AreSpreads w q names forms
    × IsKept w result (not_both_form q m r v) forms

-- The operations that are answered may be kept as the line that counts shared neighbours at v.
abbrev pub MaySpread : Frame → Problem → ℕ → ℕ → ℕ → Result (List Op) AllocError → List Form
    → Type 0
MaySpread w q p r v (Ok ops) forms = (name : Name)
    → MayFollow w forms (P name ops) (spread_form q p r v)
MaySpread w q p r v (Err e) forms = Unit {0}

-- So they may, and the table's names are right.
abbrev pub HasSpreadOps : Frame → Problem → ℕ → ℕ → ℕ → Names → Result (List Op) AllocError
    → List Form → Type 0
HasSpreadOps w q p r v names result forms = AreSpreads w q names forms
    × MaySpread w q p r v result forms

-- What has a name keeps one.
abbrev pub Stay : Names → Names → Type 0
Stay old new = (k : ℕ) → IsSome (entry_at old k) → IsSome (entry_at new k)

-- The table has the names that a line at t needs.
abbrev pub HasAround : Problem → Names → Sharing → ℕ → ℕ → ℕ → Type 0
HasAround q names (Many c) p t r = (v : ℕ) → v < size q.target → is_neighbour q.target t v ≡ true
    → IsSome (pair_name names p r v)
HasAround q names sharing p t r = Unit {0}

-- The name that is answered is that of a line which takes from r what does not go with p at t, or shares too little, in the direction of edges.
abbrev pub IsSharedLine : Frame → Problem → ℕ → ℕ → ℕ → Result Name AllocError → List Form → Type 0
IsSharedLine w q p t r (Ok n) forms = (f : Form) × IsNamed w forms (Made n) f
    × ForcesShared q f p t r
IsSharedLine w q p t r (Err e) forms = Unit {0}

-- So it is, and the table's names are right.
abbrev pub IsSharedRow : Frame → Problem → ℕ → ℕ → ℕ → Names → Result Name AllocError → List Form
    → Type 0
IsSharedRow w q p t r names result forms = AreSpreads w q names forms
    × IsSharedLine w q p t r result forms

-- ---- both directions

-- The names of each direction's table are right.
abbrev pub AreTurned : Frame → Problem → Spreads → List Form → Type 0
AreTurned w q spreads forms = AreSpreads w q spreads.out forms
    × AreSpreads w (reversed_problem q) spreads.back forms

-- The two names are those of lines of each direction.
abbrev pub AreBothLines : Frame → Problem → ℕ → ℕ → ℕ → Name → Name → List Form → Type 0
AreBothLines w q p t r out back forms = IsSharedLine w q p t r (Ok out) forms
    × IsSharedLine w (reversed_problem q) p t r (Ok back) forms

-- The name that is answered is that of a line which takes from r what is not consistent with p at t.
abbrev pub IsRowLine : Frame → Problem → ℕ → ℕ → ℕ → Result Name AllocError → List Form → Type 0
IsRowLine w q p t r (Ok n) forms = (f : Form) × IsNamed w forms (Made n) f × ForcesBeside q f p t r
IsRowLine w q p t r (Err e) forms = Unit {0}

-- So it is, and the tables' names are right.
abbrev pub IsRow : Frame → Problem → ℕ → ℕ → ℕ → Spreads → Result Name AllocError → List Form
    → Type 0
IsRow w q p t r spreads result forms = AreTurned w q spreads forms
    × IsRowLine w q p t r result forms

-- ---- all lines that were made

-- What a line for p at t and r is to force.
abbrev pub Force : Type 1
Force = Form → ℕ → ℕ → ℕ → Type 0

-- The reference names a line that forces this.
abbrev pub IsLineOf : Frame → Force → ℕ → ℕ → ℕ → Ref → List Form → Type 0
IsLineOf w force p t r ref forms = (f : Form) × IsNamed w forms ref f × force f p t r

-- The reference names a line which takes from r what is not consistent with p at t; or, by edges alone, what edges, and their labels, do not let
-- go together with p at t.
abbrev pub IsRowNamed : Bool → Frame → Problem → ℕ → ℕ → ℕ → Ref → List Form → Type 0
IsRowNamed false w q p t r ref forms = IsLineOf w (ForcesBeside q) p t r ref forms
IsRowNamed true w q p t r ref forms = IsLineOf w (ForcesByEdges q) p t r ref forms

-- Each name of the table is that of a line that forces this.
pub record AreRows (w : Frame) (q : Problem) (force : Form → ℕ → ℕ → ℕ → Type 0) (names : Names)
    (forms : List Form) : Type 0 where
  pub named : (p t r : ℕ) (n : Name) → p < size q.pattern → t < size q.target
      → r < size q.pattern → pair_name names p r t ≡ Some n → IsLineOf w force p t r (Made n) forms

-- The names of all tables are right.
abbrev pub Knows : Frame → Problem → PairLines → List Form → Type 0
Knows w q lines forms = AreTurned w q lines.spreads forms
    × AreRows w q (ForcesBeside q) lines.rows forms
    × AreRows w q (ForcesByEdges q) lines.edge_rows forms

-- So they are, and the reference that is answered names a line for p at t and r.
abbrev pub IsKnownRow : Bool → Frame → Problem → ℕ → ℕ → ℕ → PairLines → Result Ref AllocError
    → List Form → Type 0
IsKnownRow by_edges w q p t r lines (Ok ref) forms = Knows w q lines forms
    × IsRowNamed by_edges w q p t r ref forms
IsKnownRow by_edges w q p t r lines (Err e) forms = Knows w q lines forms

-- A line of the encoding serves: nothing but the place itself is refused, or nothing at all.
pub record IsServed (q : Problem) (p t r : ℕ) (ref : Ref) : Type 0 where
  pub meeting : Meeting
  pub is_so : IsMeeting q p r meeting
  pub line : ref ≡ alone_line q meeting t r
  pub asked : IsAsked q p r (Out Nothing)
  pub unpaired : is_paired q p r ≡ false

abbrev pub IsThere : Problem → ℕ → ℕ → ℕ → Option Ref → Type 0
IsThere q p t r None = Unit {0}
IsThere q p t r (Some ref) = IsServed q p t r ref
