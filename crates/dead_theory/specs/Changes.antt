-- What explains a change that was told, which values it is about, and which its reason rests on.

use Rattle.std.specs.Prelude.{◌≡◌, ℕ, ◌<◌, ◌≤◌, Bool, true, false, ◌⊎◌, List, [], ◌∷◌, ◌++◌, length, map, is_some, Contains, Option, Some, None, slice_get}
use Rattle.graph_theory.specs.Graph.{size, edge}
use Rattle.graph_theory.specs.Reversed.{turned}
use Rattle.graph_theory.specs.Embedding.{Problem, is_injective, Compatible}
use Rattle.graph_theory.specs.Blocks.{in_block, has_block}
use Rattle.graph_theory.specs.declared.direction.Direction.{Direction}
use Rattle.proof_theory.specs.Forms.{Form}
use Rattle.log_theory.specs.Lookups.{is_among}
use Rattle.encoding_theory.specs.Encoding.{at_least, at_most, leads_form, pair_form}
use Rattle.encoding_theory.specs.Pairs.{is_compatible}
use Rattle.explanation_theory.specs.Reasons.{pairs_clause, at_leasts, set_form, over_form, ForcesFirst, ForcesBeside, ForcesByEdges}
use Rattle.search_theory.specs.Consistency.{IsFirstValue, AreConsistent}
use Rattle.nogood_watch.specs.Nogoods as watched
use Rattle.nogood_watch.specs.Nogoods.{literal}
use Rattle.nogood_book.specs.declared.row.Row.{Row}
use Rattle.nogood_book.specs.Rows.{path_at}
use Rattle.nogood_book.specs.Places.{IsNogoodRow}
use Rattle.recorder.specs.declared.change.Cause.{Cause}
use Rattle.recorder.specs.declared.change.Cause.TheVariants as cause
use Rattle.recorder.specs.declared.change.Side.{Side}
use Rattle.recorder.specs.Recording.{Change, LeftOne, LeftOthers, LeftOver}
use Rattle.recorder.specs.Telling.{IsNamed, Joins, end_at, end_beside, is_beside}

-- ---- names

-- A nogood that is kept under a name is a nogood row at that place, and has the row's path.
abbrev pub NamesRows : List Row → Option watched.State → Type 0
NamesRows rows s = (name : ℕ) (pairs : List (ℕ × ℕ)) → IsNamed s name pairs
    → IsNogoodRow rows name × (path_at rows name ≡ pairs)

-- ---- changes that are chosen

-- A change that is chosen. Of what a decided vertex takes either all is asked, or only what edges refuse.
pub record Chosen : Type 0 where
  pub change : Change
  pub by_edges : Bool

-- As they were told.
abbrev pub told_of : List Chosen → List Change
told_of chosen = map (λ c. c.change) chosen

-- ---- pairs that hold

-- The pair is one of these.
abbrev pub IsOneOf : List (ℕ × ℕ) → ℕ × ℕ → Type 0
IsOneOf [] x = ⊥
IsOneOf (y ∷ ys) x = (y ≡ x) ⊎ IsOneOf ys x

-- What a change shows to hold for what comes after it: a decided vertex is at its value.
abbrev pub shown_by : Cause → List (ℕ × ℕ) → List (ℕ × ℕ)
shown_by cause.First known = known
shown_by (cause.Guess t) known = known
shown_by (cause.Vertex p t) known = (p, t) ∷ known
shown_by (cause.Nogood name) known = known
shown_by (cause.Edge p u direction) known = known
shown_by (cause.Order k u side) known = known

abbrev pub shown_of : Change → List (ℕ × ℕ) → List (ℕ × ℕ)
shown_of (LeftOne r why from) known = shown_by why known
shown_of (LeftOthers centre vertices values from) known = known
shown_of (LeftOver p t direction vertices values from) known = known

-- The pairs that hold once these changes, the last one first, are explained: those of the path, and what the changes show.
abbrev pub known_after : List (ℕ × ℕ) → List Chosen → List (ℕ × ℕ)
known_after path [] = path
known_after path (c ∷ cs) = shown_of c.change (known_after path cs)

-- ---- forms that explain a change

-- Each pair is known to hold, or its vertex is one of these, or it is of the vertex that is left out, if any.
abbrev pub IsLeftOut : Option ℕ → ℕ → Type 0
IsLeftOut None p = ⊥
IsLeftOut (Some r) p = p ≡ r

abbrev pub IsBorne : List (ℕ × ℕ) → List ℕ → Option ℕ → ℕ × ℕ → Type 0
IsBorne known vertices but x = IsLeftOut but x.0 ⊎ (IsOneOf known x
    ⊎ (is_among x.0 vertices ≡ true))

abbrev pub AreBorne : List (ℕ × ℕ) → List ℕ → Option ℕ → List (ℕ × ℕ) → Type 0
AreBorne known vertices but pairs = (k : ℕ) → k < length pairs
    → IsBorne known vertices but (literal pairs k)

-- That some vertices go somewhere, and that not all of these pairs hold.
abbrev pub NogoodForms : Problem → List (ℕ × ℕ) → Option ℕ → List (ℕ × ℕ) → List Form → Type 0
NogoodForms q known but pairs forms = (vertices : List ℕ)
    × (forms ≡ at_leasts q vertices ++ pairs_clause q pairs ∷ [])
    × AreBorne known vertices but pairs

-- Whether edges alone are asked or not, the line takes from r what does not go with p at t.
abbrev pub Forces : Bool → Problem → Form → ℕ → ℕ → ℕ → Type 0
Forces false q line p t r = ForcesBeside q line p t r
Forces true q line p t r = ForcesByEdges q line p t r

-- The form says that with r at u the other vertex of pair k goes past u, or below it.
pub record IsOrdered (q : Problem) (k : ℕ) (side : Side) (r u : ℕ) (forms : List Form) : Type 0 where
  pub pair : ℕ × ℕ
  pub pair_is : slice_get q.less k ≡ Some pair
  pub are : forms ≡ leads_form q r u (end_beside side pair) (is_beside side u) ∷ []

-- The forms explain what the cause takes from r, where the known pairs hold: a line for its first domain; that it goes to one place; that p
-- goes somewhere, unless it is known to be at t, and then a line for p beside r; what a nogood row needs; the encoding's line for an edge
-- between r and p: that with r at u it leads on to a place of p; or that for a pair that is to be in order: that with r at u the other vertex
-- goes past u, or below it.
abbrev pub ExplainsBy : Bool → Cause → Problem → List Row → List (ℕ × ℕ) → ℕ → List Form → Type 0
ExplainsBy by_edges cause.First q rows known r forms = (line : Form) × (forms ≡ line ∷ [])
    × ForcesFirst q line r
ExplainsBy by_edges (cause.Guess t) q rows known r forms = forms ≡ at_most q r ∷ []
ExplainsBy by_edges (cause.Vertex p t) q rows known r forms =
    (line : Form) × (((forms ≡ line ∷ [])
    × IsOneOf known (p, t)) ⊎ (forms ≡ at_least q p ∷ line ∷ [])) × Forces by_edges q line p t r
ExplainsBy by_edges (cause.Nogood name) q rows known r forms = NogoodForms q known (Some r)
    (path_at rows name) forms
ExplainsBy by_edges (cause.Edge p u direction) q rows known r forms =
    forms ≡ pair_form q r p u ∷ []
ExplainsBy by_edges (cause.Order k u side) q rows known r forms = IsOrdered q k side r u forms

-- One line for a set of a block; a set of no vertices takes nothing.
abbrev pub set_forms : Problem → Option ℕ → List ℕ → List ℕ → List Form
set_forms q b [] values = []
set_forms q b (p ∷ rest) values = set_form q b p rest values ∷ []

-- One line for neighbours that are crowded beside p at t; no neighbours are.
abbrev pub crowd_forms : Problem → ℕ → ℕ → List ℕ → List ℕ → List Form
crowd_forms q p t [] values = []
crowd_forms q p t (r ∷ rest) values = over_form q p t r rest values ∷ []

-- So it is of a change, and of one that is chosen.
abbrev pub ExplainsTold : Bool → Problem → List Row → List (ℕ × ℕ) → Change → List Form → Type 0
ExplainsTold by_edges q rows known (LeftOne r why from) forms = ExplainsBy by_edges why q rows known
    r forms
ExplainsTold by_edges q rows known (LeftOthers centre vertices values from) forms =
    forms ≡ set_forms q centre vertices values
ExplainsTold by_edges q rows known (LeftOver p t direction vertices values from) forms =
    forms ≡ crowd_forms q p t vertices values

abbrev pub ExplainsChange : Problem → List Row → List (ℕ × ℕ) → Chosen → List Form → Type 0
ExplainsChange q rows known c forms = ExplainsTold c.by_edges q rows known c.change forms

-- The forms explain these changes, the last one first, under a path; those of the earlier changes stand first.
abbrev pub ExplainAll : Problem → List Row → List (ℕ × ℕ) → List Chosen → List Form → Type 0
ExplainAll q rows path [] forms = forms ≡ []
ExplainAll q rows path (c ∷ cs) forms =
    (before own : List Form) × (forms ≡ before ++ own) × ExplainAll q rows path cs before
    × ExplainsChange q rows (known_after path cs) c own

-- ---- which values a change is about

-- It may take u from r: a value that is not in the first domain, any other than the guessed one, one that is not consistent with the decided
-- vertex, one of the nogood, the one that the cause names; or from a vertex of the block that is not of the set a value of it.
abbrev pub MayTakeBy : Cause → Problem → List Row → ℕ → ℕ → Type 0
MayTakeBy cause.First q rows r u = IsFirstValue q r u → ⊥
MayTakeBy (cause.Guess t) q rows r u = u ≡ t → ⊥
MayTakeBy (cause.Vertex p t) q rows r u = AreConsistent q p t r u → ⊥
MayTakeBy (cause.Nogood name) q rows r u = IsNogoodRow rows name
    × IsOneOf (path_at rows name) (r, u)
MayTakeBy (cause.Edge p v direction) q rows r u = u ≡ v
MayTakeBy (cause.Order k v side) q rows r u = u ≡ v

abbrev pub MayTake : Problem → List Row → Change → ℕ → ℕ → Type 0
MayTake q rows (LeftOne p why from) r u = (r ≡ p) × MayTakeBy why q rows r u
MayTake q rows (LeftOthers centre vertices values from) r u = (in_block q centre r ≡ true)
    × (is_among r vertices ≡ false) × (is_among u values ≡ true)
MayTake q rows (LeftOver p t direction vertices values from) r u = (r ≡ p) × (u ≡ t)

-- The two go together, as all is asked, or as edges say alone.
abbrev pub GoTogether : Bool → Problem → ℕ → ℕ → ℕ → ℕ → Type 0
GoTogether false q p t r u = AreConsistent q p t r u
GoTogether true q p t r u = Compatible q p t r u

-- Its forms take u from r whether or not it did: they do so of what the cause refuses. A guessed value was there, so it need not be out.
abbrev pub CoversBy : Bool → Cause → Problem → ℕ → ℕ → Type 0
CoversBy by_edges cause.First q r u = ⊥
CoversBy by_edges (cause.Guess t) q r u = Unit {0}
CoversBy by_edges (cause.Vertex p t) q r u = GoTogether by_edges q p t r u → ⊥
CoversBy by_edges (cause.Nogood name) q r u = ⊥
CoversBy by_edges (cause.Edge p v direction) q r u = u ≡ v
CoversBy by_edges (cause.Order k v side) q r u = u ≡ v

abbrev pub CoversTold : Bool → Problem → Change → ℕ → ℕ → Type 0
CoversTold by_edges q (LeftOne p why from) r u = (r ≡ p) × CoversBy by_edges why q r u
CoversTold by_edges q (LeftOthers centre vertices values from) r u = (r < size q.pattern)
    × (in_block q centre r ≡ true) × (is_among r vertices ≡ false) × (is_among u values ≡ true)
CoversTold by_edges q (LeftOver p t direction vertices values from) r u = (r ≡ p) × (u ≡ t)

abbrev pub Covers : Problem → Chosen → ℕ → ℕ → Type 0
Covers q c r u = CoversTold c.by_edges q c.change r u

-- If it took u from r its forms do: what goes together by what is asked is consistent.
abbrev pub SufficesBy : Bool → Cause → Problem → ℕ → ℕ → Type 0
SufficesBy by_edges cause.First q r u = Unit {0}
SufficesBy by_edges (cause.Guess t) q r u = Unit {0}
SufficesBy by_edges (cause.Vertex p t) q r u = GoTogether by_edges q p t r u
    → AreConsistent q p t r u
SufficesBy by_edges (cause.Nogood name) q r u = Unit {0}
SufficesBy by_edges (cause.Edge p v direction) q r u = Unit {0}
SufficesBy by_edges (cause.Order k v side) q r u = Unit {0}

abbrev pub SufficesTold : Bool → Problem → Change → ℕ → ℕ → Type 0
SufficesTold by_edges q (LeftOne p why from) r u = r ≡ p → SufficesBy by_edges why q r u
SufficesTold by_edges q (LeftOthers centre vertices values from) r u = Unit {0}
SufficesTold by_edges q (LeftOver p t direction vertices values from) r u = Unit {0}

abbrev pub Suffices : Problem → Chosen → ℕ → ℕ → Type 0
Suffices q c r u = SufficesTold c.by_edges q c.change r u

-- ---- which values have to be out before a change

-- All values of the pair's vertex but its own are needed, unless the path has the pair, or it is of the vertex that is left out.
abbrev pub IsUpheld : List (ℕ × ℕ) → Option ℕ → (ℕ → ℕ → Bool) → ℕ × ℕ → Type 0
IsUpheld path but needed x = IsLeftOut but x.0 ⊎ (IsOneOf path x ⊎ ((u : ℕ) → (u ≡ x.1 → ⊥)
    → needed x.0 u ≡ true))

abbrev pub AreUpheld : List (ℕ × ℕ) → Option ℕ → (ℕ → ℕ → Bool) → List (ℕ × ℕ) → Type 0
AreUpheld path but needed pairs = (k : ℕ) → k < length pairs
    → IsUpheld path but needed (literal pairs k)

-- All values of the vertices that are none of these.
abbrev pub AreKeptIn : List ℕ → List ℕ → (ℕ → ℕ → Bool) → Type 0
AreKeptIn vertices values needed = (r u : ℕ) → is_among r vertices ≡ true
    → is_among u values ≡ false → needed r u ≡ true

-- All values of p that may stand beside u for r: those that the line of this pair lists.
abbrev pub AllSupport : Problem → ℕ → ℕ → ℕ → (ℕ → ℕ → Bool) → Type 0
AllSupport q p r u needed = (w : ℕ) → w < size q.target → is_compatible q r u p w ≡ true
    → needed p w ≡ true

-- All values of these vertices to which an edge leads from t, in the direction, t itself and the values of the set aside.
abbrev pub AllBeside : Problem → Direction → ℕ → List ℕ → List ℕ → (ℕ → ℕ → Bool) → Type 0
AllBeside q direction t vertices values needed = (r u : ℕ) → is_among r vertices ≡ true
    → u < size q.target → (t ≡ u → ⊥) → is_some (edge (turned direction q.target) t u) ≡ true
    → is_among u values ≡ false → needed r u ≡ true

-- All values of the other vertex of pair k on its side of u.
abbrev pub AllOnSide : Problem → ℕ → ℕ → Side → (ℕ → ℕ → Bool) → Type 0
AllOnSide q k u side needed = (x : ℕ × ℕ) → slice_get q.less k ≡ Some x → (w : ℕ)
    → w < size q.target → is_beside side u w ≡ true → needed (end_beside side x) w ≡ true

-- What the reason of a change rests on is needed.
abbrev pub NeedsBy : Cause → Problem → List Row → List (ℕ × ℕ) → ℕ → (ℕ → ℕ → Bool) → Type 0
NeedsBy cause.First q rows path r needed = Unit {0}
NeedsBy (cause.Guess t) q rows path r needed = Unit {0}
NeedsBy (cause.Vertex p t) q rows path r needed = IsUpheld path None needed (p, t)
NeedsBy (cause.Nogood name) q rows path r needed = AreUpheld path (Some r) needed
    (path_at rows name)
NeedsBy (cause.Edge p u direction) q rows path r needed = AllSupport q p r u needed
NeedsBy (cause.Order k u side) q rows path r needed = AllOnSide q k u side needed

abbrev pub Needs : Problem → List Row → List (ℕ × ℕ) → Change → (ℕ → ℕ → Bool) → Type 0
Needs q rows path (LeftOne r why from) needed = NeedsBy why q rows path r needed
Needs q rows path (LeftOthers centre vertices values from) needed = AreKeptIn vertices values
    needed
Needs q rows path (LeftOver p t direction vertices values from) needed = AllBeside q direction t
    vertices values needed

-- ---- guesses

-- What is guessed is a pair of the path.
abbrev pub IsGuessed : List (ℕ × ℕ) → Change → Type 0
IsGuessed path (LeftOne r (cause.Guess t) from) = Contains path (r, t)
IsGuessed path (LeftOne r cause.First from) = Unit {0}
IsGuessed path (LeftOne r (cause.Vertex p t) from) = Unit {0}
IsGuessed path (LeftOne r (cause.Nogood name) from) = Unit {0}
IsGuessed path (LeftOne r (cause.Edge p u direction) from) = Unit {0}
IsGuessed path (LeftOne r (cause.Order k u side) from) = Unit {0}
IsGuessed path (LeftOthers centre vertices values from) = Unit {0}
IsGuessed path (LeftOver p t direction vertices values from) = Unit {0}

abbrev pub AreGuessed : List (ℕ × ℕ) → List Change → Type 0
AreGuessed path [] = Unit {0}
AreGuessed path (c ∷ cs) = IsGuessed path c × AreGuessed path cs

-- ---- ranges

-- The vertex is at this end of pair k.
pub record IsEndOf (q : Problem) (k : ℕ) (side : Side) (r : ℕ) : Type 0 where
  pub pair : ℕ × ℕ
  pub pair_is : slice_get q.less k ≡ Some pair
  pub end_is : end_at side pair ≡ r
  pub vertex_in : r < size q.pattern
  pub other_in : end_beside side pair < size q.pattern

-- Vertices of a block that there is, no more than the pattern has, and values, no more than these vertices.
pub record IsSetIn (q : Problem) (centre : Option ℕ) (vertices values : List ℕ) : Type 0 where
  pub block : has_block q centre ≡ true
  pub members : (p : ℕ) → is_among p vertices ≡ true → in_block q centre p ≡ true
  pub vertices_in : (p : ℕ) → is_among p vertices ≡ true → p < size q.pattern
  pub values_in : (u : ℕ) → is_among u values ≡ true → u < size q.target
  pub vertices_few : length vertices ≤ size q.pattern
  pub values_few : length values ≤ length vertices

-- A pair of injective maps, vertices to which edges lead from its vertex, no more than the pattern has, and values, no more than these vertices.
pub record IsCrowdIn (q : Problem) (p t : ℕ) (direction : Direction) (vertices values : List
    ℕ) : Type 0 where
  pub injective : is_injective q.maps ≡ true
  pub vertex_in : p < size q.pattern
  pub value_in : t < size q.target
  pub joins : (r : ℕ) → is_among r vertices ≡ true → Joins q direction p r
  pub values_in : (u : ℕ) → is_among u values ≡ true → u < size q.target
  pub vertices_few : length vertices ≤ size q.pattern
  pub values_few : length values ≤ length vertices

-- The numbers of a change are vertices and values of the problem.
abbrev pub IsInBy : Cause → Problem → ℕ → Type 0
IsInBy cause.First q r = r < size q.pattern
IsInBy (cause.Guess t) q r = (r < size q.pattern) × (t < size q.target)
IsInBy (cause.Vertex p t) q r = (p < size q.pattern) × (t < size q.target) × (r < size q.pattern)
    × (p ≡ r → ⊥)
IsInBy (cause.Nogood name) q r = r < size q.pattern
IsInBy (cause.Edge p u direction) q r = Joins q direction p r × (u < size q.target)
IsInBy (cause.Order k u side) q r = IsEndOf q k side r × (u < size q.target)

abbrev pub IsInProblem : Problem → Change → Type 0
IsInProblem q (LeftOne r why from) = IsInBy why q r
IsInProblem q (LeftOthers centre vertices values from) = IsSetIn q centre vertices values
IsInProblem q (LeftOver p t direction vertices values from) = IsCrowdIn q p t direction vertices
    values

abbrev pub AreInProblem : Problem → List Change → Type 0
AreInProblem q [] = Unit {0}
AreInProblem q (c ∷ cs) = IsInProblem q c × AreInProblem q cs
