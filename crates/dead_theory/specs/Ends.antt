-- How a path of a search ends, what that says of the domains, and the forms that it comes to.

use Rattle.std.specs.Prelude.{◌≡◌, ℕ, ◌<◌, Bool, true, List, [], ◌∷◌, ◌++◌, length, Option, Some, None}
use Rattle.graph_theory.specs.Graph.{size}
use Rattle.graph_theory.specs.Embedding.{Problem}
use Rattle.proof_theory.specs.Forms.{Form}
use Rattle.log_theory.specs.Lookups.{is_among}
use Rattle.encoding_theory.specs.Encoding.{at_least}
use Rattle.explanation_theory.specs.Reasons.{value_clauses}
use Rattle.domain_bits.specs.Removals.{State, in_domain}
use Rattle.nogood_watch.specs.Nogoods as watched
use Rattle.nogood_book.specs.declared.row.Row.{Row}
use Rattle.nogood_book.specs.Rows.{path_at}
use Rattle.nogood_book.specs.Places.{IsNogoodRow}
use Rattle.recorder.specs.declared.change.Failure.{Failure}
use Rattle.recorder.specs.declared.change.Failure.TheVariants as failure
use Rattle.recorder.specs.Recording.{CountedSet}
use Rattle.recorder.specs.Telling.{HasNone, HaveOnly, IsDecided}
use Rattle.dead_theory.specs.Changes.{NogoodForms, set_forms, AreUpheld, AreKeptIn, IsSetIn}

-- A vertex has no value; all pairs of the nogood of a name are decided; vertices of a block have fewer values together than they are; or each value
-- that is left for a vertex is one of these, which were refuted below the path.
pub data End : Type 0 where
  Empty : ℕ → End
  Whole : ℕ → End
  Short : Option ℕ → List ℕ → List ℕ → End
  Exhausted : ℕ → List ℕ → End

-- What propagation tells is one, with the set that it shows.
abbrev pub end_of : Failure → Option CountedSet → End
end_of (failure.Empty p) short = Empty p
end_of (failure.Whole name) short = Whole name
end_of (failure.Short n) (Some set) = Short set.centre set.vertices set.values
end_of (failure.Short n) None = Short None [] []

-- What it says of the domains.
abbrev pub EndsBy : End → Problem → Option watched.State → State → Type 0
EndsBy (Empty p) q s d = HasNone q d p
EndsBy (Whole name) q s d = IsDecided s d name
EndsBy (Short centre vertices values) q s d = HaveOnly q centre d vertices values
    × (length values < length vertices)
EndsBy (Exhausted p values) q s d = (u : ℕ) → in_domain d p u ≡ true → is_among u values ≡ true

-- The forms that it comes to, in their order, where the known pairs hold.
abbrev pub EndsIn : Problem → List Row → List (ℕ × ℕ) → List (ℕ × ℕ) → End → List Form → Type 0
EndsIn q rows path known (Empty p) forms = forms ≡ at_least q p ∷ []
EndsIn q rows path known (Whole name) forms = NogoodForms q known None (path_at rows name) forms
EndsIn q rows path known (Short centre vertices values) forms = forms ≡ set_forms q centre
    vertices values
EndsIn q rows path known (Exhausted p values) forms = forms ≡ value_clauses q path p values
    ++ at_least q p ∷ []

-- The values that have to be out are needed.
abbrev pub EndNeeds : List Row → List (ℕ × ℕ) → End → (ℕ → ℕ → Bool) → Type 0
EndNeeds rows path (Empty p) needed = (u : ℕ) → needed p u ≡ true
EndNeeds rows path (Whole name) needed = AreUpheld path None needed (path_at rows name)
EndNeeds rows path (Short centre vertices values) needed = AreKeptIn vertices values needed
EndNeeds rows path (Exhausted p values) needed = (u : ℕ) → needed p u ≡ true

-- Its numbers are of the problem, and its name of a nogood row. Of what is refuted nothing is said.
abbrev pub IsEndIn : Problem → List Row → End → Type 0
IsEndIn q rows (Empty p) = p < size q.pattern
IsEndIn q rows (Whole name) = IsNogoodRow rows name
IsEndIn q rows (Short centre vertices values) = IsSetIn q centre vertices values
    × (length values < length vertices)
IsEndIn q rows (Exhausted p values) = Unit {0}
