-- References to lines of the encoding, and the lines of sets.

use Rattle.std.specs.Prelude.{◌≡◌, ℕ, ◌+◌, ◌<◌, true, List, [], ◌∷◌, ◌++◌, map, Option, None, Result, Ok, Err}
use Rattle.std.specs.declared.alloc.AllocError.{AllocError}
use Rattle.graph_theory.specs.Graph.{size}
use Rattle.graph_theory.specs.Embedding.{Problem}
use Rattle.proof_theory.specs.Forms.{Form}
use Rattle.log_theory.specs.declared.step.Name.{Name}
use Rattle.log_theory.specs.declared.step.Ref.{Ref}
use Rattle.log_theory.specs.declared.step.Ref.TheVariants.{Line, Made}
use Rattle.log_theory.specs.Lookups.{is_among}
use Rattle.encoding_theory.specs.Pairs.{is_edge_pair}
use Rattle.encoding_theory.specs.Places.{at_least_place, at_most_place, at_most_place_in, edge_place, less_from_place, less_to_place}
use Rattle.recorder.specs.declared.change.Side.{Side}
use Rattle.recorder.specs.declared.change.Side.TheVariants.{Lesser, Greater}
use Rattle.explanation_theory.specs.Reasons.{set_form}
use Rattle.dead_theory.specs.Changes.{crowd_forms}
use Rattle.log_growth.specs.Frames.{Frame, IsKept, AreNamed}

-- That p goes somewhere; that it goes to one place; that one vertex of a block goes to t; that with p at t r goes where the edge between them leads;
-- that with one vertex of pair k at t the other goes past t, or below it.
abbrev pub at_least_ref : Problem → ℕ → Ref
at_least_ref q p = Line (at_least_place q p + 1)

abbrev pub at_most_ref : Problem → ℕ → Ref
at_most_ref q p = Line (at_most_place q p + 1)

abbrev pub block_ref : Problem → Option ℕ → ℕ → Ref
block_ref q b t = Line (at_most_place_in q b t + 1)

abbrev pub edge_ref : Problem → ℕ → ℕ → ℕ → Ref
edge_ref q p r t = Line (edge_place q p r t + 1)

abbrev pub order_ref : Problem → ℕ → ℕ × ℕ → Side → ℕ → Ref
order_ref q k x Lesser t = Line (less_from_place q k x t + 1)
order_ref q k x Greater t = Line (less_to_place q k x t + 1)

abbrev pub at_least_refs : Problem → List ℕ → List Ref
at_least_refs q vertices = map (at_least_ref q) vertices

-- What the line of a set sums.
abbrev pub set_refs : Problem → Option ℕ → List ℕ → List ℕ → List Ref
set_refs q b vertices values = at_least_refs q vertices ++ map (block_ref q b) values

-- That beside p at t each of these vertices goes where the edge between them leads.
abbrev pub beside_refs : Problem → ℕ → ℕ → List ℕ → List Ref
beside_refs q p t vertices = map (λ r. edge_ref q p r t) vertices

-- What the line of a crowd sums.
abbrev pub crowd_refs : Problem → ℕ → ℕ → List ℕ → List ℕ → List Ref
crowd_refs q p t vertices values = beside_refs q p t vertices ++ map (block_ref q None) values

-- All are vertices of the pattern; all are vertices of the target.
abbrev pub AreVertices : Problem → List ℕ → Type 0
AreVertices q vertices = (p : ℕ) → is_among p vertices ≡ true → p < size q.pattern

abbrev pub AreValues : Problem → List ℕ → Type 0
AreValues q values = (u : ℕ) → is_among u values ≡ true → u < size q.target

-- The name that is answered is that of the set's form.
abbrev pub IsSetKept : Problem → Option ℕ → List ℕ → List ℕ → Frame → Result Name AllocError
    → List Form → Type 0
IsSetKept q b [] values w result forms = ⊥
IsSetKept q b (p ∷ rest) values w result forms = IsKept w result (set_form q b p rest values) forms

-- An edge joins each of these to p.
abbrev pub ArePairs : Problem → ℕ → List ℕ → Type 0
ArePairs q p vertices = (r : ℕ) → is_among r vertices ≡ true → is_edge_pair q p r ≡ true

-- The name that is answered is that of the crowd's form.
abbrev pub IsCrowdKept : Problem → ℕ → ℕ → List ℕ → List ℕ → Frame → Result Name AllocError
    → List Form → Type 0
IsCrowdKept q p t vertices values w (Ok n) forms = AreNamed w forms (Made n ∷ [])
    (crowd_forms q p t vertices values)
IsCrowdKept q p t vertices values w (Err e) forms = Unit {0}
