-- What the search of a small problem keeps: values and neighbours of pattern vertices, and the images of those that
-- are placed. A set of vertices is the word of their bits.

use Rattle.std.specs.Prelude.{◌≡◌, ℕ, ◌^◌, ◌<◌, ◌≤◌, Bool, true, false, ◌||◌, ◌&&◌, not, is_some, nat_lt, List, [], length, slice_index}
use Rattle.graph_theory.specs.Graph.{size, edge}
use Rattle.graph_theory.specs.Embedding.{Problem, Embeds, Allowed, Compatible, is_injective}
use Rattle.bit_rows.specs.BitRows.{is_set}
use Rattle.small_search.specs.declared.placing.Ended.{Ended}
use Rattle.small_search.specs.declared.placing.Ended.TheVariants.{Found, Refuted, Spent}

-- Vertices of the pattern and the target stand in words, the target has some, and no order of images is asked for.
pub record IsSmall (q : Problem) : Type 0 where
  pub pattern : size q.pattern ≤ 64
  pub some : 1 ≤ size q.target
  pub target : size q.target ≤ 64
  pub no_order : q.less ≡ []

-- The word holds target vertices, and among them the image of p in each embedding.
pub record AreValues (q : Problem) (p word : ℕ) : Type 0 where
  pub fits : word < 2 ^ 64
  pub right : (t : ℕ) → is_set word t ≡ true → t < size q.target
  pub complete : (m : List ℕ) → Embeds q m → is_set word (slice_index m p) ≡ true

-- An edge joins p and r, in either direction.
abbrev pub joins : Problem → ℕ → ℕ → Bool
joins q p r = is_some (edge q.pattern p r) || is_some (edge q.pattern r p)

-- The vertices in the word are those that an edge joins to p.
abbrev pub AreNear : Problem → ℕ → ℕ → Type 0
AreNear q p word = (r : ℕ) → r < size q.pattern → is_set word r ≡ joins q p r

-- Beside vertices that no edge joins to a vertex, nothing is asked of it but another image.
abbrev pub edges_tell : Problem → Bool
edges_tell q = is_injective q.maps && not q.induced

-- The words are those of a problem.
pub record IsTable (q : Problem) (values near : List ℕ) (all : ℕ) (injective by_edges : Bool) : Type 0 where
  pub small : IsSmall q
  pub values_long : length values ≡ 64
  pub near_long : length near ≡ 64
  pub values_are : (p : ℕ) → p < size q.pattern → AreValues q p (slice_index values p)
  pub near_are : (p : ℕ) → p < size q.pattern → AreNear q p (slice_index near p)
  pub all_fits : all < 2 ^ 64
  pub all_is : (p : ℕ) → is_set all p ≡ nat_lt p (size q.pattern)
  pub injective_is : injective ≡ is_injective q.maps
  pub by_edges_is : by_edges ≡ edges_tell q

-- The images of the vertices of a set go together.
pub record Fits (q : Problem) (on : ℕ → Bool) (images : List ℕ) : Type 0 where
  pub vertices : (p : ℕ) → on p ≡ true → p < size q.pattern
  pub values : (p : ℕ) → on p ≡ true → slice_index images p < size q.target
  pub alone : (p : ℕ) → on p ≡ true → Allowed q p (slice_index images p)
  pub pairs : (p r : ℕ) → on p ≡ true → on r ≡ true → (p ≡ r → ⊥)
      → Compatible q p (slice_index images p) r (slice_index images r)

-- The images of the vertices of a set are all of another.
pub record AreInUse (placed used : ℕ) (images : List ℕ) : Type 0 where
  pub each : (p : ℕ) → is_set placed p ≡ true → is_set used (slice_index images p) ≡ true
  pub only : (t : ℕ) → is_set used t ≡ true
      → (p : ℕ) × (is_set placed p ≡ true) × (slice_index images p ≡ t)

-- The vertices of a set have the images in the second list that they have in the first.
abbrev pub Agrees : ℕ → List ℕ → List ℕ → Type 0
Agrees placed images m = (p : ℕ) → is_set placed p ≡ true
    → slice_index m p ≡ slice_index images p

-- No embedding has these images of the vertices of the set.
abbrev pub NoneAgrees : Problem → ℕ → List ℕ → Type 0
NoneAgrees q placed images = (m : List ℕ) → Embeds q m → Agrees placed images m → ⊥

-- No embedding has these images of the vertices of the set, and t for p.
abbrev pub NoneAgreesAt : Problem → ℕ → List ℕ → ℕ → ℕ → Type 0
NoneAgreesAt q placed images p t = (m : List ℕ) → Embeds q m → Agrees placed images m
    → slice_index m p ≡ t → ⊥

-- The vertex t is of the target, and where images differ it is not in use.
pub record IsFree (q : Problem) (used t : ℕ) : Type 0 where
  pub value : t < size q.target
  pub free : is_injective q.maps ≡ true → is_set used t ≡ false

-- How a search ended that began with these images of the vertices of the set, and left others.
abbrev pub Ends : Ended → Problem → ℕ → List ℕ → List ℕ → Type 0
Ends Found q placed old new = Fits q (λ p. nat_lt p (size q.pattern)) new
Ends Refuted q placed old new = NoneAgrees q placed old
Ends Spent q placed old new = Unit {0}
