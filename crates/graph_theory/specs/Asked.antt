-- What a problem asks of degrees, of the degrees of neighbours and of shared neighbours, by its maps: 0 or nothing where maps of its kind
-- need not keep them.

use Rattle.std.specs.Prelude.{ℕ, ◌+◌, is_some, if◌then◌else◌, List, []}
use Rattle.graph_theory.specs.Graph.{Graph, edge}
use Rattle.graph_theory.specs.Neighbours.{degree, common, sequence}
use Rattle.graph_theory.specs.Embedding.{Problem}
use Rattle.graph_theory.specs.declared.embedding.Maps.{Maps}
use Rattle.graph_theory.specs.declared.embedding.Maps.TheVariants.{Injective, Local, Any}

-- So many places the image of p has to have for the neighbours of p.
abbrev pub asked_degree_in : Maps → Graph → ℕ → ℕ
asked_degree_in Injective g p = degree g p
asked_degree_in Local g p = degree g p
asked_degree_in Any g p = 0

abbrev pub asked_degree : Problem → ℕ → ℕ
asked_degree q p = asked_degree_in q.maps q.pattern p

-- So many places t has for the neighbours of a vertex that goes to it: its neighbours, and itself where it has a loop, since a vertex and
-- its neighbour may share an image unless the maps are injective.
-- Example: into a triangle with a loop at each vertex local maps send a vertex of degree 3, and no injective map does.
abbrev pub room_in : Maps → Graph → ℕ → ℕ
room_in Injective g t = degree g t
room_in Local g t = (if is_some (edge g t t) then 1 else 0) + degree g t
room_in Any g t = (if is_some (edge g t t) then 1 else 0) + degree g t

abbrev pub room : Problem → ℕ → ℕ
room q t = room_in q.maps q.target t

-- The degrees that the neighbours of the image of p have to have, in falling order.
abbrev pub asked_sequence_in : Maps → Graph → ℕ → List ℕ
asked_sequence_in Injective g p = sequence g p
asked_sequence_in Local g p = []
asked_sequence_in Any g p = []

abbrev pub asked_sequence : Problem → ℕ → List ℕ
asked_sequence q p = asked_sequence_in q.maps q.pattern p

-- So many neighbours the images of p and r have to share.
abbrev pub asked_shared_in : Maps → Graph → ℕ → ℕ → ℕ
asked_shared_in Injective g p r = common g p r
asked_shared_in Local g p r = 0
asked_shared_in Any g p r = 0

abbrev pub asked_shared : Problem → ℕ → ℕ → ℕ
asked_shared q p r = asked_shared_in q.maps q.pattern p r
