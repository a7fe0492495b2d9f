-- Shared neighbours are asked for by injective maps alone, and then all of them.
use Rattle.std.proofs.Common.{◌≡◌, ℕ, ◌<◌, true, refl, arith}
use Rattle.graph_theory.specs.Graph.{Graph}
use Rattle.graph_theory.specs.Embedding.{Problem, is_injective}
use Rattle.graph_theory.specs.Neighbours.{common}
use Rattle.graph_theory.specs.Asked.{asked_shared_in}
use Rattle.graph_theory.specs.declared.embedding.Maps.{Maps}
use Rattle.graph_theory.specs.declared.embedding.Maps.TheVariants.{Injective, Local, Any}
use Rattle.pair_line_theory.specs.Laws.{AskedLaws}

injective_by : (k : Maps) (g : Graph) (p r : ℕ) → 0 < asked_shared_in k g p r → is_injective k ≡ true
injective_by Injective g p r some = refl
injective_by Local g p r some = absurd (omega (arith, some))
injective_by Any g p r some = absurd (omega (arith, some))

counted_by : (k : Maps) (g : Graph) (p r : ℕ) → is_injective k ≡ true → asked_shared_in k g p r ≡ common g p r
counted_by Injective g p r is = refl
counted_by Local g p r is = absurd cc
counted_by Any g p r is = absurd cc

pub asked_laws : (q : Problem) → AskedLaws q
asked_laws q = record { injective = λ p r. injective_by q.maps q.pattern p r; counted = λ p r. counted_by q.maps q.pattern p r }
