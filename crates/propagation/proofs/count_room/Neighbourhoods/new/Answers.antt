use Rattle.std.proofs.Common.{ap, ◌∙◌}
use Rattle.std.proofs.lemmas.Bool.{false≢true}
use Rattle.std.proofs.lemmas.Result.{IfOk-weaker}
use Rattle.graph_theory.specs.Embedding.{is_local}
use Rattle.propagation.proofs.Nearness.{near_of}
use Rattle.propagation.proofs.count_room.Neighbourhoods.new.Goals as goal

pub returns-in-Injective : goal.returns-in-Injective
returns-in-Injective c = record { listed = λ local. absurd (false≢true (ap is_local (c.in-Injective.ensures.maps ∙ local))) }

pub returns-in-Any : goal.returns-in-Any
returns-in-Any c = record { listed = λ local. absurd (false≢true (ap is_local (c.in-Any.ensures.maps ∙ local))) }

pub returns-in-Local : goal.returns-in-Local
returns-in-Local c = IfOk-weaker c.listed.result _ _ (λ lists are. near_of c.args.q.now c.pattern.result.now lists c.pattern.ensures.pattern are) c.listed.ensures
