use Rattle.std.proofs.Common.{refl, sym, ap}
use Rattle.graph_theory.specs.Embedding.{is_injective}
use Rattle.initial_domains.proofs.Degrees.{first_degrees}
use Rattle.initial_domains.proofs.is_first.Goals as goal

pub returns-in-Injective : goal.returns-in-Injective
returns-in-Injective c =
    first_degrees c.args.q.now c.args.p c.args.t (c.if-not-keeps.ensures.0 refl) (c.if-not-allowed.ensures.0 refl)
    (sym (ap is_injective c.in-Injective.ensures.maps)) c.keeps_sequences.result c.keeps_sequences.ensures
