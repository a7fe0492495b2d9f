use Rattle.std.proofs.Common.{List, Option, None, ap, sym, subst}
use Rattle.graph_theory.specs.Graph.{size}
use Rattle.domain_bits.specs.Removals.{full}
use Rattle.recorder.specs.Recording.{Change, Recorded}
use Rattle.recorder.specs.Telling.{Tells, begins}
use Rattle.parallel_solve.proofs.solving.solve_with_proof.Goals as goal

pub search_beside-requires-clause-told : goal.search_beside-requires-clause-told
search_beside-requires-clause-told g c κs within =
    subst (λ (told : Option (List Change)). Tells c.args.q.now None (full (size c.args.q.now.pattern) (size c.args.q.now.target)) told)
    (sym (ap (λ (r : Recorded). r.changes) c.new-told.ensures)) (begins (size c.args.q.now.pattern) (size c.args.q.now.target))
