use Rattle.std.proofs.Common.{sym, ◌∙◌}
use Rattle.dead_paths.proofs.Marking.{among_at, among_not_next}
use Rattle.dead_paths.proofs.lookups.holds.Goals as goal

pub returns-then-from-vertex : goal.returns-then-from-vertex
returns-then-from-vertex c = sym (among_at c.args.vertices.now c.loop-p.p-index c.args.vertex c.loop-p-test.true (sym c.from.ensures ∙ c.if-from-vertex.true))

pub loop-p-preserved : goal.loop-p-preserved
loop-p-preserved c = among_not_next c.args.vertices.now c.loop-p.p-index c.args.vertex c.loop-p-test.true c.loop-p.invariant (λ same. c.if-from-vertex.false (c.from.ensures ∙ same))
