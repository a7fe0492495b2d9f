use Rattle.std.proofs.Common.{arith}
use Rattle.bit_rows.proofs.Passing.{count_within}
use Rattle.domain_bits.specs.Removals.{in_domain}
use Rattle.domain_bits.proofs.Keeping.{state}
use Rattle.domain_bits.proofs.Undoing.{Last, unwinding_last, unwinding_row, unwinding_more, unwinding_ends, run_some, undone_grows}
use Rattle.domain_bits.proofs.Noting.{noted_back}
use Rattle.domain_bits.proofs.domains.Domains.undo_to.Goals as goal

-- what is known of the run that was taken off
last : (g : _) (c : goal.After-restore-arg-in-Some-2-1 g) → let i = c.self.inside in let run = c.in-Some.run' in
    Last i.vertices i.values i.words run.vertex run.place run.word (g.T.Trail.removed c.pop.new.self) c.loop-run.sizes
last g c =
    let l = c.loop-run in
    let run = c.in-Some.run' in
    let h = c.in-Some.ensures in
    unwinding_last _ _ _ _ _ _ l.rows l.sizes _ _ run.vertex run.place run.word l.invariant.unwinding h.some h.fewer h.word

pub restore-requires-clause-row_in : goal.restore-requires-clause-row_in
restore-requires-clause-row_in g c =
    let l = c.loop-run in
    let run = c.in-Some.run' in
    let h = c.in-Some.ensures in
    unwinding_row _ _ _ _ _ _ l.rows l.sizes _ _ run.vertex run.place run.word l.invariant.unwinding h.some h.fewer h.word

pub restore-requires-clause-vertex_in : goal.restore-requires-clause-vertex_in
restore-requires-clause-vertex_in g c = omega (arith, (last g c).vertex, c.loop-run.invariant.unwinding.kept.sized)

pub restore-requires-clause-noted : goal.restore-requires-clause-noted
restore-requires-clause-noted g c = omega (arith, (last g c).vertex, c.loop-run.invariant.noted.long)

pub restore-requires-clause-place_in : goal.restore-requires-clause-place_in
restore-requires-clause-place_in g c = omega (arith, (last g c).place-in, c.loop-run.invariant.unwinding.kept.short)

pub restore-requires-clause-some : goal.restore-requires-clause-some
restore-requires-clause-some g c = let run = c.in-Some.run' in run_some run.vertex run.place run.word _ _ c.in-Some.ensures.some c.in-Some.ensures.fewer

pub restore-requires-clause-fits : goal.restore-requires-clause-fits
restore-requires-clause-fits g c =
    let i = c.self.inside in
    omega (arith, (last g c).size, count_within (in_domain (state i.vertices i.values (g.T.Trail.removed c.pop.new.self)) c.in-Some.run'.vertex) i.values, c.self.ranges)

pub loop-run-preserved : goal.loop-run-preserved
loop-run-preserved g c =
    let l = c.loop-run in
    let run = c.in-Some.run' in
    let h = c.in-Some.ensures in
    let r = c.restore.ensures in
    record {
      unwinding = rw (r.rows, r.sizes)
          (unwinding_more _ _ _ _ _ _ l.rows l.sizes _ _ _ run.vertex run.place run.word l.invariant.unwinding h.some h.fewer h.word h.above h.room);
      noted = noted_back _ _ _ _ _ _ l.rows l.sizes c.restore.new.sizes l.singles c.restore.new.singles _ _ run.vertex run.place run.word
          l.invariant.unwinding h.some h.fewer h.word l.invariant.noted r.sizes r.others r.single;
    }

pub returns-clause-grows : goal.returns-clause-grows
returns-clause-grows g c =
    let i = c.self.inside in
    let l = c.loop-run in
    let h = c.in_default.ensures in
    let ends = unwinding_ends i.vertices i.values i.words (g.T.Trail.removed i.trail) (g.T.Trail.removed l.self-inside.1.1.1.1.1.1.1.0) l.rows l.sizes (g.T.Trail.capacity l.self-inside.1.1.1.1.1.1.1.0) c.mark.inside.length
    l.invariant.unwinding h.none in
    rw (← c.self.view_is, h.unchanged, ends)
    (undone_grows (state i.vertices i.values (g.T.Trail.removed i.trail)) c.mark.inside.length)
