use Rattle.std.proofs.Common.{refl, sym, ◌∙◌}
use Rattle.graph_rows.proofs.MappingHeld.{yes_added, line_added}
use Rattle.graph_rows.proofs.gathered.gathered.Goals as goal

pub loop-p-init : goal.loop-p-init
loop-p-init c = yes_added c.try_extend_from_slice.result c.new-text.result.items c.try_extend_from_slice.new.self.items c.new-text.ensures c.try_extend_from_slice.ensures.ok (sym c.is_err.ensures.value ∙ c.if-is_err.false)

pub loop-p-preserved : goal.loop-p-preserved
loop-p-preserved c = line_added c.loop-p.text.items c.add_line.new.text.items c.args.map.now c.loop-p.p c.loop-p-test.true c.loop-p.invariant (c.if-not-add_line.ensures refl)
