use Rattle.std.proofs.Common.{ℕ, ◌<◌, sym, subst, arith, rules}
use Rattle.graph_rows.proofs.Parts.{below_at}
use Rattle.graph_rows.proofs.Marking.{adds_out_more, adds_out_none}
use Rattle.graph_rows.specs.Held.{AreMarks}
use Rattle.graph_rows.proofs.marks.mark_out.Goals as goal

pub loop-b-init : goal.loop-b-init
loop-b-init c = record { marks = c.requires.marks; added = adds_out_none c.args.width c.args.words.now c.args.a }

pub mark-requires-clause-to : goal.mark-requires-clause-to
mark-requires-clause-to c =
    let below = below_at _ c.args.listed.now c.loop-b.b-index c.requires.to c.loop-b-test.true in
    omega arith

pub loop-b-preserved : goal.loop-b-preserved
loop-b-preserved c = record {
  marks = search rules;
  added = adds_out_more _ _ _ _ _ c.args.listed.now c.loop-b.b-index c.loop-b-test.true c.loop-b.invariant.added c.mark.ensures.added;
}

pub mark-requires-clause-marks : goal.mark-requires-clause-marks
mark-requires-clause-marks c = c.loop-b.invariant.marks

pub mark-requires-clause-from : goal.mark-requires-clause-from
mark-requires-clause-from c = subst (λ (n : ℕ). c.args.a < n) (sym c.loop-b.auto.degrees) c.requires.from

pub returns-clause-marks : goal.returns-clause-marks
returns-clause-marks c = subst (λ (n : ℕ). AreMarks n c.args.width c.loop-b.words c.loop-b.degrees) c.loop-b.auto.degrees c.loop-b.invariant.marks
