use Rattle.std.proofs.Common.{ℕ, ◌<◌, sym, subst, arith, rules}
use Rattle.graph_rows.proofs.Parts.{below_at}
use Rattle.graph_rows.proofs.Marking.{adds_in_more, adds_in_none}
use Rattle.graph_rows.specs.Held.{AreMarks}
use Rattle.graph_rows.proofs.marks.mark_in.Goals as goal

pub loop-near-init : goal.loop-near-init
loop-near-init c = record { marks = c.requires.marks; added = adds_in_none c.args.width c.args.words.now c.args.a }

pub mark-requires-clause-from : goal.mark-requires-clause-from
mark-requires-clause-from c =
    let below = below_at _ c.args.listed.now c.loop-near.near-index c.requires.to c.loop-near-test.true in
    omega arith

pub loop-near-preserved : goal.loop-near-preserved
loop-near-preserved c = record {
  marks = search rules;
  added = adds_in_more _ _ _ _ _ c.args.listed.now c.loop-near.near-index c.loop-near-test.true c.loop-near.invariant.added c.mark.ensures.added;
}

pub mark-requires-clause-marks : goal.mark-requires-clause-marks
mark-requires-clause-marks c = c.loop-near.invariant.marks

pub mark-requires-clause-to : goal.mark-requires-clause-to
mark-requires-clause-to c = subst (λ (n : ℕ). c.args.a < n) (sym c.loop-near.auto.degrees) c.requires.from

pub returns-clause-marks : goal.returns-clause-marks
returns-clause-marks c = subst (λ (n : ℕ). AreMarks n c.args.width c.loop-near.words c.loop-near.degrees) c.loop-near.auto.degrees c.loop-near.invariant.marks
