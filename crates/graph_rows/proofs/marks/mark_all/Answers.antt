use Rattle.std.proofs.Common.{◌≡◌, ℕ, [], length, arith, rules, subst}
use Rattle.std.proofs.lemmas.Option.{get_or_from_slice_get}
use Rattle.lad_reader.specs.Parts.{AreBelow}
use Rattle.graph_rows.proofs.Parts.{all_below_at}
use Rattle.graph_rows.proofs.Marking.{said_marks_more}
use Rattle.graph_rows.proofs.marks.mark_all.Goals as goal

pub loop-a-init : goal.loop-a-init
loop-a-init c = record { marks = c.requires.marks; said = λ x y x_in y_in. c.requires.empty x y }

pub mark_listed-requires-clause-to : goal.mark_listed-requires-clause-to
mark_listed-requires-clause-to c =
    let same : length c.args.degrees.now ≡ length c.loop-a.degrees = omega arith in
    subst (λ (n : ℕ). AreBelow n c.of.result.now) same (all_below_at _ c.args.neighbours.now c.loop-a.a _ c.requires.to c.of.ensures)

pub loop-a-preserved : goal.loop-a-preserved
loop-a-preserved c = record {
  marks = search rules;
  said = said_marks_more _ _ _ c.args.neighbours.now c.loop-a.a c.of.result.now (omega arith)
      (get_or_from_slice_get c.args.neighbours.now c.loop-a.a c.of.result.now [] c.of.ensures) c.loop-a.invariant.said c.mark_listed.ensures.added;
}
