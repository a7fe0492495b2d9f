use Rattle.std.proofs.Common.{◌≡◌, ◌<◌, length, get_or, ◌+ℤ◌, to_z, of_z, arith, ◌∙◌}
use Rattle.std.specs.Int.{w32}
use Rattle.std.proofs.lemmas.Int.{ints}
use Rattle.pb_terms.proofs.Combining.{none}
use Rattle.packed_terms.proofs.InPlace.{placed_first, placed_within, placed_same, placed_next, placed_end}
use Rattle.packed_terms.proofs.ordered.combine.Goals as goal
use Rattle.packed_terms.proofs.ordered.combine.Goals.{then-next-waiting, else-next-waiting}

pub loop-i-init : goal.loop-i-init
loop-i-init c = placed_first c.args.terms.now

pub loop-i-preserved : goal.loop-i-preserved
loop-i-preserved c =
    let i : c.loop-i.i < length c.args.terms.now = omega (arith, c.loop-i-test.true, c.loop-i.auto.i-end) in
    let k : c.loop-i.i < length c.loop-i.terms = omega (arith, i, c.loop-i.auto.terms) in
    let t = get_or c.loop-i.terms c.loop-i.i none in
    let h = placed_within c.args.terms.now c.loop-i.terms c.loop-i.kept c.loop-i.i c.loop-i.waiting.0 c.loop-i.waiting.1 i k c.loop-i.invariant in
    let m = c.requires.fits in
    let s : to_z w32 (of_z w32 (to_z w32 (of_z w32 c.loop-i.waiting.1) +ℤ to_z w32 (of_z w32 t.1))) ≡ c.loop-i.waiting.1 +ℤ t.1 = omega (arith, ints) in
    elim c.if-next-waiting.branch [
      | then-next-waiting w ↦ rw (w.terms-is, w.kept-is, w.waiting-is, s) (placed_same c.args.terms.now c.loop-i.terms c.loop-i.kept c.loop-i.i c.loop-i.waiting.0 c.loop-i.waiting.1 c.requires.order i k w.if-next-waiting.true c.loop-i.invariant)
      | else-next-waiting w ↦ (
          let p = w.put_term-kept.ensures in
          rw (w.terms-is, w.kept-is, w.waiting-is) (placed_next c.args.terms.now c.loop-i.terms w.put_term-kept.new.terms c.loop-i.kept w.put_term-kept.result c.loop-i.i c.loop-i.waiting.0 c.loop-i.waiting.1 c.requires.order i k w.if-next-waiting.false p.behind p.put p.rest c.loop-i.invariant))
    ]

pub returns : goal.returns
returns c = c.put_term.ensures.put ∙ placed_end c.args.terms.now c.loop-i.terms c.loop-i.kept c.loop-i.i _ _ (omega (arith, c.loop-i-test.false, c.loop-i.auto.i-end)) c.loop-i.invariant
