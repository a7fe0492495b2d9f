use Rattle.std.proofs.Common.{◌+◌, sym, subst, arith}
use Rattle.log_theory.specs.declared.step.Ref.TheVariants.{Line}
use Rattle.log_theory.specs.LogText.{AreRefs}
use Rattle.proof_trim.proofs.Hinting.{refs_more}
use Rattle.proof_trim.proofs.hints.lines_known.Goals as goal

pub loop-number-preserved : goal.loop-number-preserved
loop-number-preserved c =
    let t = c.loop-number-test.true in
    let r = c.requires in
    subst AreRefs (sym c.in_ok-push.ensures.items) (refs_more c.loop-number.refs.items (Line (c.loop-number.number + 1)) c.loop-number.invariant (omega (arith, t, r)))
