use Rattle.std.proofs.Common.{◌+◌, length, sym, subst, arith}
use Rattle.log_theory.specs.LogText.{IsStep}
use Rattle.proof_trim.specs.Ranks.{mark_at, renamed, AreBelow}
use Rattle.proof_trim.proofs.Advancing.{below, line_put}
use Rattle.proof_trim.proofs.Fitting.{name_fits, ref_fits, line_fits}
use Rattle.proof_trim.proofs.forward.put_line.Goals as goal

pub put_step-requires : goal.put_step-requires
put_step-requires c =
    let r = c.args.renaming.now in
    subst IsStep (sym c.in_ok-line.ensures)
    (line_fits (renamed r.index.now r.marks.now) (ref_fits r.index.now r.marks.now r.few r.within) _ c.args.step.now (name_fits (mark_at r.marks.now) c.args.place (length r.marks.now) c.requires.within r.few) c.requires.fits)

pub put_deletions-requires : goal.put_deletions-requires
put_deletions-requires c =
    let l = c.requires.within in
    subst (AreBelow (length c.args.renaming.now.marks.now)) (sym c.requires.named) (below (mark_at c.args.renaming.now.marks.now) (c.args.place + 1) c.args.place (length c.args.renaming.now.marks.now) (omega (arith, l)))

pub returns : goal.returns
returns c =
    line_put (mark_at c.args.renaming.now.marks.now) c.args.place _ c.in_ok-line.line c.args.text.now.bytes c.put_step.new.text.bytes c.put_deletions.new.text.bytes c.args.named.now c.in_ok-line.ensures c.in_ok-put_step.ensures
    c.in_ok-put_deletions.ensures c.requires.named
