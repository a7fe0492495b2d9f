use Rattle.std.proofs.Common.{◌∙◌, arith}
use Rattle.proof_trim.specs.Ranks.{renamed}
use Rattle.proof_trim.proofs.Advancing.{written_at, written_all}
use Rattle.proof_trim.proofs.forward.put_kept.Goals as goal

pub loop-place-preserved : goal.loop-place-preserved
loop-place-preserved c =
    let r = c.args.renaming.now in
    let i = c.loop-place.invariant in
    let t = c.loop-place-test.true in
    let e = c.len-in-loop-place.ensures in
    record {
      put = λ made at. written_at (renamed r.index.now r.marks.now) r.marks.now c.args.lines.now.text.now c.args.lines.now.places.items made c.loop-place.place c.args.text.now.bytes c.loop-place.text.bytes c.put_next.new.text.bytes (omega (arith, t, e)) at
          (c.in_ok-put_next.ensures.put made at) (i.put made at);
      listed = c.in_ok-put_next.ensures.listed;
      long = c.in_ok-put_next.ensures.long ∙ i.long;
      within = omega (arith, t, e);
    }

pub returns : goal.returns
returns c = λ made at.
    let r = c.args.renaming.now in
    let t = c.loop-place-test.false in
    let e = c.len-in-loop-place.ensures in
    let i = c.loop-place.invariant in
    let w = i.within in
    written_all (renamed r.index.now r.marks.now) r.marks.now c.args.lines.now.text.now c.args.lines.now.places.items made c.loop-place.place c.args.text.now.bytes c.loop-place.text.bytes (omega (arith, t, e, w)) at (i.put made at)
