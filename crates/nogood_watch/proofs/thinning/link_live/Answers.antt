use Rattle.std.proofs.Common.{refl, ◌∙◌, length, arith}
use Rattle.nogood_watch.proofs.Linking.{linked_none, linked_live, linked_past}
use Rattle.nogood_watch.proofs.thinning.link_live.Goals.{then-live-x, else-live-x}
use Rattle.nogood_watch.proofs.thinning.link_live.Goals as goal

pub loop-x-init : goal.loop-x-init
loop-x-init c = record {
  chained = linked_none _ (length c.args.heads.now) c.fill.new.self c.args.next.now c.requires.few c.fill.ensures.len (λ k h. c.fill.ensures.clones k 0 (omega (arith, h, c.fill.ensures.len)) refl);
  heads_long = c.fill.ensures.len;
  next_long = refl;
}

pub loop-x-preserved : goal.loop-x-preserved
loop-x-preserved c =
    let i = c.loop-x.invariant in
    elim c.if-live-x.branch [
      | then-live-x w ↦ rw (w.heads-is, w.next-is) (record {
        chained = linked_live (length c.args.heads.now) c.args.values c.args.live.now c.args.watches.now c.loop-x.heads c.loop-x.next w.link.new.heads w.link.new.next c.loop-x.x w.cell_of.result
            w.if-live-x.true w.cell_of.ensures i.heads_long i.chained w.link.ensures.chained;
        heads_long = w.link.ensures.heads_long ∙ i.heads_long;
        next_long = w.link.ensures.next_long ∙ i.next_long;
      })
      | else-live-x w ↦ rw (w.heads-is, w.next-is) (record {
        chained = linked_past (length c.args.heads.now) c.args.values c.args.live.now c.args.watches.now c.loop-x.heads c.loop-x.next c.loop-x.x w.if-live-x.false i.chained;
        heads_long = i.heads_long;
        next_long = i.next_long;
      })
    ]
