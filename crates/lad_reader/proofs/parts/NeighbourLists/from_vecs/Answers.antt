use Rattle.std.proofs.Common.{◌<◌, length, map, ap, ◌∙◌, arith}
use Rattle.std.proofs.lemmas.List.{take_all}
use Rattle.packed_lists.proofs.Packing.{closed_with}
use Rattle.lad_reader.proofs.VertexParts.{copied_more}
use Rattle.lad_reader.proofs.parts.NeighbourLists.from_vecs.Goals as goal

pub loop-i-preserved : goal.loop-i-preserved
loop-i-preserved c =
    let l = c.loop-i in
    let i_in : l.i < length c.args.vecs.now = c.loop-i-test.true in
    record {
      within = omega (arith, i_in);
      lists = copied_more c.args.vecs.now l.i l.lists.lists c.close.new.self.lists c.deref.result.now c.index-vecs-i.result i_in c.index-vecs-i.is c.deref.ensures.value l.invariant.lists
          (closed_with _ _ _ _ _ c.deref.result.now c.in_ok-push_all.ensures.lists l.invariant.begun c.in_ok-push_all.ensures.rest c.in_ok-close.ensures.lists);
      begun = c.in_ok-close.ensures.rest;
    }

pub returns : goal.returns
returns c = c.loop-i.invariant.lists ∙ ap (map (λ bs. bs.items)) (take_all c.loop-i.i c.args.vecs.now (omega arith))
