use Rattle.std.proofs.Common.{refl, sym, ◌∙◌, subst, arith}
use Rattle.graph_theory.specs.Graph.{Graph}
use Rattle.bit_rows.proofs.Sifted.{sifted_none, sifted_kept, sifted_out, sifted_all}
use Rattle.recorder.specs.Telling.{IsUnsupported}
use Rattle.propagation.specs.Edges.{LacksSupport}
use Rattle.propagation.proofs.Supporting.{lacking_unsupported, unsupported_lacks}
use Rattle.propagation.proofs.edges.leave_lacking.Goals as goal
use Rattle.propagation.proofs.edges.leave_lacking.Goals.{then-has_support, else-has_support}

pub loop-u-init : goal.loop-u-init
loop-u-init g c = record {
  sifted = sifted_none (λ u. IsUnsupported c.args.q.now c.args.d.now c.args.link.direction c.args.link.p c.args.link.r u) c.args.row.now c.next_member-u.result (λ v v_in. c.next_member-u.ensures.none v (omega arith) v_in);
  long = refl;
  within = c.next_member-u.ensures.high;
  member = c.next_member-u.ensures.member;
}

pub loop-u-preserved : goal.loop-u-preserved
loop-u-preserved g c =
    let link = c.args.link in
    let sifted = c.loop-u.invariant.sifted in
    let inside = c.requires.within c.loop-u.u (sifted.less c.loop-u.u (c.loop-u.invariant.member c.loop-u-test.true)) in
    record {
      sifted = (elim c.if-has_support.branch [
        | then-has_support w ↦ sifted_out (λ u. IsUnsupported c.args.q.now c.args.d.now link.direction link.p link.r u) c.args.row.now c.loop-u.row w.unset_bit.new.row c.if-has_support.row c.loop-u.u c.next_member-u-in-loop-u.result sifted w.row-is
            (λ is. c.has_support.ensures.some w.if-has_support.true (subst (λ (t : Graph). LacksSupport t c.args.d.now link.direction link.p c.loop-u.u c.args.label) (sym c.target-target.ensures.target)
            (unsupported_lacks c.args.q.now c.args.d.now link.direction link.p link.r c.loop-u.u c.args.label c.requires.label is)))
            w.unset_bit.ensures (λ v low high. c.next_member-u-in-loop-u.ensures.none v low high)
        | else-has_support w ↦ sifted_kept (λ u. IsUnsupported c.args.q.now c.args.d.now link.direction link.p link.r u) c.args.row.now c.loop-u.row c.if-has_support.row c.loop-u.u c.next_member-u-in-loop-u.result sifted w.row-is
            (lacking_unsupported c.args.q.now c.args.d.now link.direction link.p link.r c.loop-u.u c.args.label c.requires.joins inside c.requires.label
            (subst (λ (t : Graph). LacksSupport t c.args.d.now link.direction link.p c.loop-u.u c.args.label) c.target-target.ensures.target (c.has_support.ensures.none w.if-has_support.false)))
            (λ v low high. c.next_member-u-in-loop-u.ensures.none v low high)
      ]);
      long = c.if-has_support.auto.row ∙ c.loop-u.invariant.long;
      within = c.next_member-u-in-loop-u.ensures.high;
      member = c.next_member-u-in-loop-u.ensures.member;
    }

pub returns : goal.returns
returns g c = record { unsupported = λ u here. (sifted_all (λ v. IsUnsupported c.args.q.now c.args.d.now c.args.link.direction c.args.link.p c.args.link.r v) c.args.row.now c.loop-u.row c.loop-u.u c.loop-u.invariant.sifted (omega arith) u here).1 }
