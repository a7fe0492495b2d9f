use Rattle.std.proofs.Common.{◌+◌, ◌∷◌, ℕ, List, length, drop, ap, sym, ◌∙◌, subst}
use Rattle.proof_theory.specs.Forms.{Form}
use Rattle.proof_theory.specs.Slack.{setting, refutes}
use Rattle.log_theory.specs.Tables.{find}
use Rattle.pb_propagation.specs.Reach.{AllReach, forms_of}
use Rattle.pb_propagation.proofs.Propagation.{refutes_more, forms_next, forms_skip}
use Rattle.pb_propagation.proofs.propagate.refute.Goals as goal
use Rattle.pb_propagation.proofs.propagate.refute.Goals.{in-Some+else-follow, in_default}

pub loop-at-preserved : goal.loop-at-preserved
loop-at-preserved c = elim c.match-find.branch [
  | in-Some+else-follow w ↦
      let look = find c.args.model.now c.args.table.now in
      let i = c.loop-at.at-index in
      let e = forms_next look c.args.refs.now i w.in-Some.next.now c.loop-at-test.true (sym w.in-Some.ensures) in
      let f = w.if-follow.ensures.follows in
      let a : AllReach (length c.loop-at.set) (w.in-Some.next.now ∷ forms_of look (drop (i + 1) c.args.refs.now)) = subst (λ (fs : List Form). AllReach (length c.loop-at.set) fs) e c.loop-at.invariant.within in
      rw w.set-is (record {
        same = refutes_more (setting c.loop-at.set) (setting w.follow.new.set) w.in-Some.next.now (forms_of look (drop (i + 1) c.args.refs.now)) f.0 f.1 ∙ sym (ap (refutes (setting c.loop-at.set)) e) ∙ c.loop-at.invariant.same;
        within = subst (λ (n : ℕ). AllReach n (forms_of look (drop (i + 1) c.args.refs.now))) (sym w.follow.ensures.long) a.1;
      })
  | in_default w ↦
      let look = find c.args.model.now c.args.table.now in
      let e = forms_skip look c.args.refs.now c.loop-at.at-index c.loop-at-test.true (sym w.in_default.ensures) in
      rw (w.set-is, ← e) (record { same = c.loop-at.invariant.same; within = c.loop-at.invariant.within })
]
