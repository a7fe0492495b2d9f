use Rattle.std.proofs.Common.{◌+◌, ◌<◌, Bool, nat_lt, cond, sym, subst, ◌∙◌}
use Rattle.proof_theory.specs.Slack.{setting}
use Rattle.pb_terms.specs.Trail.{unset_count}
use Rattle.proof_checker.proofs.Passing.{passed_rest, moved_none, moved_less}
use Rattle.proof_checker.proofs.closing.close.Goals as goal

pub loop-moved-smaller : goal.loop-moved-smaller
loop-moved-smaller c =
    subst (λ (b : Bool). cond (nat_lt c.count-before.result c.count.result) 1 0 + unset_count c.pass_all.new.set < cond b 1 0 + unset_count c.loop-moved.set) (sym c.loop-moved-test.true)
    (moved_less c.loop-moved.set c.pass_all.new.set c.count-before.result c.count.result c.pass_all.ensures.long c.if-pass_all.ensures.passed.wider c.count-before.ensures c.count.ensures)

pub loop-moved-preserved : goal.loop-moved-preserved
loop-moved-preserved c =
    let p = c.if-pass_all.ensures.passed in
    record {
      same = p.same _ (λ f i. i) ∙ c.loop-moved.invariant.same;
      long = c.pass_all.ensures.long ∙ c.loop-moved.invariant.long;
      rest = λ e.
          p.same _ (λ f i. i)
          ∙ passed_rest (setting c.loop-moved.set) (setting c.pass_all.new.set) _ p (moved_none c.loop-moved.set c.pass_all.new.set c.count-before.result c.count.result c.pass_all.ensures.long p.wider c.count-before.ensures c.count.ensures e);
    }
