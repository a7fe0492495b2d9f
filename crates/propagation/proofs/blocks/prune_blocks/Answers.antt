use Rattle.std.proofs.Common.{sym, ◌∙◌, subst}
use Rattle.domain_bits.specs.Removals.{State}
use Rattle.std.proofs.lemmas.Result.{err_from_is_err_and}
use Rattle.recorder.proofs.Guesses.{guesses_more}
use Rattle.propagation.proofs.BlockCounts.{BalancedBelow, balanced_more}
use Rattle.propagation.proofs.blocks.prune_blocks.Goals as goal

pub returns-in_err-prune_near-clause-fails : goal.returns-in_err-prune_near-clause-fails
returns-in_err-prune_near-clause-fails g c s =
    let p = err_from_is_err_and c.from_residual.result c.from_residual.ensures.1 in
    rw (p.1, p.2) (c.in_err-prune_near.ensures.fails s)

pub returns-in_err-prune_near-clause-told : goal.returns-in_err-prune_near-clause-told
returns-in_err-prune_near-clause-told g c s t = c.in_err-prune_near.ensures.told s (c.loop-c.invariant.told s t)

pub returns-then-branch-clause-told : goal.returns-then-branch-clause-told
returns-then-branch-clause-told g c s t = c.in_ok-prune_near.ensures.told s (c.loop-c.invariant.told s t)

pub loop-c-preserved : goal.loop-c-preserved
loop-c-preserved g c =
    let counts = rw c.if-branch.false at c.in_ok-prune_near.ensures.counts in
    record {
      same = counts.0 ∙ c.loop-c.invariant.same;
      balanced = balanced_more c.args.q.now c.prune_near.new.d c.loop-c.c (subst (λ (d : State). BalancedBelow c.args.q.now d c.loop-c.c) (sym counts.0) c.loop-c.invariant.balanced) counts.1;
      is_for = c.in_ok-prune_near.ensures.is_for;
      told = λ s t. c.in_ok-prune_near.ensures.told s (c.loop-c.invariant.told s t);
      guesses = guesses_more _ _ _ c.loop-c.invariant.guesses c.in_ok-prune_near.ensures.guesses;
    }
