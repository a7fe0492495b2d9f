use Rattle.std.proofs.Common.{ltb, ap, sym, refl, length, ◌∙◌}
use Rattle.std.proofs.lemmas.Bool.{eqb-true}
use Rattle.recorder.proofs.Guesses.{guesses_same}
use Rattle.search_theory.specs.Claims.{Ordered}
use Rattle.domain_bits.specs.Removals.{State, in_domain}
use Rattle.propagation.proofs.Ordering.{ordered_none}
use Rattle.propagation.proofs.Takes.{prunes_taken, prunes_failed}
use Rattle.propagation.proofs.order.prune_order.Goals as goal

pub returns-in_err-taken-clause-prunes : goal.returns-in_err-taken-clause-prunes
returns-in_err-taken-clause-prunes g c = prunes_failed (λ (e : State). Ordered c.args.q.now (in_domain e)) _ c.from_residual.result _ _ _ _ _ _ _ _ c.from_residual.ensures.1 c.in_err-taken.ensures.takes

pub returns-clause-prunes : goal.returns-clause-prunes
returns-clause-prunes g c =
    prunes_taken _ (λ (e : State). Ordered c.args.q.now (in_domain e)) _ _ _ _ _ _ _ _ _ c.requires.quiet c.in_ok-taken.ensures.ordered c.requires.flagged c.in_ok-taken.ensures.takes
    (c.is_before.ensures ∙ (ap (λ n. ltb n c.mark-after.result) c.mark-from.ensures.length ∙ ap (ltb _) c.mark-after.ensures.length))

pub returns-then-is_empty-clause-prunes : goal.returns-then-is_empty-clause-prunes
returns-then-is_empty-clause-prunes g c = record {
  pruned = (refl, ordered_none c.args.q.now _ (ap length (sym c.less.ensures.pairs) ∙ eqb-true (length c.less.result.now) 0 (sym c.if-is_empty.ensures)));
  fails = λ s. tt;
  told_on = λ s t. t;
  guesses = guesses_same _ _ refl;
}
