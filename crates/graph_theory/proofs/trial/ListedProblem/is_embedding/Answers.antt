use Rattle.std.proofs.Common.{rules, refl}
use Rattle.graph_theory.proofs.PlainTests.{embeds-from_rows, rows-from_embeds}
use Rattle.graph_theory.proofs.trial.ListedProblem.is_embedding.Goals as goal

pub returns-then-is_in_order : goal.returns-then-is_in_order
returns-then-is_in_order c = (
  λ kept. embeds-from_rows _ _ (search rules) (c.if-not-are_images.ensures.0 refl) (c.rows_are_kept.ensures.0 kept) (c.if-is_in_order.ensures.0 refl),
  λ e. c.rows_are_kept.ensures.1 (rows-from_embeds _ _ e),
)
