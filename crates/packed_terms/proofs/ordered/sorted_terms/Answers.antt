use Rattle.std.proofs.Common.{rules, sym, ap, ◌∙◌}
use Rattle.proof_theory.specs.Forms.{sorted}
use Rattle.pb_terms.proofs.Fronts.{sorted_rising}
use Rattle.packed_terms.proofs.ordered.sorted_terms.Goals as goal

pub returns-then-is_rising : goal.returns-then-is_rising
returns-then-is_rising c = c.fitted.ensures ∙ sym (ap sorted (sym c.deref.ensures.value) ∙ sorted_rising c.deref.result.now (c.is_rising.ensures.0 (search rules)) ∙ c.deref.ensures.value)
