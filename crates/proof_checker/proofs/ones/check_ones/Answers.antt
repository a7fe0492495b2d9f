use Rattle.std.proofs.Common.{List, Bool, ap, sym, ◌∙◌}
use Rattle.proof_theory.specs.Forms.{assignment}
use Rattle.proof_checker.proofs.Claims.{solved, not_solved}
use Rattle.proof_checker.proofs.ones.check_ones.Goals as goal

pub returns-then-not-all_hold : goal.returns-then-not-all_hold
returns-then-not-all_hold c = not_solved c.args.model.now c.args.ones.now (assignment c.deref.result.now) (sym c.if-not-mark_all.ensures.distinct) (λ v. ap (λ (xs : List Bool). assignment xs v) c.deref.ensures.value ∙ c.if-not-mark_all.ensures.marked v) (sym c.if-not-all_hold.ensures)

pub returns : goal.returns
returns c = solved c.args.model.now c.args.ones.now (assignment c.deref.result.now) (sym c.if-not-mark_all.ensures.distinct) (λ v. ap (λ (xs : List Bool). assignment xs v) c.deref.ensures.value ∙ c.if-not-mark_all.ensures.marked v) (sym c.if-not-all_hold.ensures)
