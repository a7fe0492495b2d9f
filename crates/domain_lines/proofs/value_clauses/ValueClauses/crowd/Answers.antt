use Rattle.std.proofs.Common.{◌∙◌, sym, subst, false}
use Rattle.graph_theory.specs.Embedding.{Problem}
use Rattle.domain_line_theory.specs.Crowds.{crowd_block}
use Rattle.domain_lines.specs.Operands.{AreBeside, AreValues, HasBlockFor}
use Rattle.domain_lines.proofs.Crowds.{all_crowds, chosen_beside, chosen_values, chosen_block}
use Rattle.domain_lines.proofs.value_clauses.ValueClauses.crowd.Goals as goal

pub crowd_refs-requires-clause-beside : goal.crowd_refs-requires-clause-beside
crowd_refs-requires-clause-beside c =
    subst (λ (q : Problem). AreBeside q c.args.p c.deref.result.now) (sym c.turned-turned.ensures.same)
    (chosen_beside c.args.self.now c.args.p c.args.d c.deref.result.now (c.deref.ensures.value ∙ (rw c.turned-turned.ensures.same at c.in_ok-vertices.ensures)))

pub crowd_refs-requires-clause-values : goal.crowd_refs-requires-clause-values
crowd_refs-requires-clause-values c =
    subst (λ (q : Problem). AreValues q c.deref-2.result.now) (sym c.turned-turned.ensures.same)
    (chosen_values c.args.self.now c.args.u c.args.d false c.deref-2.result.now (c.deref-2.ensures.value ∙ (rw c.turned-turned.ensures.same at c.in_ok-values.ensures)))

pub crowd_refs-requires-clause-there : goal.crowd_refs-requires-clause-there
crowd_refs-requires-clause-there c =
    subst (λ (q : Problem). HasBlockFor q (crowd_block q c.args.p) c.deref-2.result.now) (sym c.turned-turned.ensures.same)
    (chosen_block c.args.self.now c.args.p c.args.u c.args.d c.deref-2.result.now c.requires.there (c.deref-2.ensures.value ∙ (rw c.turned-turned.ensures.same at c.in_ok-values.ensures)))

pub returns : goal.returns
returns c =
    all_crowds c.args.self.now c.args.p c.args.u c.requires.p_in c.requires.u_in (λ v. v.items) c.args.d c.deref.result.now c.deref-2.result.now c.crowd_refs.result c.turned-turned.ensures.few_pattern c.turned-turned.ensures.few_target
    c.turned-turned.ensures.order c.requires.there
    (c.deref.ensures.value ∙ (rw c.turned-turned.ensures.same at c.in_ok-vertices.ensures)) (c.deref-2.ensures.value ∙ (rw c.turned-turned.ensures.same at c.in_ok-values.ensures))
    (rw c.turned-turned.ensures.same at c.crowd_refs.ensures)
