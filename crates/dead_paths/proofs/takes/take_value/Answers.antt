use Rattle.std.proofs.Common.{◌≡◌, ◌==◌, ◌&&◌, ◌∙◌, ℕ, not, false, sym, ap, subst, rules}
use Rattle.bit_rows.specs.BitRows.{has, words_for}
use Rattle.needed_values.specs.Needed.{needs, AreRows}
use Rattle.graph_theory.specs.Graph.{size}
use Rattle.dead_paths.proofs.Resting.{value_left}
use Rattle.dead_paths.proofs.takes.take_value.Goals as goal

pub is_needed-requires-clause-held : goal.is_needed-requires-clause-held
is_needed-requires-clause-held c = subst (λ (k : ℕ). AreRows k c.args.marked.now c.args.needed.now) (sym c.count_values-values.ensures.is) c.requires.held

pub copy_needed-requires-clause-held : goal.copy_needed-requires-clause-held
copy_needed-requires-clause-held c = subst (λ (k : ℕ). AreRows k c.args.marked.now c.args.needed.now) (sym c.count_values-values.ensures.is) c.requires.held

pub copy_needed-requires-clause-long : goal.copy_needed-requires-clause-long
copy_needed-requires-clause-long c = c.requires.other ∙ ap (λ (k : ℕ). words_for k) (sym c.count_values-values.ensures.is)

pub returns-then-not-is_needed-clause-none : goal.returns-then-not-is_needed-clause-none
returns-then-not-is_needed-clause-none c = λ no.
    let off : c.is_needed.result ≡ false = search rules in
    subst (λ (k : ℕ). needs k c.args.marked.now c.args.needed.now c.args.x.0 c.args.x.1 ≡ false) c.count_values-values.ensures.is (sym c.is_needed.ensures ∙ off)

pub returns-clause-left : goal.returns-clause-left
returns-clause-left c =
    value_left (size c.args.q.now.target) c.count_values-values.result c.args.marked.now c.put_needed.new.marked c.args.needed.now c.put_needed.new.rows c.args.x.0 c.args.x.1 c.copy_needed.new.into c.unset_bit.new.row c.count_values-values.ensures.is c.copy_needed.ensures.bits
    (subst (λ (t : ℕ). (v : ℕ) → has c.unset_bit.new.row v ≡ (has c.copy_needed.new.into v && not (t == v))) c.from.ensures c.unset_bit.ensures) c.put_needed.ensures.bits c.put_needed.ensures.others
