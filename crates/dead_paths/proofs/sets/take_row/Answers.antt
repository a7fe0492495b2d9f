use Rattle.std.proofs.Common.{◌≡◌, ◌∙◌, ℕ, true, false, sym, ap, subst, arith, rules}
use Rattle.graph_theory.specs.Graph.{size}
use Rattle.bit_rows.specs.BitRows.{words_for}
use Rattle.needed_values.specs.Needed.{AreRows}
use Rattle.dead_paths.proofs.Resting.{none_inside, row_inside, row_left}
use Rattle.dead_paths.proofs.sets.take_row.Goals as goal

pub is_any_needed-requires-clause-held : goal.is_any_needed-requires-clause-held
is_any_needed-requires-clause-held c = subst (λ (k : ℕ). AreRows k c.args.marked.now c.args.needed.now) (sym c.count_values-values.ensures.is) c.requires.held

pub copy_needed-requires-clause-held : goal.copy_needed-requires-clause-held
copy_needed-requires-clause-held c = subst (λ (k : ℕ). AreRows k c.args.marked.now c.args.needed.now) (sym c.count_values-values.ensures.is) c.requires.held

pub copy_needed-requires-clause-long : goal.copy_needed-requires-clause-long
copy_needed-requires-clause-long c = c.requires.other ∙ ap (λ (k : ℕ). words_for k) (sym c.count_values-values.ensures.is)

pub put_needed-requires-clause-held : goal.put_needed-requires-clause-held
put_needed-requires-clause-held c = subst (λ (k : ℕ). AreRows k c.args.marked.now c.args.needed.now) (sym c.count_values-values.ensures.is) c.requires.held

pub put_needed-requires-clause-row : goal.put_needed-requires-clause-row
put_needed-requires-clause-row c =
    let e = ap (λ (k : ℕ). words_for k) (sym c.count_values-values.ensures.is) in
    omega (arith, e, c.requires.spare, c.copy_from_slice.auto.self, c.and_into.auto.into)

pub returns-then-not-is_any_needed-clause-inside : goal.returns-then-not-is_any_needed-clause-inside
returns-then-not-is_any_needed-clause-inside c = λ e.
    let no : c.is_any_needed.result ≡ false = search rules in
    none_inside (size c.args.q.now.target) c.count_values-values.result c.args.marked.now c.args.needed.now c.args.r c.args.set.now c.count_values-values.ensures.is (c.is_any_needed.ensures no)

pub returns-then-is_same-clause-inside : goal.returns-then-is_same-clause-inside
returns-then-is_same-clause-inside c = λ e.
    let yes : c.is_same.result ≡ true = search rules in
    row_inside (size c.args.q.now.target) c.count_values-values.result c.args.marked.now c.args.needed.now c.args.r c.copy_needed.new.into c.copy_from_slice.new.self c.and_into.new.into c.args.set.now c.count_values-values.ensures.is c.copy_needed.ensures.bits
    c.copy_from_slice.ensures.after c.and_into.ensures.members (c.is_same.ensures yes)

pub returns-clause-left : goal.returns-clause-left
returns-clause-left c =
    row_left (size c.args.q.now.target) c.count_values-values.result c.args.marked.now c.put_needed.new.marked c.args.needed.now c.put_needed.new.rows c.args.r c.copy_needed.new.into c.copy_from_slice.new.self c.and_into.new.into c.args.set.now
    c.count_values-values.ensures.is c.copy_needed.ensures.bits c.copy_from_slice.ensures.after c.and_into.ensures.members c.put_needed.ensures.bits c.put_needed.ensures.others
