use Rattle.std.proofs.Common.{◌≡◌, ◌∙◌, ℕ, true, inl, inr, sym, ap, subst, rules}
use Rattle.graph_theory.specs.Graph.{size}
use Rattle.bit_rows.specs.BitRows.{words_for}
use Rattle.needed_values.specs.Needed.{AreRows}
use Rattle.dead_paths.proofs.Resting.{upheld_of, within_of}
use Rattle.dead_paths.proofs.needs.uphold.Goals as goal

pub returns-then-is_left_out-clause-upheld : goal.returns-then-is_left_out-clause-upheld
returns-then-is_left_out-clause-upheld c = λ path here. let yes : c.is_left_out.result ≡ true = search rules in inl (c.is_left_out.ensures.yes yes)

pub returns-then-holds_at-clause-upheld : goal.returns-then-holds_at-clause-upheld
returns-then-holds_at-clause-upheld c = λ path here. let yes : c.holds_at.result ≡ true = search rules in inr (inl (c.holds_at.ensures yes path here))

pub need_but-requires-clause-held : goal.need_but-requires-clause-held
need_but-requires-clause-held c = subst (λ (k : ℕ). AreRows k c.args.marked.now c.args.needed.now) (sym c.count_values.ensures.is) c.requires.held

pub need_but-requires-clause-spare : goal.need_but-requires-clause-spare
need_but-requires-clause-spare c = c.requires.spare ∙ ap (λ (k : ℕ). words_for k) (sym c.count_values.ensures.is)

pub returns-clause-upheld : goal.returns-clause-upheld
returns-clause-upheld c = λ path here. inr (inr (upheld_of (size c.args.walk.now.q.now.target) c.count_values.result c.need_but.new.marked c.need_but.new.rows c.args.x.0 c.args.x.1 c.count_values.ensures.is c.need_but.ensures.needed))

pub returns-clause-more : goal.returns-clause-more
returns-clause-more c = within_of (size c.args.walk.now.q.now.target) c.count_values.result c.args.marked.now c.need_but.new.marked c.args.needed.now c.need_but.new.rows c.count_values.ensures.is c.need_but.ensures.stays
