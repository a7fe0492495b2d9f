use Rattle.std.proofs.Common.{◌≡◌, ◌<◌, ℕ, refl, sym, ap, subst, arith}
use Rattle.graph_theory.specs.Graph.{size}
use Rattle.bit_rows.specs.BitRows.{has, words_for}
use Rattle.needed_values.specs.Needed.{needs, AreRows}
use Rattle.dead_paths.proofs.Resting.{rows_again, step_all}
use Rattle.dead_paths.proofs.takes.take_all.Goals as goal

pub put_needed-requires-clause-held : goal.put_needed-requires-clause-held
put_needed-requires-clause-held c = subst (λ (k : ℕ). AreRows k c.args.marked.now c.args.needed.now) (sym c.count_values.ensures.is) c.requires.held

pub put_needed-requires-clause-row : goal.put_needed-requires-clause-row
put_needed-requires-clause-row c =
    let e = ap (λ (k : ℕ). words_for k) (sym c.count_values.ensures.is) in
    omega (arith, e, c.requires.left, c.keep_consistent.auto.row)

pub uphold-requires-clause-held : goal.uphold-requires-clause-held
uphold-requires-clause-held c =
    rows_again (size c.args.walk.now.q.now.target) c.args.marked.now c.put_needed.new.marked c.args.needed.now c.put_needed.new.rows (omega (arith, c.put_needed.auto.marked)) (omega (arith, c.put_needed.auto.rows)) c.requires.held

pub returns : goal.returns
returns c = λ path from here.
    step_all c.args.walk.now.q.now c.args.walk.now.rows.now path (size c.args.walk.now.q.now.target) c.count_values.result c.args.marked.now c.put_needed.new.marked c.uphold.new.marked c.args.needed.now c.put_needed.new.rows c.uphold.new.needed c.args.beside.p c.args.beside.t c.args.beside.r from
    c.args.other.now c.args.other.now c.args.left.now c.keep_consistent.new.row c.count_values.ensures.is
    (subst (λ (k : ℕ). (u : ℕ) → u < k → has c.args.other.now u ≡ needs k c.args.marked.now c.args.needed.now c.args.beside.r u) (sym c.count_values.ensures.is) c.requires.bits)
    refl c.requires.goes c.in_ok-_all.ensures.leaves c.put_needed.ensures.bits c.put_needed.ensures.others c.uphold.ensures.more (c.uphold.ensures.upheld path here) refl
